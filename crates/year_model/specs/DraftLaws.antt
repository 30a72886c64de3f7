-- Which drafts a year takes back.
use Rattle.std.specs.Prelude.{◌≡◌, ℕ, Bool, true, List, ◌∷◌, is_some, is_ok, ◌≢◌}
use Rattle.year_model.specs.Bills.{draft_out}
use Rattle.year_model.specs.Calls.{Call, call_issue, call_start, call_tear}
use Rattle.year_model.specs.Makings.{Makings}
use Rattle.year_model.specs.Journal.{EachAccepted, told_at}
use Rattle.year_model.specs.State.{State}
use Rattle.year_model.specs.Steps.{after, reply, state_after}

-- A draft is spendable where it is out: book, contract and month are those of a draft that was started and not spent.
abbrev pub spendable : Makings → State → ℕ → ℕ → ℕ → Bool
spendable m s book n month = is_some (draft_out m s book n month)

-- Issue and tear accept exactly the spendable drafts.
abbrev pub AcceptsTheSpendable : Makings → State → Type 0
AcceptsTheSpendable m s =
    (book n month : ℕ) →
    (is_ok (reply m s (call_issue book n month)) ≡ spendable m s book n month)
    × (is_ok (reply m s (call_tear book n month)) ≡ spendable m s book n month)

abbrev pub SpendableDraftsAreAccepted : Type 0
SpendableDraftsAreAccepted = (m : Makings) (s : State) → AcceptsTheSpendable m s

-- A spendable draft stays so over every call that does not spend it.
abbrev pub StaysSpendable : Makings → State → Type 0
StaysSpendable m s =
    (c : Call) (book n month : ℕ) → spendable m s book n month ≡ true
    → (c ≢ call_issue book n month) → (c ≢ call_tear book n month) → spendable m (after m s c) book n month ≡ true

abbrev pub DraftsStaySpendable : Type 0
DraftsStaySpendable = (m : Makings) (s : State) → StaysSpendable m s

-- Every accepted start of a list of calls hands out a draft that is spendable then.
abbrev pub StartedDraftsAreSpendable : Makings → List Call → Type 0
StartedDraftsAreSpendable m calls =
    EachAccepted m
    (λ older c told. (n kwmax reading : ℕ) → c ≡ call_start n kwmax reading → spendable m (state_after m (c ∷ older)) (told_at told 0) (told_at told 1) (told_at told 2) ≡ true)
    calls
