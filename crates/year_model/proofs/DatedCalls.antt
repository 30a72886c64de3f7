-- Every call keeps the terms of the contracts within the calendar year.
use Rattle.std.proofs.Common.{◌≡◌, ℕ, ◌-◌, true, ◌&&◌, leb, List, [], ◌∷◌, Some, None, sym, subst, arith}
use Rattle.std.proofs.lemmas.Bool.{and_from, le-leb}
use Rattle.billing.specs.Charges.{charge}
use Rattle.calendar.specs.Days.{is_day}
use Rattle.calendar.specs.Terms.{is_term}
use Rattle.year_model.specs.declared.tables.Contract.{Contract}
use Rattle.year_model.specs.Bills.{billed, new_contract, tariff_at, with_draft}
use Rattle.year_model.specs.Calls.{Call, Outcome, call_contract, call_cost, call_couple, call_fix, call_issue, call_open, call_pass, call_settle, call_start, call_take_back, call_tear, call_use, state_of}
use Rattle.year_model.specs.Laws.{CallsKeepDates, EveryTermIsDated}
use Rattle.year_model.specs.Makings.{Makings}
use Rattle.year_model.specs.Passes.{passed, passed_in_turn, settle_order}
use Rattle.year_model.specs.Sound.{TermsDated, no_contract}
use Rattle.year_model.specs.State.{State, with_contract}
use Rattle.year_model.specs.Steps.{after, state_after}
use Rattle.year_model.proofs.Acceptance.{accepted_contract, accepted_cost, accepted_couple, accepted_fix, accepted_issue, accepted_open, accepted_pass, accepted_settle, accepted_start, accepted_take_back, accepted_tear, accepted_use}
use Rattle.year_model.proofs.Entries.{throughout_push, throughout_set}
use Rattle.year_model.proofs.Lookups.{Entry}

-- The term of a contract is one of the year.
abbrev Dated : ℕ → Contract → Type 0
Dated calendar c = is_term calendar c.first c.last ≡ true

-- What a call comes to has its terms within the year.
abbrev DatedAfter : Makings → State → Outcome → Type 0
DatedAfter m s o = TermsDated m.calendar (state_of s o)

-- the term of the contract with a number
pub dated_entry : (calendar : ℕ) (s : State) → TermsDated calendar s → (n : ℕ) (c : Contract) → Entry s.contracts n c → is_term calendar c.first c.last ≡ true
dated_entry calendar s v n c at = subst (Dated calendar) (at.here no_contract) (v (n - 1) (omega (arith, at.low, at.high)))

-- One contract changed, and not its term.
dated_changed : (calendar : ℕ) (s : State) → TermsDated calendar s → (n : ℕ) (c : Contract) → is_term calendar c.first c.last ≡ true → TermsDated calendar (with_contract s n c)
dated_changed calendar s v n c term = throughout_set (Dated calendar) s.contracts (n - 1) c no_contract v term

-- A pass changes no contract.
dated_passed : (m : Makings) (s : State) → TermsDated m.calendar s → (n : ℕ) → TermsDated m.calendar (state_of s (passed m s n))
dated_passed m s v n = accepted_pass m s (DatedAfter m s) (λ _. v) n (λ x ok. v)

-- Passes in turn change none.
dated_in_turn : (m : Makings) (s : State) → TermsDated m.calendar s → (ns : List ℕ) → TermsDated m.calendar (passed_in_turn m s ns)
dated_in_turn m s v [] = v
dated_in_turn m s v (n ∷ ns) = dated_in_turn m (state_of s (passed m s n)) (dated_passed m s v n) ns

-- Every call keeps the terms within the year.
pub dated_after : CallsKeepDates
dated_after m s v (call_open level category) = accepted_open m s (DatedAfter m s) (λ _. v) level category (λ ok. v)
dated_after m s v (call_couple upper lower kw mwh) = accepted_couple m s (DatedAfter m s) (λ _. v) upper lower kw mwh (λ above below ok. v)
dated_after m s v (call_use n kw mwh permille) = accepted_use m s (DatedAfter m s) (λ _. v) n kw mwh permille (λ x ok. v)
dated_after m s v (call_cost n euros) = accepted_cost m s (DatedAfter m s) (λ _. v) n euros (λ x ok. v)
dated_after m s v (call_take_back n euros) = accepted_take_back m s (DatedAfter m s) (λ _. v) n euros (λ x ok. v)
dated_after m s v (call_pass n) = dated_passed m s v n
dated_after m s v call_settle = accepted_settle m s (DatedAfter m s) (λ _. v) (λ _. dated_in_turn m s v (settle_order s))
dated_after m s v (call_fix n v₁ v₂ v₃ v₄) = accepted_fix m s (DatedAfter m s) (λ _. v) n v₁ v₂ v₃ v₄ (λ x f ok. v)
dated_after m s v (call_contract n kw fee first last reading) =
    accepted_contract m s (DatedAfter m s) (λ _. v) n kw fee first last reading (λ x f ok.
    throughout_push (Dated m.calendar) s.contracts (new_contract n kw fee first last reading (charge fee kw (tariff_at f 1) (tariff_at f 4))) no_contract v
    (and_from (is_day m.calendar first) (is_day m.calendar last && leb first last) ok.begins (and_from (is_day m.calendar last) (leb first last) ok.ends (le-leb first last ok.ordered))))
dated_after m s v (call_start n kwmax reading) =
    accepted_start m s (DatedAfter m s) (λ _. v) n kwmax reading (λ c ok.
    dated_changed m.calendar s v n (with_draft c (Some record { kwmax = kwmax; reading = reading })) (dated_entry m.calendar s v n c ok.at))
dated_after m s v (call_issue book n month) =
    accepted_issue m s (DatedAfter m s) (λ _. v) book n month (λ c d out.
    dated_changed m.calendar s v n (billed m s c d) (dated_entry m.calendar s v n c out.entry))
dated_after m s v (call_tear book n month) =
    accepted_tear m s (DatedAfter m s) (λ _. v) book n month (λ c d out.
    dated_changed m.calendar s v n (with_draft c None) (dated_entry m.calendar s v n c out.entry))

-- They are within it after every list of calls.
pub dated_state_after : EveryTermIsDated
dated_state_after m [] = λ k h. absurd (omega arith)
dated_state_after m (c ∷ calls) = dated_after m (state_after m calls) (dated_state_after m calls) c

-- The same, for a state that is told to be the one after the call.
pub dated_by : (m : Makings) (c : Call) (s t : State) → t ≡ after m s c → TermsDated m.calendar s → TermsDated m.calendar t
dated_by m c s t e v = subst (TermsDated m.calendar) (sym e) (dated_after m s v c)
