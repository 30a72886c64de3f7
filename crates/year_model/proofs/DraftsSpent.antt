-- Which drafts a year takes back: exactly those that were started and not spent.
use Rattle.std.proofs.Common.{◌≡◌, ℕ, ◌-◌, true, eqb, List, [], ◌∷◌, ◌++◌, get_or, is_some, is_ok, Some, None, Ok, Option, sym, refl, ap, ◌∙◌, subst, arith}
use Rattle.std.proofs.lemmas.Bool.{cond-true, eq-eqb, false≢true}
use Rattle.year_model.specs.declared.tables.Contract.{Contract}
use Rattle.year_model.specs.declared.tables.Started.{Started}
use Rattle.year_model.specs.Bills.{billed, draft_out, issue_with, out_of, out_with, tear_with, with_draft}
use Rattle.year_model.specs.Calls.{Call, Outcome, call_contract, call_cost, call_couple, call_fix, call_issue, call_open, call_pass, call_settle, call_start, call_take_back, call_tear, call_use, reply_of, state_of}
use Rattle.year_model.specs.DraftLaws.{DraftsStaySpendable, SpendableDraftsAreAccepted, StartedDraftsAreSpendable, spendable}
use Rattle.year_model.specs.Makings.{Makings}
use Rattle.year_model.specs.Passes.{passed, passed_in_turn, settle_order}
use Rattle.year_model.specs.Journal.{told_at}
use Rattle.year_model.specs.Sound.{no_contract}
use Rattle.year_model.specs.State.{State, numbered, with_contract, with_contracts}
use Rattle.year_model.specs.Steps.{outcome, reply, state_after}
use Rattle.year_model.proofs.Acceptance.{Starts, accepted_contract, accepted_cost, accepted_couple, accepted_fix, accepted_issue, accepted_open, accepted_pass, accepted_settle, accepted_start, accepted_take_back, accepted_tear, accepted_use}
use Rattle.year_model.proofs.Drafts.{Out, out_from_draft}
use Rattle.year_model.proofs.Histories.{contract_made, each_accepted}
use Rattle.year_model.proofs.Lookups.{Entry, numbered_from_entry}
use Rattle.year_model.proofs.Numbered.{numbered_push_other, numbered_set_other, numbered_set_same}

-- Issue and tear come to a refusal just where no draft is out.
issue_accepts : (m : Makings) (s : State) (n : ℕ) (out : Option (Contract × Started)) → is_ok (reply_of (issue_with m s n out)) ≡ is_some out
issue_accepts m s n None = refl
issue_accepts m s n (Some out) = refl

tear_accepts : (s : State) (n : ℕ) (out : Option (Contract × Started)) → is_ok (reply_of (tear_with s n out)) ≡ is_some out
tear_accepts s n None = refl
tear_accepts s n (Some out) = refl

pub spendable_drafts_are_accepted : SpendableDraftsAreAccepted
spendable_drafts_are_accepted m s book n month = (issue_accepts m s n (draft_out m s book n month), tear_accepts s n (draft_out m s book n month))

-- A contract with this number whose draft was started makes that draft spendable.
spendable_from : (m : Makings) (s : State) (book n month : ℕ) (c : Contract) (d : Started) → book ≡ m.book → numbered s.contracts n ≡ Some c → c.started ≡ Some d → month ≡ c.month → spendable m s book n month ≡ true
spendable_from m s book n month c d of_book found started of_month =
    let inner = ap (out_of month) found ∙ ap (out_with c month) started ∙ cond-true (eqb month c.month) (Some (c, d)) None (eq-eqb month c.month of_month) in
    ap (λ (o : Option (Contract × Started)). is_some o) (cond-true (eqb book m.book) (out_of month (numbered s.contracts n)) None (eq-eqb book m.book of_book) ∙ inner)

-- what a spendable draft is out of
record Spendable (m : Makings) (s : State) (book n month : ℕ) : Type 0 where
  contract : Contract
  start : Started
  out : Out m s book n month (contract, start)

spendable_out : (m : Makings) (s : State) (book n month : ℕ) (looked : Option (Contract × Started)) → draft_out m s book n month ≡ looked → is_some looked ≡ true → Spendable m s book n month
spendable_out m s book n month None is some = absurd (false≢true some)
spendable_out m s book n month (Some out) is some = record { contract = out.0; start = out.1; out = out_from_draft m s book n month out is }

-- A draft stays spendable where its contract stays as it is.
stays : (m : Makings) (s t : State) (book n month : ℕ) → (draft : Spendable m s book n month) → numbered t.contracts n ≡ numbered s.contracts n → spendable m t book n month ≡ true
stays m s t book n month draft same =
    let at = draft.out.entry in
    let found = numbered_from_entry s.contracts n no_contract at.low at.high ∙ ap Some (at.here no_contract) in
    spendable_from m t book n month draft.contract draft.start draft.out.of_book (same ∙ found) draft.out.started draft.out.of_month

-- Passes leave the contracts.
contracts_passed : (m : Makings) (s : State) (n : ℕ) → (state_of s (passed m s n)).contracts ≡ s.contracts
contracts_passed m s n = accepted_pass m s (λ o. (state_of s o).contracts ≡ s.contracts) (λ _. refl) n (λ x ok. refl)

pub contracts_in_turn : (m : Makings) (s : State) (ns : List ℕ) → (passed_in_turn m s ns).contracts ≡ s.contracts
contracts_in_turn m s [] = refl
contracts_in_turn m s (n ∷ ns) = contracts_in_turn m (state_of s (passed m s n)) ns ∙ contracts_passed m s n

-- Another contract's draft is none of this one's business.
other_stays : (m : Makings) (s : State) (book n month : ℕ) → Spendable m s book n month → (q : ℕ) (c : Contract) → Entry s.contracts q c → (k : Contract) → (n ≡ q → ⊥) → spendable m (with_contract s q k) book n month ≡ true
other_stays m s book n month draft q c at k other = stays m s (with_contract s q k) book n month draft (numbered_set_other s.contracts q n k at.low other)

-- Two entries under one number are the same.
same_entry : {X : Type 0} (xs : List X) (n q : ℕ) (x y d : X) → n ≡ q → Entry xs n x → Entry xs q y → x ≡ y
same_entry xs n q x y d e one two = sym (one.here d) ∙ ap (λ k. get_or xs (k - 1) d) e ∙ two.here d

-- A draft that is out keeps its contract from being started again.
not_started_again : (s : State) (n kwmax reading : ℕ) (c k : Contract) (d : Started) → Starts s n kwmax reading c → k.started ≡ Some d → c ≡ k → ⊥
not_started_again s n kwmax reading c k d ok started same = let z : ◌≡◌ {A = ℕ} 0 1 = cc (ok.none_out, ap (λ (x : Contract). x.started) same) in omega arith

module _ (m : Makings) (s : State) (book n month : ℕ) (draft : Spendable m s book n month) (now : spendable m s book n month ≡ true) where
  abbrev Still : Outcome → Type 0
  Still o = spendable m (state_of s o) book n month ≡ true

  -- One draft of a contract is out at a time, so a draft that is spent here is that of another contract, or this one.
  another : (q : ℕ) (k : Contract) (d : Started) (their_book their_month : ℕ) → Out m s their_book q their_month (k, d) → n ≡ q → (their_book ≡ book) × (q ≡ n) × (their_month ≡ month)
  another q k d their_book their_month out e =
      let same : draft.contract ≡ k = same_entry s.contracts n q draft.contract k no_contract e draft.out.entry out.entry in
      (out.of_book ∙ sym draft.out.of_book, sym e, out.of_month ∙ ap (λ (c : Contract). c.month) (sym same) ∙ sym draft.out.of_month)

  still_after : (c : Call) → (c ≡ call_issue book n month → ⊥) → (c ≡ call_tear book n month → ⊥) → Still (outcome m s c)
  still_after (call_open level category) no_issue no_tear = accepted_open m s Still (λ _. now) level category (λ ok. now)
  still_after (call_couple upper lower kw mwh) no_issue no_tear = accepted_couple m s Still (λ _. now) upper lower kw mwh (λ above below ok. now)
  still_after (call_use q kw mwh permille) no_issue no_tear = accepted_use m s Still (λ _. now) q kw mwh permille (λ x ok. now)
  still_after (call_cost q euros) no_issue no_tear = accepted_cost m s Still (λ _. now) q euros (λ x ok. now)
  still_after (call_take_back q euros) no_issue no_tear = accepted_take_back m s Still (λ _. now) q euros (λ x ok. now)
  still_after (call_pass q) no_issue no_tear = accepted_pass m s Still (λ _. now) q (λ x ok. now)
  still_after call_settle no_issue no_tear =
      accepted_settle m s Still (λ _. now) (λ free.
      stays m s (passed_in_turn m s (settle_order s)) book n month draft (ap (λ (cs : List Contract). numbered cs n) (contracts_in_turn m s (settle_order s))))
  still_after (call_fix q v₁ v₂ v₃ v₄) no_issue no_tear = accepted_fix m s Still (λ _. now) q v₁ v₂ v₃ v₄ (λ x f ok. now)
  still_after (call_contract q kw fee first last reading) no_issue no_tear =
      accepted_contract m s Still (λ _. now) q kw fee first last reading (λ x f ok.
      let k = contract_made f q kw fee first last reading in
      stays m s (with_contracts s (s.contracts ++ k ∷ [])) book n month draft
      (numbered_push_other s.contracts n k (λ e. omega (arith, draft.out.entry.high))))
  still_after (call_start q kwmax reading) no_issue no_tear =
      accepted_start m s Still (λ _. now) q kwmax reading (λ c ok.
      other_stays m s book n month draft q c ok.at (with_draft c (Some record { kwmax = kwmax; reading = reading })) (λ e.
      not_started_again s q kwmax reading c draft.contract draft.start ok draft.out.started (same_entry s.contracts q n c draft.contract no_contract (sym e) ok.at draft.out.entry)))
  still_after (call_issue their_book q their_month) no_issue no_tear =
      accepted_issue m s Still (λ _. now) their_book q their_month (λ c d out.
      other_stays m s book n month draft q c out.entry (billed m s c d) (λ e.
      let is = another q c d their_book their_month out e in
      no_issue (cc (is.0, is.1, is.2))))
  still_after (call_tear their_book q their_month) no_issue no_tear =
      accepted_tear m s Still (λ _. now) their_book q their_month (λ c d out.
      other_stays m s book n month draft q c out.entry (with_draft c None) (λ e.
      let is = another q c d their_book their_month out e in
      no_tear (cc (is.0, is.1, is.2))))

pub drafts_stay_spendable : DraftsStaySpendable
drafts_stay_spendable m s c book n month now no_issue no_tear =
    still_after m s book n month (spendable_out m s book n month (draft_out m s book n month) refl now) now c no_issue no_tear

-- A draft is spendable in the state that its start leads to.
started_spendable : (m : Makings) (s : State) (n kwmax reading : ℕ) (told : List ℕ) → reply m s (call_start n kwmax reading) ≡ Ok told
    → spendable m (state_of s (outcome m s (call_start n kwmax reading))) (told_at told 0) (told_at told 1) (told_at told 2) ≡ true
started_spendable m s n kwmax reading told =
    accepted_start m s
    (λ o. reply_of o ≡ Ok told → spendable m (state_of s o) (told_at told 0) (told_at told 1) (told_at told 2) ≡ true)
    (λ refusal e. let z : ◌≡◌ {A = ℕ} 0 1 = cc in absurd (omega arith))
    n kwmax reading (λ c ok e.
    let k = with_draft c (Some record { kwmax = kwmax; reading = reading }) in
    let are : m.book ∷ n ∷ c.month ∷ [] ≡ told = cc in
    subst (λ (ns : List ℕ). spendable m (with_contract s n k) (told_at ns 0) (told_at ns 1) (told_at ns 2) ≡ true) are
    (spendable_from m (with_contract s n k) m.book n c.month k record { kwmax = kwmax; reading = reading } refl
    (numbered_set_same s.contracts n c k ok.at) refl refl))

pub started_drafts_are_spendable : (m : Makings) (calls : List Call) → StartedDraftsAreSpendable m calls
started_drafts_are_spendable m calls =
    each_accepted m
    (λ older c told. (n kwmax reading : ℕ) → c ≡ call_start n kwmax reading → spendable m (state_after m (c ∷ older)) (told_at told 0) (told_at told 1) (told_at told 2) ≡ true)
    (λ older c told accepted n kwmax reading e.
    subst (λ (d : Call). reply m (state_after m older) d ≡ Ok told → spendable m (state_after m (d ∷ older)) (told_at told 0) (told_at told 1) (told_at told 2) ≡ true) (sym e)
    (started_spendable m (state_after m older) n kwmax reading told) accepted)
    calls
