-- What a start comes to.
use Rattle.std.proofs.Common.{◌≡◌, ℕ, ◌≤◌, true, cond, ◌||◌, eqb, ltb, [], ◌∷◌, is_some, Some, None, Ok, Err, Option, sym, refl, ap, ◌∙◌, subst}
use Rattle.std.proofs.lemmas.Bool.{cond-false, cond-true, eq-eqb, le-ltb}
use Rattle.refusal.specs.declared.ground.Ground.TheVariants.{LineTooHigh}
use Rattle.refusal.specs.declared.refusal.Refusal.{Refusal}
use Rattle.refusal.specs.Refusals.{refuse}
use Rattle.billing.specs.Charges.{largest_kw}
use Rattle.billing.specs.Metering.{largest_line}
use Rattle.calendar.specs.Days.{month_of}
use Rattle.year_model.specs.declared.tables.Contract.{Contract}
use Rattle.year_model.specs.declared.tables.Started.{Started}
use Rattle.year_model.specs.Bills.{kwh_line, kwmax_line, out_of, started_draft, with_draft}
use Rattle.year_model.specs.Calls.{Outcome, Reply, call_start, largest_number, reply_of, state_of}
use Rattle.year_model.specs.DraftLaws.{spendable}
use Rattle.year_model.specs.Makings.{Makings}
use Rattle.year_model.specs.State.{State, numbered, with_contract}
use Rattle.year_model.proofs.Lookups.{entry_from_numbered}
use Rattle.year_model.proofs.Numbered.{numbered_set_same}
use Rattle.tariff_year.specs.declared.bills.MeteredCents.{MeteredCents}
use Rattle.tariff_year.specs.Lines.{lines_answer, metered_cents}
use Rattle.tariff_year.specs.Years.{Did}
use Rattle.tariff_year.proofs.Ways.{err_from_test, ok_from_test}

-- All that is asked before the lines holds, of this contract.
pub record Startable (s : State) (n kwmax reading : ℕ) (k : Contract) : Type 0 where
  pub number : n ≤ largest_number
  pub kwmax_fits : kwmax ≤ largest_kw
  pub reads : reading ≤ largest_number
  pub found : numbered s.contracts n ≡ Some k
  pub none_out : k.started ≡ None
  pub left : k.month ≤ month_of k.last
  pub rises : k.reading ≤ reading

module _ (m : Makings) (s : State) (n kwmax reading : ℕ) (k : Contract) (ok : Startable s n kwmax reading k) where
  -- The call goes on to the lines.
  goes_on : started_draft m s n kwmax reading ≡ cond (ltb largest_line (kwmax_line s k kwmax) || ltb largest_line (kwh_line s k reading)) (Err (refuse LineTooHigh 0)) (Ok (with_contract s n (with_draft k (Some record { kwmax = kwmax; reading = reading })), m.book ∷ n ∷ k.month ∷ []))
  goes_on =
      let e₁ = le-ltb largest_number n ok.number in
      let e₂ = le-ltb largest_kw kwmax ok.kwmax_fits in
      let e₃ = le-ltb largest_number reading ok.reads in
      let e₄ = ok.found in
      let e₅ = ok.none_out in
      let e₆ = le-ltb (month_of k.last) k.month ok.left in
      let e₇ = le-ltb reading k.reading ok.rises in
      simp (e₁, e₂, e₃, e₄, e₅, e₆, e₇)

  -- Where a line is refused, so is the call,
  pub start_refused : (e : Refusal) → Err e ≡ lines_answer s k kwmax reading → (told : Reply) → told ≡ Err e → Did m s (call_start n kwmax reading) told s
  start_refused e lines told is =
      let way = err_from_test (ltb largest_line (kwmax_line s k kwmax) || ltb largest_line (kwh_line s k reading)) (refuse LineTooHigh 0) e (metered_cents s k kwmax reading) lines in
      let done : started_draft m s n kwmax reading ≡ Err (refuse LineTooHigh 0) = goes_on ∙ cond-true {A = Outcome} (ltb largest_line (kwmax_line s k kwmax) || ltb largest_line (kwh_line s k reading)) _ _ way.0 in
      record { answered = is ∙ ap (λ (r : Refusal). Err r) way.1 ∙ sym (ap reply_of done); state = sym (ap (state_of s) done) }

  module _ (place : Contract) (same : place ≡ k) where
    -- and else the contract's draft is out.
    pub draft_started : (lines : MeteredCents) → Ok lines ≡ lines_answer s k kwmax reading
        → Did m s (call_start n kwmax reading) (Ok (m.book ∷ n ∷ k.month ∷ [])) (with_contract s n (with_draft place (Some record { kwmax = kwmax; reading = reading })))
    draft_started lines payable =
        let d : Started = record { kwmax = kwmax; reading = reading } in
        let way = ok_from_test (ltb largest_line (kwmax_line s k kwmax) || ltb largest_line (kwh_line s k reading)) (refuse LineTooHigh 0) (metered_cents s k kwmax reading) lines payable in
        let done : started_draft m s n kwmax reading ≡ Ok (with_contract s n (with_draft k (Some d)), m.book ∷ n ∷ k.month ∷ []) =
        goes_on ∙ cond-false {A = Outcome} (ltb largest_line (kwmax_line s k kwmax) || ltb largest_line (kwh_line s k reading)) _ _ way.0 in
        record { answered = sym (ap reply_of done); state = ap (λ (x : Contract). with_contract s n (with_draft x (Some d))) same ∙ sym (ap (state_of s) done) }

    -- It is spendable then.
    pub draft_ready : spendable m (with_contract s n (with_draft place (Some record { kwmax = kwmax; reading = reading }))) m.book n k.month ≡ true
    draft_ready =
        let d : Started = record { kwmax = kwmax; reading = reading } in
        let c = with_draft k (Some d) in
        let t = with_contract s n c in
        let there = numbered_set_same s.contracts n k c (entry_from_numbered s.contracts n k ok.found) in
        let out = ap (out_of k.month) there ∙ cond-true (eqb k.month k.month) (Some (c, d)) None (eq-eqb k.month k.month refl) in
        let is : spendable m t m.book n k.month ≡ true =
        ap (λ (o : Option (Contract × Started)). is_some o) (cond-true (eqb m.book m.book) (out_of k.month (numbered t.contracts n)) None (eq-eqb m.book m.book refl) ∙ out) in
        subst (λ (x : Contract). spendable m (with_contract s n (with_draft x (Some d))) m.book n k.month ≡ true) (sym same) is
