-- What issue and tear come to where the draft is out.
use Rattle.std.proofs.Common.{◌≡◌, ℕ, ◌≤◌, [], ◌∷◌, Some, None, Ok, sym, refl, ap, ◌∙◌, subst}
use Rattle.billing.specs.declared.months.MonthCents.{MonthCents}
use Rattle.year_model.specs.declared.tables.Contract.{Contract}
use Rattle.year_model.specs.declared.tables.Started.{Started}
use Rattle.year_model.specs.Bills.{billed, draft_out, issue_with, issued_draft, kwh_line, kwmax_line, month_issued, month_waived, tear_with, torn_draft, with_draft}
use Rattle.year_model.specs.Calls.{Reply, call_issue, call_tear, reply_of, state_of}
use Rattle.year_model.specs.Makings.{Lawful, Makings}
use Rattle.year_model.specs.Sound.{Sound}
use Rattle.year_model.specs.State.{State, with_contract}
use Rattle.year_model.proofs.Drafts.{out_from_draft}
use Rattle.year_model.proofs.Numbered.{numbered_set_other}
use Rattle.tariff_year.specs.declared.bills.MeteredCents.{MeteredCents}
use Rattle.tariff_year.specs.Lines.{Countable, metered_cents, month_cents, with_month}
use Rattle.tariff_year.specs.Told.{OthersStay}
use Rattle.tariff_year.specs.Years.{Did}
use Rattle.tariff_year.proofs.Holding.{countable, held_of}

-- Where one contract is changed, the others stay.
pub others_stay : (s : State) (n : ℕ) (k : Contract) → 1 ≤ n → OthersStay n s (with_contract s n k)
others_stay s n k low =
    record { contracts = λ q other. numbered_set_other s.contracts n q k low other; systems = refl; couplings = refl; net = refl }

-- the reply that tells a bill
abbrev bill_reply : ℕ → ℕ → MonthCents → MeteredCents → Reply
bill_reply n month cents lines = Ok (n ∷ month ∷ cents.issued ∷ lines.kwmax ∷ lines.kwh ∷ cents.waived ∷ [])

module _ (m : Makings) (s : State) (book n month : ℕ) (k : Contract) (d : Started) (out : draft_out m s book n month ≡ Some (k, d)) (place : Contract) (same : place ≡ k) where
  -- A torn draft is out no more.
  pub draft_torn : Did m s (call_tear book n month) (Ok []) (with_contract s n (with_draft place None))
  draft_torn =
      let done : torn_draft m s book n month ≡ Ok (with_contract s n (with_draft k None), []) = ap (tear_with s n) out in
      record { answered = sym (ap reply_of done); state = ap (λ (x : Contract). with_contract s n (with_draft x None)) same ∙ sym (ap (state_of s) done) }

  module _ (lines : MeteredCents) (cents : MonthCents) (lines_are : lines ≡ metered_cents s k d.kwmax d.reading) (cents_are : cents ≡ month_cents m k month) where
    -- the month is the next one of the contract
    cents_due : cents ≡ month_cents m k k.month
    cents_due = cents_are ∙ ap (month_cents m k) (out_from_draft m s book n month (k, d) out).of_month

    -- An issued draft is billed.
    pub draft_issued : (later : Contract) → later ≡ with_month place d lines cents → Did m s (call_issue book n month) (bill_reply n month cents lines) (with_contract s n later)
    draft_issued later is =
        let done : issued_draft m s book n month ≡ Ok (with_contract s n (billed m s k d), n ∷ k.month ∷ month_issued m k k.month ∷ kwmax_line s k d.kwmax ∷ kwh_line s k d.reading ∷ month_waived m k k.month ∷ []) =
        ap (issue_with m s n) out in
        let due = metered_cents s k d.kwmax d.reading in
        record {
          answered =
              ap (λ q. bill_reply n q cents lines) (out_from_draft m s book n month (k, d) out).of_month
              ∙ ap (λ (c : MonthCents). bill_reply n k.month c lines) cents_due
              ∙ ap (λ (l : MeteredCents). bill_reply n k.month (month_cents m k k.month) l) lines_are
              ∙ sym (ap reply_of done);
          state =
              ap (λ (x : Contract). with_contract s n x) is
              ∙ ap (λ (x : Contract). with_contract s n (with_month x d lines cents)) same
              ∙ ap (λ (c : MonthCents). with_contract s n (with_month k d lines c)) cents_due
              ∙ ap (λ (l : MeteredCents). with_contract s n (with_month k d l (month_cents m k k.month))) lines_are
              ∙ sym (ap (state_of s) done);
        }

    -- Its sums fit.
    pub issue_countable : Lawful m → Sound s → Countable place d lines cents
    issue_countable law sound =
        let is = out_from_draft m s book n month (k, d) out in
        let held = held_of s sound n k is.entry in
        let fits = countable m law s sound k held d is.started in
        let one = subst (λ (l : MeteredCents). Countable k d l (month_cents m k k.month)) (sym lines_are) fits in
        let two = subst (λ (c : MonthCents). Countable k d lines c) (sym cents_due) one in
        subst (λ (x : Contract). Countable x d lines cents) (sym same) two
