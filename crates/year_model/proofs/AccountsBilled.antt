-- The account of a contract agrees with what is kept when a month is billed.
use Rattle.std.proofs.Common.{◌≡◌, ℕ, ◌+◌, ◌≤◌, cond, eqb, List, ◌∷◌, map, Some, sum, sym, refl, ap, ◌∙◌, arith}
use Rattle.std.specs.List.{range_with_len}
use Rattle.std.proofs.lemmas.List.Sums.{sum_by-cons}
use Rattle.std.proofs.lemmas.Bool.{cond-false, cond-true, eq-eqb, ne_eqb}
use Rattle.billing.specs.Charges.{portion}
use Rattle.year_model.specs.declared.tables.Contract.{Contract}
use Rattle.year_model.specs.declared.tables.Started.{Started}
use Rattle.year_model.specs.Bills.{billed, kwh_line, kwmax_line, month_issued, month_waived}
use Rattle.year_model.specs.Makings.{Lawful, Makings}
use Rattle.year_model.specs.Journal.{Bill, Line, bill_line, billed_to, kwmax_in, of_bill, reading_in, reading_issued, start_of, times_told}
use Rattle.year_model.specs.State.{State}
use Rattle.year_model.proofs.ContractAccounts.{Told, account, left_of}
use Rattle.year_model.proofs.CountedSums.{sum_but_one}
use Rattle.year_model.proofs.Grids.{Held}
use Rattle.year_model.proofs.Histories.{issued_line}
use Rattle.year_model.proofs.MonthsBilled.{month_whole}

-- A bill of the contract adds its figure.
bill_adds : (lines : List Line) (n : ℕ) (figure : Bill → ℕ) (b : Bill) → b.contract ≡ n → billed_to (bill_line b ∷ lines) n figure ≡ figure b + billed_to lines n figure
bill_adds lines n figure b is =
    sum_by-cons (λ (l : Line). of_bill n figure l.bill) (bill_line b) lines
    ∙ ap (λ x. x + billed_to lines n figure) (cond-true (eqb b.contract n) (figure b) 0 (eq-eqb b.contract n is))

-- A month told for the first time leaves its portion less.
left_after : (m : Makings) (yearly : ℕ) (times times' : ℕ → ℕ) (month : ℕ) → 1 ≤ month → month ≤ 12 → times month ≡ 0 → times' month ≡ 1 → ((other : ℕ) → (other ≡ month → ⊥) → times' other ≡ times other)
    → sum (map (left_of m yearly times) (range_with_len 1 12)) ≡ sum (map (left_of m yearly times') (range_with_len 1 12)) + portion m.share yearly month
left_after m yearly times times' month low high none once same =
    let part = portion m.share yearly month in
    let before = cond-true (eqb (times month) 0) part 0 (eq-eqb (times month) 0 none) in
    let after = cond-false (eqb (times' month) 0) part 0 (ne_eqb (times' month) 0 (λ e. omega arith)) in
    sum_but_one (left_of m yearly times) (left_of m yearly times') 1 12 month part low (omega arith) (omega arith) (λ other ne. ap (λ x. cond (eqb x 0) (portion m.share yearly other) 0) (sym (same other ne)))

-- the bill of an accepted issue
abbrev pub issued_bill : Makings → State → ℕ → Contract → Started → Bill
issued_bill m s n c d =
    record { contract = n; month = c.month; yearly = month_issued m c c.month; kwmax = kwmax_line s c d.kwmax; kwh = kwh_line s c d.reading; waived = month_waived m c c.month }

module _ (m : Makings) (law : Lawful m) (s : State) (lines : List Line) (n : ℕ) (c : Contract) (d : Started) (held : Held s c) (out : c.started ≡ Some d) (told : Told m n (account lines n) c) where
  abbrev more : List Line
  more = issued_line m s n c d ∷ lines

  -- how often a month is told with the bill
  times_more : (month : ℕ) → times_told more n month ≡ cond (eqb c.month month) 1 0 + times_told lines n month
  times_more month = bill_adds lines n (λ b. cond (eqb b.month month) 1 0) (issued_bill m s n c d) refl

  -- The billed month is told once,
  times_here : times_told more n c.month ≡ 1
  times_here =
      let here : ◌≡◌ {A = ℕ} (cond (eqb c.month c.month) 1 0) 1 = cond-true (eqb c.month c.month) 1 0 (eq-eqb c.month c.month refl) in
      omega (arith, times_more c.month, told.ahead c.month (omega arith))

  -- and every other as often as before.
  times_other : (month : ℕ) → (month ≡ c.month → ⊥) → times_told more n month ≡ times_told lines n month
  times_other month ne =
      let other : ◌≡◌ {A = ℕ} (cond (eqb c.month month) 1 0) 0 = cond-false (eqb c.month month) 1 0 (ne_eqb c.month month (λ e. ne (sym e))) in
      omega (arith, times_more month)

  -- what is left with the bill
  left_more : sum (map (left_of m c.yearly (times_told lines n)) (range_with_len 1 12)) ≡ sum (map (left_of m c.yearly (times_told more n)) (range_with_len 1 12)) + portion m.share c.yearly c.month
  left_more =
      let months = held.months in
      let fits = held.draft d out in
      left_after m c.yearly (times_told lines n) (times_told more n) c.month (omega arith) (omega arith) (told.ahead c.month (omega arith)) times_here times_other

  -- What is issued of the month and what is waived are its portion.
  month_shared : month_issued m c c.month + month_waived m c c.month ≡ portion m.share c.yearly c.month
  month_shared =
      let months = held.months in
      let fits = held.draft d out in
      month_whole m law c held.charge.3 c.month (omega arith) (omega arith) held.charge.0

  -- a month billed
  pub told_billed : Told m n (account more n) (billed m s c d)
  told_billed =
      let b = issued_bill m s n c d in
      let yearly = bill_adds lines n (λ b. b.yearly) b refl in
      let kwmax = bill_adds lines n (λ b. b.kwmax) b refl in
      let kwh = bill_adds lines n (λ b. b.kwh) b refl in
      let waived = bill_adds lines n (λ b. b.waived) b refl in
      let here = eq-eqb n n refl in
      let newest = told.draft d out in
      let used = cond-true (eqb n n) (kwmax_in (start_of lines n)) 0 here in
      record {
        terms = told.terms;
        yearly = omega (arith, told.yearly);
        kwmax = omega (arith, told.kwmax);
        kwh = omega (arith, told.kwh);
        waived = omega (arith, told.waived);
        ahead = λ month h. times_other month (λ e. omega arith) ∙ told.ahead month (omega arith);
        whole = omega (arith, told.whole, left_more, month_shared);
        used = omega (arith, told.used);
        reading = cond-true (eqb n n) (reading_in (start_of lines n)) (reading_issued lines n) here ∙ newest.1;
        draft = λ e is. let z : ◌≡◌ {A = ℕ} 0 1 = cc in absurd (omega arith);
      }
