-- The account of a contract agrees with what is kept when the contract is made, and when a draft is handed out or torn.
use Rattle.std.proofs.Common.{◌≡◌, ℕ, ◌≤◌, eqb, List, ◌∷◌, map, Some, None, sum, refl, ap, ◌∙◌, zero-add, arith}
use Rattle.std.specs.List.{range_with_len}
use Rattle.std.proofs.lemmas.Bool.{cond-true, eq-eqb}
use Rattle.billing.specs.Charges.{equal_months, largest_charge, portion}
use Rattle.sharing.proofs.SharingLaws.{shares_add_up}
use Rattle.year_model.specs.declared.tables.Contract.{Contract}
use Rattle.year_model.specs.declared.tables.Started.{Started}
use Rattle.year_model.specs.Bills.{new_contract, with_draft}
use Rattle.year_model.specs.Makings.{Lawful, Makings}
use Rattle.year_model.specs.Journal.{Line, Metered, blank_line, contract_line, kwmax_in, kwmax_issued, reading_in, reading_issued, start_line, start_of, terms_of, times_told}
use Rattle.year_model.proofs.ContractAccounts.{Told, Untold, account, left_of, terms_kept}
use Rattle.year_model.proofs.CountedSums.{sum_alike}

-- The twelve portions add up to the yearly charge.
portions_add_up : (m : Makings) → Lawful m → (yearly : ℕ) → yearly ≤ largest_charge → sum (map (portion m.share yearly) (range_with_len 1 12)) ≡ yearly
portions_add_up m law yearly small =
    shares_add_up m.longest m.share law.sharing yearly equal_months record { small = small; light = omega arith; short = law.twelve; some = omega arith }

-- Where no month is told, all of the yearly charge is left.
all_left : (m : Makings) → Lawful m → (yearly : ℕ) (times : ℕ → ℕ) → yearly ≤ largest_charge → ((month : ℕ) → times month ≡ 0) → sum (map (left_of m yearly times) (range_with_len 1 12)) ≡ yearly
all_left m law yearly times small none =
    sum_alike (left_of m yearly times) (portion m.share yearly) 1 12 (λ month h. cond-true (eqb (times month) 0) (portion m.share yearly month) 0 (eq-eqb (times month) 0 (none month)))
    ∙ portions_add_up m law yearly small

-- a new contract, of which nothing was told
pub told_new : (m : Makings) → Lawful m → (lines : List Line) (n system kw fee first last reading yearly : ℕ) → yearly ≤ largest_charge → Untold (account lines n)
    → Told m n (account (contract_line record { contract = n; system = system; kw = kw; fee = fee; first = first; last = last; reading = reading } ∷ lines) n) (new_contract system kw fee first last reading yearly)
told_new m law lines n system kw fee first last reading yearly small untold =
    let c = new_contract system kw fee first last reading yearly in
    let left = all_left m law yearly (times_told lines n) small untold.times in
    record {
      terms = cond-true (eqb n n) (Some (terms_kept n c)) (terms_of lines n) (eq-eqb n n refl);
      yearly = untold.yearly;
      kwmax = untold.kwmax;
      kwh = untold.kwh;
      waived = untold.waived;
      ahead = λ month h. untold.times month;
      whole = omega (arith, left, untold.yearly, untold.waived);
      used = zero-add (kwmax_issued lines n) ∙ untold.used;
      reading = cond-true (eqb n n) reading (reading_issued lines n) (eq-eqb n n refl);
      draft = λ d e. let z : ◌≡◌ {A = ℕ} 0 1 = cc in absurd (omega arith);
    }

module _ (m : Makings) (lines : List Line) (n : ℕ) (c : Contract) (told : Told m n (account lines n) c) where
  -- a draft handed out
  pub told_started : (kwmax reading : ℕ) → Told m n (account (start_line record { contract = n; kwmax = kwmax; reading = reading } ∷ lines) n) (with_draft c (Some record { kwmax = kwmax; reading = reading }))
  told_started kwmax reading =
      let metered : Metered = record { contract = n; kwmax = kwmax; reading = reading } in
      let newest = cond-true (eqb n n) (Some metered) (start_of lines n) (eq-eqb n n refl) in
      record {
        terms = told.terms;
        yearly = told.yearly;
        kwmax = told.kwmax;
        kwh = told.kwh;
        waived = told.waived;
        ahead = told.ahead;
        whole = told.whole;
        used = zero-add (kwmax_issued lines n) ∙ told.used;
        reading = told.reading;
        draft = λ d e.
            let same : ◌≡◌ {A = Started} record { kwmax = kwmax; reading = reading } d = cc in
            (ap kwmax_in newest ∙ ap (λ (x : Started). x.kwmax) same, ap reading_in newest ∙ ap (λ (x : Started). x.reading) same);
      }

  -- a draft torn
  pub told_torn : Told m n (account (blank_line ∷ lines) n) (with_draft c None)
  told_torn =
      record {
        terms = told.terms;
        yearly = told.yearly;
        kwmax = told.kwmax;
        kwh = told.kwh;
        waived = told.waived;
        ahead = told.ahead;
        whole = told.whole;
        used = zero-add (kwmax_issued lines n) ∙ told.used;
        reading = told.reading;
        draft = λ d e. let z : ◌≡◌ {A = ℕ} 0 1 = cc in absurd (omega arith);
      }
