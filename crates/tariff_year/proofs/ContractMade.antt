-- What the call that makes a contract comes to.
use Rattle.std.proofs.Common.{◌≡◌, ℕ, ◌+◌, ◌<◌, ◌≤◌, true, false, ltb, [], ◌∷◌, ◌++◌, length, Some, Ok, Err, sym, ap, ◌∙◌}
use Rattle.std.proofs.lemmas.Bool.{cond-false, cond-true, le-leb, le-ltb, lt-leb}
use Rattle.refusal.specs.declared.ground.Ground.TheVariants.{ChargeTooHigh}
use Rattle.refusal.specs.Refusals.{refuse}
use Rattle.billing.specs.declared.fixings.Fixing.{Fixing}
use Rattle.billing.specs.Charges.{charge, largest_charge, largest_fee, largest_kw}
use Rattle.calendar.specs.Days.{is_day}
use Rattle.year_model.specs.declared.tables.System.{System}
use Rattle.year_model.specs.Bills.{contract_with, contracted, most_contracts, new_contract, tariff_at}
use Rattle.year_model.specs.Calls.{Outcome, Reply, call_contract, largest_number, reply_of, state_of}
use Rattle.year_model.specs.Makings.{Makings}
use Rattle.year_model.specs.State.{State, numbered, with_contracts}
use Rattle.tariff_year.specs.Years.{Did}

-- All that is asked before the yearly charge holds, at a system with these tariffs.
pub record Asked (m : Makings) (s : State) (n kw fee first last reading : ℕ) (x : System) (f : Fixing) : Type 0 where
  pub number : n ≤ largest_number
  pub kw_fits : kw ≤ largest_kw
  pub fee_fits : fee ≤ largest_fee
  pub begins : is_day m.calendar first ≡ true
  pub ends : is_day m.calendar last ≡ true
  pub ordered : first ≤ last
  pub reads : reading ≤ largest_number
  pub found : numbered s.systems n ≡ Some x
  pub room : length s.contracts < most_contracts
  pub fixed : x.fixing ≡ Some f

module _ (m : Makings) (s : State) (n kw fee first last reading : ℕ) (x : System) (f : Fixing) (ok : Asked m s n kw fee first last reading x f) where
  -- The call goes on to the charge.
  goes_on : contracted m s n kw fee first last reading ≡ contract_with s n kw fee first last reading (Some f)
  goes_on =
      let e₁ = le-ltb largest_number n ok.number in
      let e₂ = le-ltb largest_kw kw ok.kw_fits in
      let e₃ = le-ltb largest_fee fee ok.fee_fits in
      let e₄ = ok.begins in
      let e₅ = ok.ends in
      let e₆ = le-leb first last ok.ordered in
      let e₇ = le-ltb largest_number reading ok.reads in
      let e₈ = ok.found in
      let e₉ = lt-leb most_contracts (length s.contracts) ok.room in
      let e₁₀ = ok.fixed in
      simp (e₁, e₂, e₃, e₄, e₅, e₆, e₇, e₈, e₉, e₁₀)

  -- Where that is too high, the call is refused,
  pub charge_refused : ltb largest_charge (charge fee kw (tariff_at f 1) (tariff_at f 4)) ≡ true → (told : Reply) → told ≡ Err (refuse ChargeTooHigh 0) → Did m s (call_contract n kw fee first last reading) told s
  charge_refused high told is =
      let e : contracted m s n kw fee first last reading ≡ Err (refuse ChargeTooHigh 0) = goes_on ∙ cond-true {A = Outcome} (ltb largest_charge (charge fee kw (tariff_at f 1) (tariff_at f 4))) _ _ high in
      record { answered = is ∙ sym (ap reply_of e); state = sym (ap (state_of s) e) }

  -- and else there is one contract more.
  pub contract_made : (yearly count : ℕ) → ltb largest_charge (charge fee kw (tariff_at f 1) (tariff_at f 4)) ≡ false → yearly ≡ charge fee kw (tariff_at f 1) (tariff_at f 4) → count ≡ length s.contracts
      → (later : State) → later ≡ with_contracts s (s.contracts ++ new_contract n kw fee first last reading yearly ∷ []) → Did m s (call_contract n kw fee first last reading) (Ok ((count + 1) ∷ [])) later
  contract_made yearly count low is counted later pushed =
      let sum = charge fee kw (tariff_at f 1) (tariff_at f 4) in
      let e : contracted m s n kw fee first last reading ≡ Ok (with_contracts s (s.contracts ++ new_contract n kw fee first last reading sum ∷ []), (length s.contracts + 1) ∷ []) =
      goes_on ∙ cond-false {A = Outcome} (ltb largest_charge sum) _ _ low in
      record {
        answered = ap (λ k. Ok ((k + 1) ∷ [])) counted ∙ sym (ap reply_of e);
        state = pushed ∙ ap (λ y. with_contracts s (s.contracts ++ new_contract n kw fee first last reading y ∷ [])) is ∙ sym (ap (state_of s) e);
      }
