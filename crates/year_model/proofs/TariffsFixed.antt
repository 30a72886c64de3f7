-- The tariffs of a fixing are within bounds.
use Rattle.std.proofs.Common.{◌≡◌, ℕ, zero, suc, ◌-◌, ◌*◌, ◌≤◌, Bool, true, false, cond, ltb, List, [], ◌∷◌, get_or, Some, Ok, Err, refl, subst, arith}
use Rattle.std.proofs.lemmas.Bool.{ltb-false, or_parts}
use Rattle.refusal.specs.declared.refusal.Refusal.{Refusal}
use Rattle.billing.specs.declared.fixings.Fixing.{Fixing}
use Rattle.billing.proofs.FixingLaws.{fixed_whole, within_bounds}
use Rattle.billing.specs.Fixings.{FixedWhole, each_carrier, fixed_out, fixing_answer, fixing_out_of_bounds, largest_tariff, tariff, volumes_unfit}
use Rattle.edition.specs.Editions.{percentages}
use Rattle.sharing.specs.Limits.{above}
use Rattle.sharing.specs.Sharing.{Meaning}
use Rattle.year_model.specs.declared.tables.System.{System}
use Rattle.year_model.specs.Bills.{fixing_tariff}
use Rattle.year_model.specs.Fixes.{with_fixing}
use Rattle.year_model.specs.Makings.{Lawful, Makings}
use Rattle.year_model.specs.Sound.{TariffsFit, fixing_euros, no_system}
use Rattle.year_model.specs.State.{State}
use Rattle.year_model.proofs.Lookups.{Entry}

-- A system's tariffs are within bounds.
abbrev pub TariffsWithin : System → Type 0
TariffsWithin x = (carrier : ℕ) → fixing_tariff carrier x.fixing ≤ largest_tariff

-- Where a system is fixed, its tariffs times volumes and its remainders are its landed euros.
abbrev pub Priced : System → Type 0
Priced x = (f : Fixing) → x.fixing ≡ Some f → fixing_euros f ≡ 10000 * x.landed

-- Where no number is above the limit, each is within it.
each_within : (limit : ℕ) (xs : List ℕ) → above limit xs ≡ false → (i : ℕ) → get_or xs i 0 ≤ limit
each_within limit [] none i = omega arith
each_within limit (x ∷ xs) none zero = ltb-false limit x (or_parts (ltb limit x) (above limit xs) none).0
each_within limit (x ∷ xs) none (suc i) = each_within limit xs (or_parts (ltb limit x) (above limit xs) none).1 i

-- What none of three tests refused is the answer.
past_tests : {X : Type 0} (a b c : Bool) (p q r : Refusal) (x y : X) → cond a (Err p) (cond b (Err q) (cond c (Err r) (Ok x))) ≡ Ok y → (a ≡ false) × (b ≡ false) × (c ≡ false) × (x ≡ y)
past_tests true b c p q r x y e = let z : ◌≡◌ {A = ℕ} 0 1 = cc in absurd (omega arith)
past_tests false true c p q r x y e = let z : ◌≡◌ {A = ℕ} 0 1 = cc in absurd (omega arith)
past_tests false false true p q r x y e = let z : ◌≡◌ {A = ℕ} 0 1 = cc in absurd (omega arith)
past_tests false false false p q r x y e = (refl, refl, refl, cc)

-- what a fixing that is answered has met, and what it is
pub record Answered (share : Meaning) (landed : ℕ) (percentages volumes : List ℕ) (f : Fixing) : Type 0 where
  pub bounded : fixing_out_of_bounds landed percentages volumes ≡ false
  pub fit : volumes_unfit percentages volumes ≡ false
  pub low : above largest_tariff (each_carrier (tariff share landed percentages volumes)) ≡ false
  pub is : fixed_out share landed percentages volumes ≡ f

-- Every fixing that is answered has met it.
pub answered : (share : Meaning) (landed : ℕ) (percentages volumes : List ℕ) (f : Fixing) → fixing_answer share landed percentages volumes ≡ Ok f → Answered share landed percentages volumes f
answered share landed percentages volumes f told =
    let past = past_tests (fixing_out_of_bounds landed percentages volumes) (volumes_unfit percentages volumes) (above largest_tariff (each_carrier (tariff share landed percentages volumes))) _ _ _ (fixed_out share landed percentages volumes) f told in
    record { bounded = past.0; fit = past.1; low = past.2; is = past.3 }

-- A fixing that is answered has tariffs within bounds.
pub fixing_within : (share : Meaning) (landed : ℕ) (percentages volumes : List ℕ) (f : Fixing) (x : System) → fixing_answer share landed percentages volumes ≡ Ok f → TariffsWithin (with_fixing x f)
fixing_within share landed percentages volumes f x told carrier =
    let met = answered share landed percentages volumes f told in
    let under : above largest_tariff f.tariffs ≡ false = subst (λ (g : Fixing). above largest_tariff g.tariffs ≡ false) met.is met.low in
    each_within largest_tariff f.tariffs under (carrier - 1)

-- A fixing that is answered is whole.
pub fixing_whole : (m : Makings) → Lawful m → (landed category : ℕ) (volumes : List ℕ) (f : Fixing) → fixing_answer m.share landed (percentages m.percent category) volumes ≡ Ok f
    → FixedWhole landed (percentages m.percent category) f
fixing_whole m law landed category volumes f told =
    let met = answered m.share landed (percentages m.percent category) volumes f told in
    let bounds = within_bounds landed (percentages m.percent category) volumes met.bounded in
    subst (FixedWhole landed (percentages m.percent category)) met.is
    (fixed_whole m.longest m.share law.sharing law.twelve landed (percentages m.percent category) volumes bounds.0 refl bounds.1 met.fit)

-- The system with a number has tariffs within bounds.
pub entry_tariffs : (s : State) → TariffsFit s → (n : ℕ) (x : System) → Entry s.systems n x → TariffsWithin x
entry_tariffs s fit n x at = subst TariffsWithin (at.here no_system) (fit (n - 1) (omega (arith, at.low, at.high)))
