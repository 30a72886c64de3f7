-- A sound grid stays sound where its systems change and their ranks stay.
use Rattle.std.proofs.Common.{◌≡◌, ℕ, ◌+◌, ◌-◌, ◌<◌, ◌≤◌, List, length, get_or, ap, arith}
use Rattle.std.proofs.lemmas.List.{length-set}
use Rattle.std.proofs.lemmas.List.Sums.{sum_by-set}
use Rattle.sharing.specs.Sharing.{largest_amount}
use Rattle.passing.specs.Passing.{largest_flow}
use Rattle.year_model.specs.declared.tables.System.{System}
use Rattle.year_model.specs.Sound.{all_landed, all_standing, no_coupling, no_system}
use Rattle.year_model.specs.State.{State, rank, renumbered, with_net, with_system, with_systems}
use Rattle.year_model.proofs.Entries.{Throughout, same_after_set, throughout_set}
use Rattle.year_model.proofs.Grids.{Grid}
use Rattle.year_model.proofs.Lookups.{Entry}

-- As many systems as before, of the same ranks.
pub record RanksStay (xs ys : List System) : Type 0 where
  pub long : length ys ≡ length xs
  pub ranks : (k : ℕ) → k < length xs → rank (get_or ys k no_system) ≡ rank (get_or xs k no_system)

-- A system's consumers and permille are within bounds.
abbrev pub Fits : System → Type 0
Fits x = (x.kw ≤ largest_flow) × (x.mwh ≤ largest_flow) × (x.permille ≤ 1000)

-- Systems of the same ranks, within bounds, whose euros balance.
pub grid_systems : (s : State) → Grid s → (ys : List System) (net : ℕ) → RanksStay s.systems ys → Throughout Fits ys no_system
    → all_standing ys + all_landed ys ≡ net → net ≤ largest_amount → Grid (with_net (with_systems s ys) net)
grid_systems s v ys net stay fit even small =
    record {
      tables = (omega (arith, v.tables.0, stay.long), v.tables.1, v.tables.2);
      systems = fit;
      joined = λ k h. let is = v.joined k h in ((is.0.0, omega (arith, is, stay.long)), (is.1.0, omega (arith, is, stay.long)));
      ranked = λ k h.
          let is = v.joined k h in
          let upper = stay.ranks ((get_or s.couplings k no_coupling).upper - 1) (omega arith) in
          let lower = stay.ranks ((get_or s.couplings k no_coupling).lower - 1) (omega arith) in
          omega (arith, v.ranked k h);
      flows = v.flows;
      money = (even, small);
    }

-- One system changed, of the same rank and within bounds: what it has more or less is what the net costs grew or shrank by.
pub grid_system : (s : State) → Grid s → (n : ℕ) (x y : System) (net : ℕ) → Entry s.systems n x → rank y ≡ rank x → Fits y
    → s.net + (y.standing + y.landed) ≡ net + (x.standing + x.landed) → net ≤ largest_amount → Grid (with_net (with_system s n y) net)
grid_system s v n x y net at same fit more small =
    let xs = s.systems in
    let inside : n - 1 < length xs = omega (arith, at.low, at.high) in
    let is = at.here no_system in
    let standing = sum_by-set (λ z. z.standing) xs (n - 1) y no_system inside in
    let landed = sum_by-set (λ z. z.landed) xs (n - 1) y no_system inside in
    let stood = ap (λ (z : System). z.standing) is in
    let lay = ap (λ (z : System). z.landed) is in
    grid_systems s v (renumbered xs n y) net
    record { long = length-set xs (n - 1) y; ranks = λ k _. same_after_set rank xs (n - 1) x y no_system inside is same k }
    (throughout_set Fits xs (n - 1) y no_system v.systems fit)
    (omega (arith, v.money.0))
    small

-- The system with a number is within bounds, and so are its euros.
pub entry_fits : (s : State) → Grid s → (n : ℕ) (x : System) → Entry s.systems n x → Fits x
entry_fits s v n x at = rw (at.here no_system) at (v.systems (n - 1) (omega (arith, at.low, at.high)))
