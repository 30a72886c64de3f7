-- A sound grid stays sound where a system or a coupling is added.
use Rattle.std.proofs.Common.{◌≡◌, ℕ, ◌-◌, ◌<◌, ◌≤◌, cond, eqb, List, [], ◌∷◌, ◌++◌, length, get_or, sym, refl, ap, ⊎_elim, arith}
use Rattle.std.proofs.lemmas.List.{get_or_append_left, length_push}
use Rattle.std.proofs.lemmas.List.Sums.{sum_by_push}
use Rattle.std.proofs.lemmas.Bool.{cases_eq, ne_eqb}
use Rattle.std.proofs.lemmas.Bool.Decides.{nat_tests}
use Rattle.passing.specs.Passing.{largest_flow}
use Rattle.year_model.specs.declared.tables.Coupling.{Coupling}
use Rattle.year_model.specs.declared.tables.System.{System}
use Rattle.year_model.specs.Sound.{IsNumber, no_coupling, no_system, system_at}
use Rattle.year_model.specs.State.{State, rank, with_couplings, with_systems}
use Rattle.year_model.specs.Systems.{below_count, most_below, most_couplings, most_systems, new_system}
use Rattle.year_model.proofs.Entries.{throughout_push}
use Rattle.year_model.proofs.Grids.{Grid}
use Rattle.year_model.proofs.Lookups.{Entry}

-- A system that is there stays where it is when one more is opened.
pub system_stays : (s : State) (y : System) (n : ℕ) → IsNumber s n → system_at (with_systems s (s.systems ++ y ∷ [])) n ≡ system_at s n
system_stays s y n is = get_or_append_left s.systems (y ∷ []) no_system (n - 1) (omega arith)

-- One more system, with nothing in it.
pub grid_opened : (s : State) → Grid s → (level category : ℕ) → length s.systems < most_systems → Grid (with_systems s (s.systems ++ new_system level category ∷ []))
grid_opened s v level category room =
    let y = new_system level category in
    let longer = length_push s.systems y in
    record {
      tables = (omega arith, v.tables.1, v.tables.2);
      systems = throughout_push (λ x. (x.kw ≤ largest_flow) × (x.mwh ≤ largest_flow) × (x.permille ≤ 1000)) s.systems y no_system v.systems (omega arith, omega arith, omega arith);
      joined = λ k h. let is = v.joined k h in ((is.0.0, omega arith), (is.1.0, omega arith));
      ranked = λ k h.
          let is = v.joined k h in
          let upper = ap rank (system_stays s y (get_or s.couplings k no_coupling).upper is.0) in
          let lower = ap rank (system_stays s y (get_or s.couplings k no_coupling).lower is.1) in
          omega (arith, v.ranked k h);
      flows = v.flows;
      money = (omega (arith, sum_by_push (λ x. x.standing) s.systems y, sum_by_push (λ x. x.landed) s.systems y, v.money.0), v.money.1);
    }

-- One more coupling leads down from its upper system, and none more from the others.
below_pushed : (cs : List Coupling) (c : Coupling) → ((n : ℕ) → below_count cs n ≤ most_below) → below_count cs c.upper < most_below → (n : ℕ) → below_count (cs ++ c ∷ []) n ≤ most_below
below_pushed cs c fit room n =
    let push = sum_by_push (λ (x : Coupling). cond {A = ℕ} (eqb x.upper n) 1 0) cs c in
    ⊎_elim
    (λ (e : n ≡ c.upper).
    let one : cond {A = ℕ} (eqb c.upper n) 1 0 ≤ 1 = grind (arith, nat_tests) in
    let few : below_count cs n < most_below = rw e room in
    omega arith)
    (λ (ne : n ≡ c.upper → ⊥).
    let none : cond {A = ℕ} (eqb c.upper n) 1 0 ≡ 0 = rw (ne_eqb c.upper n (λ e. ne (sym e))) refl in
    omega (arith, fit n))
    (cases_eq n c.upper)

-- One more coupling, from a system of lower rank to one of higher rank.
pub grid_coupled : (s : State) → Grid s → (c : Coupling) (upper lower : System) → Entry s.systems c.upper upper → Entry s.systems c.lower lower
    → length s.couplings < most_couplings → below_count s.couplings c.upper < most_below → rank upper < rank lower → c.kw ≤ largest_flow → c.mwh ≤ largest_flow
    → Grid (with_couplings s (s.couplings ++ c ∷ []))
grid_coupled s v c upper lower at_upper at_lower room few rises kw mwh =
    record {
      tables = (v.tables.0, omega (arith, length_push s.couplings c), below_pushed s.couplings c v.tables.2 few);
      systems = v.systems;
      joined = throughout_push (λ x. IsNumber s x.upper × IsNumber s x.lower) s.couplings c no_coupling v.joined ((at_upper.low, at_upper.high), (at_lower.low, at_lower.high));
      ranked = throughout_push (λ x. rank (system_at s x.upper) < rank (system_at s x.lower)) s.couplings c no_coupling v.ranked
          (omega (arith, ap rank (at_upper.here no_system), ap rank (at_lower.here no_system)));
      flows = throughout_push (λ x. (x.kw ≤ largest_flow) × (x.mwh ≤ largest_flow)) s.couplings c no_coupling v.flows (kw, mwh);
      money = v.money;
    }
