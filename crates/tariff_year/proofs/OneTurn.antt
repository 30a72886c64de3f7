-- One turn of settling: an unfixed system that nothing stands in the way of.
use Rattle.std.proofs.Common.{◌≡◌, ℕ, false, cond, not, ◌&&◌, eqb, List, [], ◌∷◌, length, Some, None, Ok, Err, Option, Result, sym, refl, ap, ◌∙◌, arith}
use Rattle.std.specs.List.{AllByRecursion as All}
use Rattle.std.proofs.lemmas.Bool.{and_from, cond-false, cond-true, eq-eqb, not_from_false}
use Rattle.refusal.specs.declared.refusal.Refusal.{Refusal}
use Rattle.year_model.specs.declared.tables.System.{System}
use Rattle.year_model.specs.Calls.{state_of}
use Rattle.year_model.specs.Makings.{Makings}
use Rattle.year_model.specs.Passes.{first_obstacle, in_the_way, is_unfixed_at, landed_in_turn, landing, numbers, obstacle, or_else, pass_with, passed_in_turn}
use Rattle.year_model.specs.Sound.{Sound}
use Rattle.year_model.specs.State.{State, is_fixed, numbered, rank}
use Rattle.year_model.proofs.InOrder.{all_has, has_counting}
use Rattle.year_model.proofs.Lookups.{entry_from_numbered}
use Rattle.tariff_year.specs.Replies.{emptied_by, unless}
use Rattle.tariff_year.specs.Turns.{turn_of}
use Rattle.tariff_year.specs.declared.passes.Emptied.{Emptied}
use Rattle.tariff_year.proofs.Emptying.{passed_found, unless_err, unless_ok}

-- Where neither is an obstacle, there is none.
neither_way : (one other : Option Refusal) → or_else one other ≡ None → (one ≡ None) × (other ≡ None)
neither_way None other e = (refl, e)
neither_way (Some refusal) other e = let z : ◌≡◌ {A = ℕ} 0 1 = cc in absurd (omega arith)

no_obstacles : (m : Makings) (s : State) (ns : List ℕ) → first_obstacle m s ns ≡ None → All (λ n. obstacle m s n (numbered s.systems n) ≡ None) ns
no_obstacles m s [] none = tt
no_obstacles m s (n ∷ ns) none =
    let parts = neither_way (obstacle m s n (numbered s.systems n)) (first_obstacle m s ns) none in
    (parts.0, no_obstacles m s ns parts.1)

-- Nothing stands in the way of an unfixed system where there is no obstacle.
pub free_at : (m : Makings) (s : State) → first_obstacle m s (numbers s) ≡ None → (n : ℕ) (x : System) → numbered s.systems n ≡ Some x → is_fixed x ≡ false → in_the_way m s n x ≡ None
free_at m s free n x is unfixed =
    let at = entry_from_numbered s.systems n x is in
    let low = at.low in
    let high = at.high in
    let there = all_has (λ k. obstacle m s k (numbered s.systems k) ≡ None) (numbers s) n (no_obstacles m s (numbers s) free) (has_counting 1 (length s.systems) n low (omega arith)) in
    sym (cond-false (is_fixed x) None (in_the_way m s n x) unfixed) ∙ ap (λ (o : Option System). obstacle m s n o) (sym is) ∙ there

-- So it is not refused.
pub never_refused : {X : Type 0} (m : Makings) (s : State) → first_obstacle m s (numbers s) ≡ None → (n : ℕ) (x : System) → numbered s.systems n ≡ Some x → is_fixed x ≡ false → (refusal : Refusal) (y : X)
    → Err refusal ≡ unless (in_the_way m s n x) y → ⊥
never_refused m s free n x is unfixed refusal y told =
    let none = free_at m s free n x is unfixed in
    let some = unless_err (in_the_way m s n x) refusal y told in
    let z : ◌≡◌ {A = ℕ} 0 1 = cc in
    omega arith

-- An unfixed system has its turn at its level.
turn_is : (s : State) (level n : ℕ) (x : System) → numbered s.systems n ≡ Some x → is_fixed x ≡ false → x.level ≡ level → turn_of s level n ≡ n ∷ []
turn_is s level n x is unfixed on =
    ap (λ (o : Option System). cond (is_unfixed_at level o) (n ∷ []) []) is
    ∙ cond-true (not (is_fixed x) && eqb (rank x) level) (n ∷ []) [] (and_from _ _ (not_from_false (is_fixed x) unfixed) (eq-eqb x.level level on))

-- What lands in its turn is what its consumers receive.
pub turn_lands : (m : Makings) (s : State) (level n : ℕ) (x : System) (emptied : Emptied) → numbered s.systems n ≡ Some x → is_fixed x ≡ false → x.level ≡ level
    → Ok emptied ≡ unless (in_the_way m s n x) (emptied_by m s n x) → emptied.landed ≡ landed_in_turn m s (turn_of s level n)
turn_lands m s level n x emptied is unfixed on told =
    let same = ap (λ (e : Emptied). e.landed) (unless_ok (in_the_way m s n x) emptied (emptied_by m s n x) told).1 in
    let turn = ap (λ (ns : List ℕ). landed_in_turn m s ns) (turn_is s level n x is unfixed on) in
    let here = ap (λ (o : Option System). landing m s n o) is in
    omega arith

-- The state after its turn is the one after its pass.
pub turn_leads : (m : Makings) (s t : State) → Sound s → (level n : ℕ) (x : System) → numbered s.systems n ≡ Some x → is_fixed x ≡ false → x.level ≡ level
    → t ≡ state_of s (pass_with m s n x (in_the_way m s n x)) → t ≡ passed_in_turn m s (turn_of s level n)
turn_leads m s t v level n x is unfixed on led =
    led ∙ ap (state_of s) (sym (passed_found m s v n x is unfixed)) ∙ ap (λ (ns : List ℕ). passed_in_turn m s ns) (sym (turn_is s level n x is unfixed on))

-- What is told twice is the same.
pub same_told : (a b : ℕ) → ◌≡◌ {A = Result ℕ Refusal} (Ok a) (Ok b) → a ≡ b
same_told a b e = cc
