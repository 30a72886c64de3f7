-- What lands when systems are passed in turn, and that nothing stands at them after it.
use Rattle.std.proofs.Common.{◌≡◌, ℕ, ◌+◌, ◌-◌, ◌<◌, ◌≤◌, List, [], ◌∷◌, length, Option, ap, ◌∙◌, ⊎_elim, arith}
use Rattle.std.specs.List.{AllByRecursion as All}
use Rattle.std.proofs.lemmas.List.{length-set}
use Rattle.std.proofs.lemmas.List.Sums.{sum_by-set}
use Rattle.std.proofs.lemmas.Bool.{cases_eq}
use Rattle.year_model.specs.declared.tables.System.{System}
use Rattle.year_model.specs.Calls.{Outcome, state_of}
use Rattle.year_model.specs.Makings.{Lawful, Makings}
use Rattle.year_model.specs.Passes.{below, emptied, landed_in_turn, landing, passed, passed_in_turn, receives}
use Rattle.year_model.specs.Sound.{IsNumber, Sound, all_landed, no_system, system_at}
use Rattle.year_model.specs.State.{State, numbered, rank, renumbered}
use Rattle.year_model.proofs.Acceptance.{accepted_pass}
use Rattle.year_model.proofs.Gifts.{stands_at}
use Rattle.year_model.proofs.GridPasses.{below_leads, systems_passed}
use Rattle.year_model.proofs.Grids.{Grid, grid_of}
use Rattle.year_model.proofs.HandingDown.{handed_down_adds}
use Rattle.year_model.proofs.InOrder.{InOrder}
use Rattle.year_model.proofs.Lookups.{Entry, numbered_from_entry}
use Rattle.year_model.proofs.PassesInTurn.{Clear, all_clear, clear_passed, entry_at, pass_accepted}
use Rattle.year_model.proofs.SoundPasses.{sound_passed}
use Rattle.year_model.proofs.SystemsPassed.{given_none, stands_here, stands_there}

-- What the consumers receive is what more has landed at all systems.
all_lands : (s : State) → Grid s → (n : ℕ) (x : System) → Entry s.systems n x → (f : ℕ → ℕ) → all_landed s.systems + f 0 ≡ all_landed (systems_passed s n x f)
all_lands s v n x at f =
    let xs = s.systems in
    let y = emptied x (f 0) in
    let inside : n - 1 < length xs = omega (arith, at.low, at.high) in
    let down = handed_down_adds f 1 (below s n) (renumbered xs n y) (length xs) (length-set xs (n - 1) y) (below_leads s v n) in
    let landed = sum_by-set (λ z. z.landed) xs (n - 1) y no_system inside in
    let lay = ap (λ (z : System). z.landed) (at.here no_system) in
    omega (arith, down.lands)

-- So it is after an accepted pass.
lands_passed : (m : Makings) (s : State) → Sound s → (r n : ℕ) → Clear m s r n → all_landed s.systems + landing m s n (numbered s.systems n) ≡ all_landed (state_of s (passed m s n)).systems
lands_passed m s v r n ok =
    let x = system_at s n in
    let is = ok.number in
    let here = ap (λ (o : Option System). landing m s n o) (numbered_from_entry s.systems n no_system is.0 is.1) in
    let there = ap (λ (o : Outcome). all_landed (state_of s o).systems) (pass_accepted m s v r n ok) in
    let lands = all_lands s (grid_of s v) n x (entry_at s n is) (receives m s n x) in
    omega arith

-- What lands in turn adds up.
pub lands_in_turn : (m : Makings) → Lawful m → (ranks : ℕ → ℕ) (ns : List ℕ) (s : State) → Sound s → All (λ n. Clear m s (ranks n) n) ns
    → all_landed s.systems + landed_in_turn m s ns ≡ all_landed (passed_in_turn m s ns).systems
lands_in_turn m law ranks [] s v clear = omega arith
lands_in_turn m law ranks (n ∷ ns) s v clear =
    let one = lands_passed m s v (ranks n) n clear.0 in
    let rest = lands_in_turn m law ranks ns (state_of s (passed m s n)) (sound_passed m law s v n) (all_clear m s v ranks n ns clear.1) in
    omega (arith, one, rest)

-- Nothing stands at a system that is passed.
empty_passed : (m : Makings) (s : State) → Sound s → (r n : ℕ) → Clear m s r n → stands_at (state_of s (passed m s n)).systems n ≡ 0
empty_passed m s v r n ok =
    ap (λ (o : Outcome). stands_at (state_of s o).systems n) (pass_accepted m s v r n ok)
    ∙ stands_here s (grid_of s v) n (system_at s n) (entry_at s n ok.number) (receives m s n (system_at s n))

-- Nothing comes to stand at a system from one of the same rank or a greater one.
empty_stays : (m : Makings) (s : State) → Sound s → (k n : ℕ) → IsNumber s n → rank (system_at s n) ≤ rank (system_at s k) → stands_at s.systems n ≡ 0 → stands_at (state_of s (passed m s k)).systems n ≡ 0
empty_stays m s v k n is low none =
    accepted_pass m s (λ o. stands_at (state_of s o).systems n ≡ 0) (λ _. none) k (λ x ok.
    let f = receives m s k x in
    ⊎_elim
    (λ (e : n ≡ k). rw e (stands_here s (grid_of s v) k x ok.at.entry f))
    (λ (ne : n ≡ k → ⊥). omega (arith, stands_there s (grid_of s v) k x ok.at.entry f n is.0 ne, given_none s (grid_of s v) k f n low))
    (cases_eq n k))

-- So nothing does where all that are passed in turn are such.
empty_in_turn : (m : Makings) → Lawful m → (ranks : ℕ → ℕ) (n : ℕ) (ns : List ℕ) (s : State) → Sound s → Clear m s (ranks n) n → All (λ k. Clear m s (ranks k) k) ns → All (λ k. ranks n ≤ ranks k) ns
    → stands_at s.systems n ≡ 0 → stands_at (passed_in_turn m s ns).systems n ≡ 0
empty_in_turn m law ranks n [] s v here clear low none = none
empty_in_turn m law ranks n (k ∷ ns) s v here clear low none =
    empty_in_turn m law ranks n ns (state_of s (passed m s k)) (sound_passed m law s v k) (clear_passed m s v k (ranks n) n here) (all_clear m s v ranks k ns clear.1) low.1
    (empty_stays m s v k n here.number (omega (arith, here.ranked, clear.0.ranked, low.0)) none)

-- Nothing stands at any of the systems that are passed in turn, by rank.
pub emptied_in_turn : (m : Makings) → Lawful m → (ranks : ℕ → ℕ) (ns : List ℕ) (s : State) → Sound s → All (λ n. Clear m s (ranks n) n) ns → InOrder (λ a b. ranks a ≤ ranks b) ns
    → All (λ n. stands_at (passed_in_turn m s ns).systems n ≡ 0) ns
emptied_in_turn m law ranks [] s v clear rise = tt
emptied_in_turn m law ranks (n ∷ ns) s v clear rise =
    let t = state_of s (passed m s n) in
    let w = sound_passed m law s v n in
    let left = all_clear m s v ranks n ns clear.1 in (
      empty_in_turn m law ranks n ns t w (clear_passed m s v n (ranks n) n clear.0) left rise.0 (empty_passed m s v (ranks n) n clear.0),
      emptied_in_turn m law ranks ns t w left rise.1,
    )
