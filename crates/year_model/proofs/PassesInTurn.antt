-- Passes in turn of systems that nothing stands in the way of.
use Rattle.std.proofs.Common.{◌≡◌, ℕ, ◌-◌, ◌≤◌, false, cond, ltb, List, [], ◌∷◌, is_ok, None, Ok, Err, Option, refl, ap, ◌∙◌, arith}
use Rattle.std.specs.List.{AllByRecursion as All}
use Rattle.std.proofs.ByRecursion.{All-weaker}
use Rattle.std.proofs.lemmas.Bool.{cond-false, le-ltb}
use Rattle.refusal.specs.declared.ground.Ground.TheVariants.{SystemFixed}
use Rattle.refusal.specs.declared.refusal.Refusal.{Refusal}
use Rattle.refusal.specs.Refusals.{refuse}
use Rattle.year_model.specs.declared.tables.System.{System}
use Rattle.year_model.specs.Calls.{Call, Outcome, call_pass, found, largest_number, reply_of, state_of}
use Rattle.year_model.specs.Makings.{Lawful, Makings}
use Rattle.year_model.specs.Passes.{in_the_way, pass_state, pass_with, passed, passed_in_turn, receives}
use Rattle.year_model.specs.PassLaws.{AcceptedInTurn, passes_in_turn}
use Rattle.year_model.specs.Sound.{IsNumber, Sound, no_system, system_at}
use Rattle.year_model.specs.State.{State, is_fixed, rank, with_systems}
use Rattle.year_model.specs.Steps.{state_after}
use Rattle.year_model.proofs.Acceptance.{accepted_pass}
use Rattle.year_model.proofs.GridPasses.{EurosMove, euros_move, systems_passed}
use Rattle.year_model.proofs.Grids.{grid_of}
use Rattle.year_model.proofs.Lookups.{Entry, entry_from_numbered, numbered_from_entry}
use Rattle.year_model.proofs.SoundCalls.{sound_state_after}
use Rattle.year_model.proofs.SoundPasses.{sound_passed}

-- There is an unfixed system with this number, of this rank, and nothing stands in the way of passing it.
pub record Clear (m : Makings) (s : State) (r n : ℕ) : Type 0 where
  pub number : IsNumber s n
  pub unfixed : is_fixed (system_at s n) ≡ false
  pub free : in_the_way m s n (system_at s n) ≡ None
  pub ranked : rank (system_at s n) ≡ r

-- The system with a number is the entry with that number.
pub entry_at : (s : State) (n : ℕ) → IsNumber s n → Entry s.systems n (system_at s n)
entry_at s n is = entry_from_numbered s.systems n (system_at s n) (numbered_from_entry s.systems n no_system is.0 is.1)

-- Such a pass is accepted.
pub pass_accepted : (m : Makings) (s : State) → Sound s → (r n : ℕ) → Clear m s r n → passed m s n ≡ Ok (pass_state m s n (system_at s n), (system_at s n).standing ∷ [])
pass_accepted m s v r n ok =
    let x = system_at s n in
    let is = ok.number in
    let small : n ≤ largest_number = omega (arith, v.tables.0) in
    cond-false (ltb largest_number n) _ _ (le-ltb largest_number n small)
    ∙ ap (λ (o : Option System). found o (λ y. cond (is_fixed y) (Err (refuse SystemFixed 0)) (pass_with m s n y (in_the_way m s n y)))) (numbered_from_entry s.systems n no_system is.0 is.1)
    ∙ cond-false (is_fixed x) _ _ ok.unfixed
    ∙ ap (λ (o : Option Refusal). pass_with m s n x o) ok.free

-- Any pass moves euros, and nothing else.
pub euros_passed : (m : Makings) (s : State) → Sound s → (n : ℕ) → EurosMove s.systems (state_of s (passed m s n)).systems
euros_passed m s v n =
    accepted_pass m s (λ o. EurosMove s.systems (state_of s o).systems) (λ _. record { long = refl; same = λ k h. refl }) n
    (λ x ok. euros_move s (grid_of s v) n x ok.at.entry (receives m s n x))

-- What nothing stands in the way of stays so where euros move.
clear_moved : (m : Makings) (s : State) (ys : List System) → EurosMove s.systems ys → (r n : ℕ) → Clear m s r n → Clear m (with_systems s ys) r n
clear_moved m s ys move r n ok =
    let is = ok.number in
    let same = move.same (n - 1) (omega arith) in
    record {
      number = (is.0, omega (arith, move.long));
      unfixed = ap (λ (z : System). is_fixed z) same ∙ ok.unfixed;
      free = ap (λ (z : System). in_the_way m s n z) same ∙ ok.free;
      ranked = ap (λ (z : System). rank z) same ∙ ok.ranked;
    }

-- So it does after any pass.
pub clear_passed : (m : Makings) (s : State) → Sound s → (k r n : ℕ) → Clear m s r n → Clear m (state_of s (passed m s k)) r n
clear_passed m s v k r n clear =
    accepted_pass m s (λ o. Clear m (state_of s o) r n) (λ _. clear) k
    (λ x ok. clear_moved m s (systems_passed s k x (receives m s k x)) (euros_move s (grid_of s v) k x ok.at.entry (receives m s k x)) r n clear)

-- So it does for all of these systems.
pub all_clear : (m : Makings) (s : State) → Sound s → (ranks : ℕ → ℕ) (k : ℕ) (ns : List ℕ) → All (λ n. Clear m s (ranks n) n) ns → All (λ n. Clear m (state_of s (passed m s k)) (ranks n) n) ns
all_clear m s v ranks k ns clear =
    All-weaker (λ n. Clear m s (ranks n) n) (λ n. Clear m (state_of s (passed m s k)) (ranks n) n) (λ n here. clear_passed m s v k (ranks n) n here) ns clear

-- Passes of such systems are accepted in turn.
pub clear_in_turn : (m : Makings) → Lawful m → (ranks : ℕ → ℕ) (ns : List ℕ) (older : List Call) → All (λ n. Clear m (state_after m older) (ranks n) n) ns → AcceptedInTurn m ns older
clear_in_turn m law ranks [] older clear = tt
clear_in_turn m law ranks (n ∷ ns) older clear =
    let s = state_after m older in
    let v = sound_state_after m law older in (
      ap (λ (o : Outcome). is_ok (reply_of o)) (pass_accepted m s v (ranks n) n clear.0),
      clear_in_turn m law ranks ns (call_pass n ∷ older) (all_clear m s v ranks n ns clear.1),
    )

-- The state after the calls that pass in turn is the one after passes in turn.
pub run_in_turn : (m : Makings) (ns : List ℕ) (older : List Call) → state_after m (passes_in_turn ns older) ≡ passed_in_turn m (state_after m older) ns
run_in_turn m [] older = refl
run_in_turn m (n ∷ ns) older = run_in_turn m ns (call_pass n ∷ older)

-- Passes in turn move euros, and nothing else.
pub euros_in_turn : (m : Makings) → Lawful m → (ns : List ℕ) (s : State) → Sound s → EurosMove s.systems (passed_in_turn m s ns).systems
euros_in_turn m law [] s v = record { long = refl; same = λ k h. refl }
euros_in_turn m law (n ∷ ns) s v =
    let one = euros_passed m s v n in
    let rest = euros_in_turn m law ns (state_of s (passed m s n)) (sound_passed m law s v n) in
    record { long = rest.long ∙ one.long; same = λ k h. rest.same k (omega (arith, one.long)) ∙ one.same k h }
