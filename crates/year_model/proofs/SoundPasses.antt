-- Passes leave a sound state sound.
use Rattle.std.proofs.Common.{◌≡◌, ℕ, List, [], ◌∷◌, None, sym, ap, subst, arith}
use Rattle.year_model.specs.declared.tables.System.{System}
use Rattle.year_model.specs.Calls.{state_of}
use Rattle.year_model.specs.Makings.{Lawful, Makings}
use Rattle.year_model.specs.Passes.{in_the_way, pass_state, passed, passed_in_turn, receives}
use Rattle.year_model.specs.Sound.{Sound}
use Rattle.year_model.specs.State.{State}
use Rattle.year_model.proofs.Acceptance.{accepted_pass}
use Rattle.year_model.proofs.FacesStay.{FacesStay, faces_passed, faces_same, faces_through}
use Rattle.year_model.proofs.GridPasses.{EurosMove, euros_move, grid_pass_state, systems_passed}
use Rattle.year_model.proofs.Grids.{grid_of, register_of, sound_whole}
use Rattle.year_model.proofs.Lookups.{Entry}
use Rattle.year_model.proofs.Registers.{FixingsStay, register_stays}
use Rattle.year_model.proofs.TariffsFixed.{TariffsWithin}

-- Where only euros move, what is fixed stays.
pub fixings_moved : (xs ys : List System) → EurosMove xs ys → FixingsStay xs ys
fixings_moved xs ys move = record { long = omega (arith, move.long); same = λ k h fixed. ap (λ (z : System). z.fixing) (move.same k h) }

-- The state after a pass is sound.
pub sound_pass_state : (m : Makings) → Lawful m → (s : State) → Sound s → (n : ℕ) (x : System) → Entry s.systems n x → in_the_way m s n x ≡ None → Sound (pass_state m s n x)
sound_pass_state m law s v n x at free =
    let ys = systems_passed s n x (receives m s n x) in
    let move = euros_move s (grid_of s v) n x at (receives m s n x) in
    sound_whole (pass_state m s n x)
    (grid_pass_state m law s (grid_of s v) n x at free)
    (λ k h. subst TariffsWithin (sym (move.same k (omega (arith, move.long)))) (v.tariffs k (omega (arith, move.long))))
    (register_stays s (register_of s v) ys s.couplings s.net (fixings_moved s.systems ys move))

-- Pass keeps a state sound.
pub sound_passed : (m : Makings) → Lawful m → (s : State) → Sound s → (n : ℕ) → Sound (state_of s (passed m s n))
sound_passed m law s v n = accepted_pass m s (λ o. Sound (state_of s o)) (λ _. v) n (λ x ok. sound_pass_state m law s v n x ok.at.entry ok.free)

-- So do passes in turn.
pub sound_in_turn : (m : Makings) → Lawful m → (s : State) → Sound s → (ns : List ℕ) → Sound (passed_in_turn m s ns)
sound_in_turn m law s v [] = v
sound_in_turn m law s v (n ∷ ns) = sound_in_turn m law (state_of s (passed m s n)) (sound_passed m law s v n) ns

-- Passes in turn leave all faces.
pub faces_in_turn : (m : Makings) → Lawful m → (s : State) → Sound s → (ns : List ℕ) → FacesStay s.systems (passed_in_turn m s ns).systems
faces_in_turn m law s v [] = faces_same s.systems
faces_in_turn m law s v (n ∷ ns) =
    let t = state_of s (passed m s n) in
    faces_through s.systems t.systems (passed_in_turn m t ns).systems
    (accepted_pass m s (λ o. FacesStay s.systems (state_of s o).systems) (λ _. faces_same s.systems) n (λ x ok. faces_passed m s (grid_of s v) n x ok.at))
    (faces_in_turn m law t (sound_passed m law s v n) ns)
