-- Every accepted pass is fair: nothing stands at the system after it, and each taker received near its exact proportion.
use Rattle.std.proofs.Common.{◌≡◌, ℕ, ◌+◌, ◌<◌, List, [], ◌∷◌, length, None, Ok, sym, refl, subst, arith}
use Rattle.std.proofs.lemmas.List.{length-map}
use Rattle.passing.specs.Proportion.{WithinThreeEuros}
use Rattle.passing.proofs.Passes.{received_near}
use Rattle.year_model.specs.declared.tables.System.{System}
use Rattle.year_model.specs.Calls.{Call, reply_of, state_of}
use Rattle.year_model.specs.Makings.{Lawful, Makings}
use Rattle.year_model.specs.Passes.{below, in_the_way, pass_state, passed, receives, taker_kws, taker_mwhs}
use Rattle.year_model.specs.PassLaws.{PassedFairly, PassesAreFair, proportion_of, proportion_over}
use Rattle.year_model.specs.Sound.{no_system, system_at}
use Rattle.year_model.specs.State.{State}
use Rattle.year_model.specs.Steps.{after, reply, state_after}
use Rattle.year_model.proofs.Acceptance.{Passes, accepted_pass}
use Rattle.year_model.proofs.Entered.{Entered, entered_after}
use Rattle.year_model.proofs.GridPasses.{passable_at}
use Rattle.year_model.proofs.Grids.{Grid, grid_of}
use Rattle.year_model.proofs.Lookups.{Entry}
use Rattle.year_model.proofs.SoundCalls.{sound_state_after}
use Rattle.year_model.proofs.SystemsPassed.{lands_here, stands_below, stands_here}

-- A pass under a lawful rule, of the system with this number, that nothing stands in the way of.
module _ (m : Makings) (law : Lawful m) (s : State) (v : Grid s) (e : Entered s) (n : ℕ) where
  -- What a taker receives is near its proportion.
  receives_near : Entry s.systems n (system_at s n) → in_the_way m s n (system_at s n) ≡ None → (taker : ℕ) → taker < length (taker_kws s n (system_at s n))
      → WithinThreeEuros (receives m s n (system_at s n) taker) (proportion_of s n taker) (proportion_over s n)
  receives_near at free taker h =
      let x = system_at s n in
      received_near m.longest m.share law.sharing law.twelve x.standing x.permille (taker_kws s n x) (taker_mwhs s n x) (passable_at m s v n x at free) taker h

  fair_here : Entry s.systems n (system_at s n) → in_the_way m s n (system_at s n) ≡ None → PassedFairly s (pass_state m s n (system_at s n)) n ((system_at s n).standing ∷ [])
  fair_here at free =
      let x = system_at s n in
      let f = receives m s n x in
      let kws = length-map (below s n) (λ c. c.kw) in
      record {
        amount = refl;
        empties = stands_here s v n x at f;
        lands = record { received = f 0; adds = sym (lands_here s v n x at f); near = receives_near at free 0 (omega arith) };
        goes_down = λ i h. record { received = f (i + 1); adds = stands_below s v n x at f e i h; near = receives_near at free (i + 1) (omega arith) };
      }

  -- The same, of the system as it was found.
  pub fair_pass : (x : System) → Passes m s n x → PassedFairly s (pass_state m s n x) n (x.standing ∷ [])
  fair_pass x ok =
      subst (λ (y : System). Passes m s n y → PassedFairly s (pass_state m s n y) n (y.standing ∷ [])) (ok.at.entry.here no_system) (λ here. fair_here here.at.entry here.free) ok

  -- A pass that is answered with numbers is fair.
  pub fair_told : (told : List ℕ) → reply_of (passed m s n) ≡ Ok told → PassedFairly s (state_of s (passed m s n)) n told
  fair_told told =
      accepted_pass m s (λ o. reply_of o ≡ Ok told → PassedFairly s (state_of s o) n told)
      (λ refusal refused. let z : ◌≡◌ {A = ℕ} 0 1 = cc in absurd (omega arith)) n
      (λ x ok is. let same : x.standing ∷ [] ≡ told = cc in subst (PassedFairly s (pass_state m s n x) n) same (fair_pass x ok))

-- Every accepted pass of a list of calls is fair.
pub passes_are_fair : (m : Makings) → Lawful m → (calls : List Call) → PassesAreFair m calls
passes_are_fair m law [] = tt
passes_are_fair m law (c ∷ calls) =
    let s = state_after m calls in (
      (λ told is n e.
          subst (λ (d : Call). reply m s d ≡ Ok told → PassedFairly s (after m s d) n told) (sym e)
          (fair_told m law s (grid_of s (sound_state_after m law calls)) (entered_after m law calls) n told) is),
      passes_are_fair m law calls,
    )
