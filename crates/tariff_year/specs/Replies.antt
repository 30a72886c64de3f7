-- How the answers of passing and settling speak of the model.
use Rattle.std.specs.Prelude.{ℕ, [], ◌∷◌, Some, None, Ok, Err, Option, Result}
use Rattle.refusal.specs.declared.refusal.Refusal.{Refusal}
use Rattle.passing.specs.declared.pass.Pass.{Pass}
use Rattle.passing.specs.Passing.{worked_out}
use Rattle.year_model.specs.declared.tables.System.{System}
use Rattle.year_model.specs.Calls.{Reply}
use Rattle.year_model.specs.Makings.{Makings}
use Rattle.year_model.specs.Passes.{receives, taker_kws, taker_mwhs}
use Rattle.year_model.specs.State.{State}
use Rattle.tariff_year.specs.declared.passes.Emptied.{Emptied}
use Rattle.tariff_year.specs.declared.passes.Passed.{Passed}
use Rattle.tariff_year.specs.declared.passes.Settled.{Settled}

-- the reply that the euros passed are
abbrev pub told_passed : Result Passed Refusal → Reply
told_passed (Ok p) = Ok (p.euros ∷ [])
told_passed (Err refusal) = Err refusal

-- the reply that the euros landed are
abbrev pub told_settled : Result Settled Refusal → Reply
told_settled (Ok s) = Ok (s.landed ∷ [])
told_settled (Err refusal) = Err refusal

-- This, unless something stands in the way.
abbrev pub unless : {X : Type 0} → Option Refusal → X → Result X Refusal
unless None x = Ok x
unless (Some refusal) x = Err refusal

-- the pass of a system, worked out
abbrev pub pass_of : Makings → State → ℕ → System → Pass
pass_of m s n x = worked_out m.share x.standing x.permille (taker_kws s n x) (taker_mwhs s n x)

-- the euros that left a system, and those of them that landed
abbrev pub emptied_by : Makings → State → ℕ → System → Emptied
emptied_by m s n x = record { passed = x.standing; landed = receives m s n x 0 }
