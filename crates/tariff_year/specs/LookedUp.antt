-- What a call looks up before it does anything.
use Rattle.std.specs.Prelude.{ℕ, cond, not, ◌&&◌, Some, None, Ok, Err, Option, Result, nat_le, nat_lt}
use Rattle.refusal.specs.declared.ground.Ground.TheVariants.{NotThere, OutOfBounds, SystemFixed}
use Rattle.refusal.specs.declared.refusal.Refusal.{Refusal}
use Rattle.refusal.specs.Refusals.{refuse}
use Rattle.year_model.specs.declared.tables.System.{System}
use Rattle.year_model.specs.State.{is_fixed}

-- A number above its limit is refused, with the place of the argument.
abbrev pub bounded : ℕ → ℕ → ℕ → Result (Unit {0}) Refusal
bounded place number limit = cond (nat_lt limit number) (Err (refuse OutOfBounds place)) (Ok tt)

-- A number that is none of 1 to the last is refused, with the place of the argument.
abbrev pub bounded_from_1 : ℕ → ℕ → ℕ → Result (Unit {0}) Refusal
bounded_from_1 place number last = cond (not (nat_le 1 number && nat_le number last)) (Err (refuse OutOfBounds place)) (Ok tt)

-- An entry that is not there is refused.
abbrev pub told_entry : {X : Type 0} → Option X → Result X Refusal
told_entry None = Err (refuse NotThere 0)
told_entry (Some x) = Ok x

-- A system that is not there is refused first, then one that is fixed.
abbrev pub unfixed : Option System → Result System Refusal
unfixed None = Err (refuse NotThere 0)
unfixed (Some x) = cond (is_fixed x) (Err (refuse SystemFixed 0)) (Ok x)
