-- What stands in the way of settling, read off the tables from the front.
use Rattle.std.specs.Prelude.{ℕ, ◌+◌, cond, List, [], ◌∷◌, map, length, Some, None, Option, nat_lt}
use Rattle.refusal.specs.declared.ground.Ground.TheVariants.{ListTooLong, NoWeight}
use Rattle.refusal.specs.declared.refusal.Refusal.{Refusal}
use Rattle.refusal.specs.Refusals.{refuse}
use Rattle.passing.specs.Passing.{nothing_to_go_by}
use Rattle.year_model.specs.declared.tables.Coupling.{Coupling}
use Rattle.year_model.specs.declared.tables.System.{System}
use Rattle.year_model.specs.Passes.{or_else}
use Rattle.year_model.specs.State.{is_fixed}
use Rattle.tariff_year.specs.Takings.{leading_down}

-- the takers' kW: the consumers' first, then each coupling's
abbrev pub kws_of : List Coupling → ℕ → System → List ℕ
kws_of cs n x = x.kw ∷ map (λ c. c.kw) (leading_down cs n)

-- the takers' MWh, likewise
abbrev pub mwhs_of : List Coupling → ℕ → System → List ℕ
mwhs_of cs n x = x.mwh ∷ map (λ c. c.mwh) (leading_down cs n)

-- what stands in the way of passing the system with this number
abbrev pub way_of : ℕ → List Coupling → ℕ → System → Option Refusal
way_of longest cs n x =
    cond (nat_lt longest (length (kws_of cs n x))) (Some (refuse ListTooLong n))
    (cond (nothing_to_go_by x.permille (kws_of cs n x) (mwhs_of cs n x)) (Some (refuse NoWeight n)) None)

-- the first that stands in the way among these systems, numbered from this on; a fixed one is in nobody's way
abbrev pub first_way : ℕ → List Coupling → ℕ → List System → Option Refusal
first_way longest cs n [] = None
first_way longest cs n (x ∷ xs) = or_else (cond (is_fixed x) None (way_of longest cs n x)) (first_way longest cs (n + 1) xs)
