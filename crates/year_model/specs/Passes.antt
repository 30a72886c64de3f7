-- Passing a system, and settling all that are not fixed.
use Rattle.std.specs.Prelude.{ℕ, ◌+◌, Bool, false, cond, not, ◌&&◌, List, [], ◌∷◌, map, length, Some, None, Ok, Err, filter, Option, ◌==◌, nat_eq, nat_lt}
use Rattle.std.specs.List.{range_with_len, flat_map}
use Rattle.refusal.specs.declared.ground.Ground.TheVariants.{ListTooLong, NoWeight}
use Rattle.refusal.specs.declared.refusal.Refusal.{Refusal}
use Rattle.refusal.specs.Refusals.{refuse}
use Rattle.passing.specs.Passing.{nothing_to_go_by, received}
use Rattle.year_model.specs.declared.tables.Coupling.{Coupling}
use Rattle.year_model.specs.declared.tables.System.{System}
use Rattle.year_model.specs.Calls.{Outcome, largest_number, on_unfixed, state_of, within}
use Rattle.year_model.specs.Makings.{Makings}
use Rattle.year_model.specs.State.{State, is_fixed, numbered, rank, renumbered, with_systems}
use Rattle.year_model.specs.Systems.{standing_at}

-- the couplings that lead down from a system, in order of entry
abbrev pub below : State → ℕ → List Coupling
below s n = filter (λ c. nat_eq c.upper n) s.couplings

-- the takers' kW: the consumers' first, then each coupling's
abbrev pub taker_kws : State → ℕ → System → List ℕ
taker_kws s n x = x.kw ∷ map (λ c. c.kw) (below s n)

-- the takers' MWh, likewise
abbrev pub taker_mwhs : State → ℕ → System → List ℕ
taker_mwhs s n x = x.mwh ∷ map (λ c. c.mwh) (below s n)

-- what a taker receives when the system is passed
abbrev pub receives : Makings → State → ℕ → System → ℕ → ℕ
receives m s n x taker = received m.share x.standing x.permille (taker_kws s n x) (taker_mwhs s n x) taker

-- What stands in the way of passing a system: too many takers, or nothing to go by.
abbrev pub in_the_way : Makings → State → ℕ → System → Option Refusal
in_the_way m s n x =
    cond (nat_lt m.longest (length (taker_kws s n x))) (Some (refuse ListTooLong n))
    (cond (nothing_to_go_by x.permille (taker_kws s n x) (taker_mwhs s n x)) (Some (refuse NoWeight n)) None)

-- the system with nothing standing and more landed
abbrev pub emptied : System → ℕ → System
emptied x euros =
    record { level = x.level; category = x.category; kw = x.kw; mwh = x.mwh; permille = x.permille; standing = 0; landed = x.landed + euros; fixing = x.fixing }

-- more euros stand at the system with this number
abbrev pub more_at : List System → ℕ → ℕ → Option System → List System
more_at xs n euros None = xs
more_at xs n euros (Some x) = renumbered xs n (standing_at x (x.standing + euros))

abbrev pub more_standing : List System → ℕ → ℕ → List System
more_standing xs n euros = more_at xs n euros (numbered xs n)

-- Each coupling's lower system has more standing, by what that taker receives.
abbrev pub handed_down : (ℕ → ℕ) → ℕ → List Coupling → List System → List System
handed_down receive taker [] xs = xs
handed_down receive taker (c ∷ cs) xs = handed_down receive (taker + 1) cs (more_standing xs c.lower (receive taker))

-- The consumers' euros land, the couplings' go down, and nothing stands at the system.
abbrev pub pass_state : Makings → State → ℕ → System → State
pass_state m s n x =
    with_systems s
    (handed_down (receives m s n x) 1 (below s n) (renumbered s.systems n (emptied x (receives m s n x 0))))

abbrev pub pass_with : Makings → State → ℕ → System → Option Refusal → Outcome
pass_with m s n x (Some refusal) = Err refusal
pass_with m s n x None = Ok (pass_state m s n x, x.standing ∷ [])

-- Pass empties a system and tells the euros passed.
abbrev pub passed : Makings → State → ℕ → Outcome
passed m s n = within ((n, largest_number) ∷ []) (on_unfixed s n (λ x. pass_with m s n x (in_the_way m s n x)))

-- the numbers of all systems
abbrev pub numbers : State → List ℕ
numbers s = range_with_len 1 (length s.systems)

-- what stands in the way of settling at one system; a fixed one is in nobody's way
abbrev pub obstacle : Makings → State → ℕ → Option System → Option Refusal
obstacle m s n None = None
obstacle m s n (Some x) = cond (is_fixed x) None (in_the_way m s n x)

abbrev pub or_else : Option Refusal → Option Refusal → Option Refusal
or_else None other = other
or_else (Some refusal) other = Some refusal

-- the first obstacle, by number
abbrev pub first_obstacle : Makings → State → List ℕ → Option Refusal
first_obstacle m s [] = None
first_obstacle m s (n ∷ ns) = or_else (obstacle m s n (numbered s.systems n)) (first_obstacle m s ns)

-- The ranks of the levels, highest level first.
abbrev pub ranks : List ℕ
ranks = range_with_len 1 7

abbrev pub is_unfixed_at : ℕ → Option System → Bool
is_unfixed_at r None = false
is_unfixed_at r (Some x) = not (is_fixed x) && rank x == r

-- The order of settling: every unfixed system, by rank of level and then by number.
abbrev pub settle_order : State → List ℕ
settle_order s = flat_map (λ r. filter (λ n. is_unfixed_at r (numbered s.systems n)) (numbers s)) ranks

-- the state after these systems are passed in turn
abbrev pub passed_in_turn : Makings → State → List ℕ → State
passed_in_turn m s [] = s
passed_in_turn m s (n ∷ ns) = passed_in_turn m (state_of s (passed m s n)) ns

-- the euros that land with the consumers when a system is passed
abbrev pub landing : Makings → State → ℕ → Option System → ℕ
landing m s n None = 0
landing m s n (Some x) = receives m s n x 0

-- the euros that land when these systems are passed in turn
abbrev pub landed_in_turn : Makings → State → List ℕ → ℕ
landed_in_turn m s [] = 0
landed_in_turn m s (n ∷ ns) = landing m s n (numbered s.systems n) + landed_in_turn m (state_of s (passed m s n)) ns

abbrev pub settle_with : Makings → State → Option Refusal → Outcome
settle_with m s (Some refusal) = Err refusal
settle_with m s None = Ok (passed_in_turn m s (settle_order s), landed_in_turn m s (settle_order s) ∷ [])

-- Settle passes every unfixed system once, and tells the euros landed; the first obstacle refuses it.
abbrev pub settled : Makings → State → Outcome
settled m s = settle_with m s (first_obstacle m s (numbers s))
