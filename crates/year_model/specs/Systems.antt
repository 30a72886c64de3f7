-- Opening, coupling and using systems, and costs.
use Rattle.std.specs.Prelude.{ℕ, ◌+◌, ◌-◌, Bool, cond, not, ◌&&◌, ◌||◌, List, [], ◌∷◌, ◌++◌, length, None, Ok, Err, count_by, ◌==◌, nat_eq, nat_le, nat_lt}
use Rattle.refusal.specs.declared.ground.Ground.TheVariants.{CostsTooHigh, CoupledAlready, LevelNotLower, MoreThanStands, OutOfBounds, SystemFixed, TableFull, UnknownCategory}
use Rattle.refusal.specs.Refusals.{refuse}
use Rattle.edition.specs.Entered.{is_category}
use Rattle.sharing.specs.Sharing.{largest_amount}
use Rattle.passing.specs.Passing.{largest_flow}
use Rattle.year_model.specs.declared.tables.Coupling.{Coupling}
use Rattle.year_model.specs.declared.tables.System.{System}
use Rattle.year_model.specs.Calls.{Outcome, found, largest_number, on_unfixed, within}
use Rattle.year_model.specs.Makings.{Makings}
use Rattle.year_model.specs.State.{State, is_fixed, numbered, rank, with_couplings, with_net, with_system, with_systems}

-- the most systems, couplings in all, and couplings below one system
abbrev pub most_systems : ℕ
most_systems = 64

abbrev pub most_couplings : ℕ
most_couplings = 256

abbrev pub most_below : ℕ
most_below = 31

-- The levels are 1 to 7.
abbrev pub is_level : ℕ → Bool
is_level level = nat_le 1 level && nat_le level 7

-- a system with nothing in it
abbrev pub new_system : ℕ → ℕ → System
new_system level category =
    record { level = level; category = category; kw = 0; mwh = 0; permille = 1000; standing = 0; landed = 0; fixing = None }

-- Open adds a system at the end and tells its number.
abbrev pub opened : Makings → State → ℕ → ℕ → Outcome
opened m s level category =
    cond (not (is_level level)) (Err (refuse OutOfBounds 1))
    (cond (not (is_category category)) (Err (refuse OutOfBounds 2))
    (cond (not (m.known category)) (Err (refuse UnknownCategory 0))
    (cond (nat_le most_systems (length s.systems)) (Err (refuse TableFull 0))
    (Ok (with_systems s (s.systems ++ new_system level category ∷ []), (length s.systems + 1) ∷ [])))))

-- how many couplings lead down from this system
abbrev pub below_count : List Coupling → ℕ → ℕ
below_count couplings upper = count_by (λ c. nat_eq c.upper upper) couplings

-- how many couplings join these two systems
abbrev pub joining_count : List Coupling → ℕ → ℕ → ℕ
joining_count couplings upper lower = count_by (λ c. (c.upper == upper) && c.lower == lower) couplings

-- Couple joins an upper system to a lower one, adds the coupling at the end and tells its number.
abbrev pub coupled_with : State → ℕ → ℕ → ℕ → ℕ → System → System → Outcome
coupled_with s upper lower kw mwh above below =
    cond (nat_le most_couplings (length s.couplings) || nat_le most_below (below_count s.couplings upper)) (Err (refuse TableFull 0))
    (cond (is_fixed above || is_fixed below) (Err (refuse SystemFixed 0))
    (cond (nat_le (rank below) (rank above)) (Err (refuse LevelNotLower 0))
    (cond (nat_lt 0 (joining_count s.couplings upper lower)) (Err (refuse CoupledAlready 0))
    (Ok (with_couplings s (s.couplings ++ record { upper = upper; lower = lower; kw = kw; mwh = mwh } ∷ []), (length s.couplings + 1) ∷ [])))))

abbrev pub coupled : State → ℕ → ℕ → ℕ → ℕ → Outcome
coupled s upper lower kw mwh =
    within ((upper, largest_number) ∷ (lower, largest_number) ∷ (kw, largest_flow) ∷ (mwh, largest_flow) ∷ [])
    (found (numbered s.systems upper) (λ above. found (numbered s.systems lower) (λ below. coupled_with s upper lower kw mwh above below)))

-- the system with other consumers
abbrev pub with_use : System → ℕ → ℕ → ℕ → System
with_use x kw mwh permille =
    record { level = x.level; category = x.category; kw = kw; mwh = mwh; permille = permille; standing = x.standing; landed = x.landed; fixing = x.fixing }

-- Use sets the kW, the MWh and the permille of a system, and tells its number.
abbrev pub used : State → ℕ → ℕ → ℕ → ℕ → Outcome
used s n kw mwh permille =
    within ((n, largest_number) ∷ (kw, largest_flow) ∷ (mwh, largest_flow) ∷ (permille, 1000) ∷ [])
    (on_unfixed s n (λ x. Ok (with_system s n (with_use x kw mwh permille), n ∷ [])))

-- the system with other euros standing
abbrev pub standing_at : System → ℕ → System
standing_at x euros =
    record { level = x.level; category = x.category; kw = x.kw; mwh = x.mwh; permille = x.permille; standing = euros; landed = x.landed; fixing = x.fixing }

-- Cost adds euros to those standing at a system, and tells the euros now standing.
abbrev pub charged : State → ℕ → ℕ → Outcome
charged s n euros =
    within ((n, largest_number) ∷ (euros, largest_amount) ∷ [])
    (on_unfixed s n (λ x.
    cond (nat_lt largest_amount (s.net + euros)) (Err (refuse CostsTooHigh 0))
    (Ok (with_net (with_system s n (standing_at x (x.standing + euros))) (s.net + euros), (x.standing + euros) ∷ []))))

-- Take back removes euros that stand at a system, and tells the euros still standing.
abbrev pub taken_back : State → ℕ → ℕ → Outcome
taken_back s n euros =
    within ((n, largest_number) ∷ (euros, largest_amount) ∷ [])
    (on_unfixed s n (λ x.
    cond (nat_lt x.standing euros) (Err (refuse MoreThanStands 0))
    (Ok (with_net (with_system s n (standing_at x (x.standing - euros))) (s.net - euros), (x.standing - euros) ∷ []))))
