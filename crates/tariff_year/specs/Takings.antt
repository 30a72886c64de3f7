-- The couplings that a pass goes down.
use Rattle.std.specs.Prelude.{ℕ, ◌<◌, ◌≤◌, List, length, None, filter, nat_eq, slice_index_or}
use Rattle.year_model.specs.declared.tables.Coupling.{Coupling}
use Rattle.year_model.specs.declared.tables.System.{System}
use Rattle.year_model.specs.Sound.{no_coupling}

-- the couplings that lead down from a system, in order of entry
abbrev pub leading_down : List Coupling → ℕ → List Coupling
leading_down couplings upper = filter (λ c. nat_eq c.upper upper) couplings

-- Every coupling leads down to one of this many systems.
abbrev pub LeadWithin : ℕ → List Coupling → Type 0
LeadWithin count cs =
    (k : ℕ) → k < length cs → (1 ≤ (slice_index_or cs k no_coupling).lower) × ((slice_index_or cs k no_coupling).lower ≤ count)

-- what stands where no system is read
abbrev pub blank_system : System
blank_system =
    record { level = 0; category = 0; kw = 0; mwh = 0; permille = 0; standing = 0; landed = 0; fixing = None }
