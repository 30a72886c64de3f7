-- The systems that are passed in turn when a year is settled.
use Rattle.std.specs.Prelude.{ℕ, Bool, cond, List, [], ◌∷◌, filter}
use Rattle.year_model.specs.Passes.{is_unfixed_at, numbers}
use Rattle.year_model.specs.State.{State, numbered}

-- Whether the system with this number has its turn at this level.
abbrev pub has_turn : State → ℕ → ℕ → Bool
has_turn s level n = is_unfixed_at level (numbered s.systems n)

-- the number, if it has its turn
abbrev pub turn_of : State → ℕ → ℕ → List ℕ
turn_of s level n = cond (has_turn s level n) (n ∷ []) []

-- the numbers that have their turn at this level, in order
abbrev pub turns : State → ℕ → List ℕ
turns s level = filter (has_turn s level) (numbers s)
