-- Limits on the numbers of a list.
use Rattle.std.specs.Prelude.{ℕ, Bool, false, ◌||◌, List, [], ◌∷◌, nat_lt}

-- some number of the list is above the limit
abbrev pub above : ℕ → List ℕ → Bool
above limit [] = false
above limit (x ∷ xs) = nat_lt limit x || above limit xs
