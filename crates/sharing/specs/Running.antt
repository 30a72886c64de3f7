-- The running rule.
use Rattle.std.specs.Prelude.{ℕ, ◌+◌, ◌-◌, ◌*◌, ◌/◌, List, take, sum}

-- what the first n weights together have of the amount, rounded down
abbrev pub running_part : ℕ → List ℕ → ℕ → ℕ
running_part amount ws n = amount * sum (take n ws) / sum ws

-- A position gets the part of the weights up to and including it, less that of the weights before it.
abbrev pub running_share : ℕ → List ℕ → ℕ → ℕ
running_share amount ws i = running_part amount ws (i + 1) - running_part amount ws i
