-- The rule of the greatest remainder.
use Rattle.std.specs.Prelude.{ℕ, ◌+◌, ◌-◌, ◌*◌, ◌/◌, ◌%◌, Bool, cond, ◌&&◌, ◌||◌, List, length, sum, ◌==◌, nat_lt, slice_index}
use Rattle.sharing.specs.Sharing.{sum_below}

-- the part that a position has of the amount, rounded down
abbrev pub rounded_share : ℕ → List ℕ → ℕ → ℕ
rounded_share amount ws i = amount * slice_index ws i / sum ws

-- what rounding down takes from it
abbrev pub remainder : ℕ → List ℕ → ℕ → ℕ
remainder amount ws i = amount * slice_index ws i % sum ws

-- the euros left over once every share is rounded down
abbrev pub left_over : ℕ → List ℕ → ℕ
left_over amount ws = amount - sum_below (rounded_share amount ws) (length ws)

-- Position j with remainder rj is served before position i with remainder ri: the greater remainder first, and the
-- lower position among equals.
abbrev pub ahead : ℕ → ℕ → ℕ → ℕ → Bool
ahead rj j ri i = nat_lt ri rj || (rj == ri && nat_lt j i)

-- how many numbers below n pass the test
abbrev pub count_below : (ℕ → Bool) → ℕ → ℕ
count_below p n = sum_below (λ k. cond (p k) 1 0) n

-- how many of the first n positions are served before position i
abbrev pub rank_among : (ℕ → ℕ) → ℕ → ℕ → ℕ
rank_among rem n i = count_below (λ j. ahead (rem j) j (rem i) i) n

abbrev pub rank : ℕ → List ℕ → ℕ → ℕ
rank amount ws i = rank_among (remainder amount ws) (length ws) i

-- A position gets its part rounded down, and one euro more if fewer are served before it than euros are left over.
abbrev pub greatest_share : ℕ → List ℕ → ℕ → ℕ
greatest_share amount ws i = rounded_share amount ws i + cond (nat_lt (rank amount ws i) (left_over amount ws)) 1 0
