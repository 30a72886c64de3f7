-- How far what a taker receives may lie from its exact proportion.
use Rattle.std.specs.Prelude.{ℕ, ◌+◌, ◌-◌, ◌*◌, ◌<◌, cond, List, sum, ◌==◌, slice_index}

-- all takers' weights together; 1 where the factor is 0, since that term is left out
abbrev pub all_of : ℕ → List ℕ → ℕ
all_of factor ws = cond (factor == 0) 1 (sum ws)

-- The exact proportion is the amount times the permille times the taker's kW over all kW, plus the amount times the rest
-- of 1,000 times its MWh over all MWh, divided by 1,000. As a fraction: the denominator ..
abbrev pub denominator : ℕ → List ℕ → List ℕ → ℕ
denominator permille kws mwhs = 1000 * (all_of permille kws * all_of (1000 - permille) mwhs)

-- .. and the numerator.
abbrev pub numerator : ℕ → ℕ → List ℕ → List ℕ → ℕ → ℕ
numerator amount permille kws mwhs taker =
    amount * (permille * (slice_index kws taker * all_of (1000 - permille) mwhs) + (1000 - permille) * (slice_index mwhs taker * all_of permille kws))

-- What is received is less than three euros above and less than three euros below the proportion.
abbrev pub WithinThreeEuros : ℕ → ℕ → ℕ → Type 0
WithinThreeEuros received numerator denominator =
    (received * denominator < numerator + 3 * denominator) × (numerator < received * denominator + 3 * denominator)
