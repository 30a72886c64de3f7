-- Quotients that are rounded down.
use Rattle.std.specs.Prelude.{◌≡◌, ℕ, ◌+◌, ◌-◌, ◌*◌, ◌/◌, ◌<◌, ◌≤◌}
use Rattle.std.proofs.Common.{sym, mod-lt, add-mul, mul-div_cancel, mul-le-mul_left, arith}
use Rattle.std.proofs.lemmas.Nat.{div-add-mod', le-div}

pub near_div : (n t : ℕ) → 0 < t → (n / t * t ≤ n) × (n < n / t * t + t)
near_div n t p =
    let whole = div-add-mod' n t in
    let rest = mod-lt n p in
    (omega arith, omega arith)

pub div_mono : (m n t : ℕ) → 0 < t → m ≤ n → m / t ≤ n / t
div_mono m n t p h = let near = near_div m t p in le-div (m / t) n t p (omega arith)

-- a difference times a number
pub mul_diff : (m n t : ℕ) → n ≤ m → (m - n) * t + n * t ≡ m * t
mul_diff m n t h =
    let split = add-mul (m - n) n t in
    let back : (m - n) + n ≡ m = omega arith in
    sym (rw back at split)

-- a part of an amount is at most the amount
pub part_within : (amount weight total : ℕ) → 0 < total → weight ≤ total → amount * weight / total ≤ amount
part_within amount weight total some h =
    let under = div_mono (amount * weight) (amount * total) total some (mul-le-mul_left amount h) in
    omega (arith, mul-div_cancel amount some)
