-- What a limit on the numbers of a list says of their sum.
use Rattle.std.proofs.Common.{◌≡◌, ℕ, ◌*◌, ◌≤◌, false, not, ◌||◌, eqb, ltb, List, [], ◌∷◌, length, sum, sym, refl, ap, ◌∙◌, add-mul, one-mul, add-one, arith}
use Rattle.std.specs.List.{list_any}
use Rattle.std.proofs.lemmas.List.Sums.{sum_by-cons}
use Rattle.std.proofs.lemmas.Bool.{or_parts, ltb-false}
use Rattle.std.proofs.lemmas.Bool.Decides.{nat_tests}
use Rattle.sharing.specs.Limits.{above}

-- where none is above the limit, the sum is bounded
pub sum_bounded : (limit : ℕ) (xs : List ℕ) → above limit xs ≡ false → sum xs ≤ length xs * limit
sum_bounded limit [] h = omega arith
sum_bounded limit (x ∷ xs) h =
    let parts = or_parts (ltb limit x) (above limit xs) h in
    let here = ltb-false limit x parts.0 in
    let rest = sum_bounded limit xs parts.1 in
    let times = ap (λ n. n * limit) (sym (add-one (length xs))) ∙ add-mul (length xs) 1 limit in
    omega (arith, sum_by-cons (λ x. x) x xs, one-mul limit)

-- a sum is 0 just where no number is above 0
pub sum_is_zero : (xs : List ℕ) → eqb (sum xs) 0 ≡ not (above 0 xs)
sum_is_zero [] = refl
sum_is_zero (x ∷ xs) =
    let rest = sum_is_zero xs in
    let whole = sum_by-cons (λ x. x) x xs in
    grind (arith, nat_tests)

-- the search by a test of each number
pub above_any : (limit : ℕ) (xs : List ℕ) → list_any (λ x. ltb limit x) xs ≡ above limit xs
above_any limit [] = refl
above_any limit (x ∷ xs) = ap (λ b. ltb limit x || b) (above_any limit xs)
