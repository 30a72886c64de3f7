-- Sums over counted numbers, of two functions that are alike at all of them, or at all but one.
use Rattle.std.proofs.Common.{◌≡◌, ℕ, zero, suc, ◌+◌, ◌<◌, ◌≤◌, map, sum, refl, ⊎_elim, arith}
use Rattle.std.specs.List.{range_with_len}
use Rattle.std.proofs.lemmas.List.Sums.{sum_by-cons}
use Rattle.std.proofs.lemmas.Bool.{cases_eq}

-- the sum over one number more, at the front
sum_front : (f : ℕ → ℕ) (a n : ℕ) → sum (map f (range_with_len a (suc n))) ≡ f a + sum (map f (range_with_len (a + 1) n))
sum_front f a n = sum_by-cons (λ (x : ℕ). x) (f a) (map f (range_with_len (a + 1) n))

-- Alike from a number on, the same sum from there.
pub sum_alike : (f g : ℕ → ℕ) (a n : ℕ) → ((i : ℕ) → a ≤ i → f i ≡ g i) → sum (map f (range_with_len a n)) ≡ sum (map g (range_with_len a n))
sum_alike f g a zero same = refl
sum_alike f g a (suc n) same =
    let rest = sum_alike f g (a + 1) n (λ i h. same i (omega arith)) in
    omega (arith, sum_front f a n, sum_front g a n, same a (omega arith))

-- Alike at all numbers but one, the sums differ by what they differ by there.
pub sum_but_one : (f g : ℕ → ℕ) (a n j p : ℕ) → a ≤ j → j < a + n → f j ≡ g j + p → ((i : ℕ) → (i ≡ j → ⊥) → f i ≡ g i)
    → sum (map f (range_with_len a n)) ≡ sum (map g (range_with_len a n)) + p
sum_but_one f g a zero j p low high more same = absurd (omega arith)
sum_but_one f g a (suc n) j p low high more same =
    ⊎_elim
    (λ (e : a ≡ j).
    let rest = sum_alike f g (a + 1) n (λ i h. same i (λ z. omega arith)) in
    let here : f a ≡ g a + p = rw e more in
    omega (arith, sum_front f a n, sum_front g a n))
    (λ (ne : a ≡ j → ⊥).
    let rest = sum_but_one f g (a + 1) n j p (omega (arith, ne)) (omega arith) more same in
    omega (arith, sum_front f a n, sum_front g a n, same a ne))
    (cases_eq a j)
