-- Sums and counts over the numbers below n.
use Rattle.std.specs.Prelude.{◌≡◌, ℕ, zero, suc, ◌+◌, ◌<◌, ◌≤◌, Bool, true, false, cond, List, length, take, sum, slice_index, refl}
use Rattle.std.proofs.Common.{sym, ap, ◌∙◌, add-one, arith, ⊎_elim}
use Rattle.std.proofs.lemmas.List.Sums.{sum_by_more}
use Rattle.std.proofs.lemmas.Bool.{cases_eq}
use Rattle.sharing.specs.Sharing.{sum_below}
use Rattle.sharing.specs.Greatest.{count_below}

pub sum_same : (f g : ℕ → ℕ) (n : ℕ) → ((k : ℕ) → k < n → f k ≡ g k) → sum_below f n ≡ sum_below g n
sum_same f g zero h = refl
sum_same f g (suc n) h =
    let before = sum_same f g n (λ k l. h k (omega arith)) in
    omega (arith, h n (omega arith))

pub sum_le : (f g : ℕ → ℕ) (n : ℕ) → ((k : ℕ) → k < n → f k ≤ g k) → sum_below f n ≤ sum_below g n
sum_le f g zero h = omega arith
sum_le f g (suc n) h =
    let before = sum_le f g n (λ k l. h k (omega arith)) in
    omega (arith, h n (omega arith))

pub term_le : (f : ℕ → ℕ) (n i : ℕ) → i < n → f i ≤ sum_below f n
term_le f zero i l = absurd (omega arith)
term_le f (suc n) i l =
    ⊎_elim
    (λ (e : i ≡ n). let here : f i ≤ f n = rw e (omega arith) in omega arith)
    (λ (ne : i ≡ n → ⊥). let before = term_le f n i (omega arith) in omega arith)
    (cases_eq i n)

pub sum_lt : (f g : ℕ → ℕ) (n i : ℕ) → ((k : ℕ) → k < n → f k ≤ g k) → i < n → f i < g i → sum_below f n < sum_below g n
sum_lt f g zero i h l s = absurd (omega arith)
sum_lt f g (suc n) i h l s =
    ⊎_elim
    (λ (e : i ≡ n). let before = sum_le f g n (λ k l. h k (omega arith)) in let here : f n < g n = rw e at s in omega arith)
    (λ (ne : i ≡ n → ⊥).
    let before = sum_lt f g n i (λ k l. h k (omega arith)) (omega arith) s in
    omega (arith, h n (omega arith)))
    (cases_eq i n)

pub sum_plus : (f g : ℕ → ℕ) (n : ℕ) → sum_below (λ k. f k + g k) n ≡ sum_below f n + sum_below g n
sum_plus f g zero = refl
sum_plus f g (suc n) = let before = sum_plus f g n in omega arith

cond_le : (x y : Bool) → (x ≡ true → y ≡ true) → cond x 1 0 ≤ cond y 1 0
cond_le true y h = rw (h refl) (omega arith)
cond_le false y h = omega arith

pub count_le : (p : ℕ → Bool) (n : ℕ) → count_below p n ≤ n
count_le p zero = omega arith
count_le p (suc n) = let before = count_le p n in let one = cond_le (p n) true (λ _. refl) in omega arith

pub count_same : (p q : ℕ → Bool) (n : ℕ) → ((k : ℕ) → k < n → p k ≡ q k) → count_below p n ≡ count_below q n
count_same p q n h = sum_same (λ k. cond (p k) 1 0) (λ k. cond (q k) 1 0) n (λ k l. ap (λ b. cond b 1 0) (h k l))

pub count_mono : (p q : ℕ → Bool) (n : ℕ) → ((k : ℕ) → k < n → p k ≡ true → q k ≡ true) → count_below p n ≤ count_below q n
count_mono p q n h = sum_le (λ k. cond (p k) 1 0) (λ k. cond (q k) 1 0) n (λ k l. cond_le (p k) (q k) (h k l))

-- strictly fewer, where some i passes only the second test
pub count_less : (p q : ℕ → Bool) (n i : ℕ) → ((k : ℕ) → k < n → p k ≡ true → q k ≡ true) → i < n → p i ≡ false → q i ≡ true → count_below p n < count_below q n
count_less p q n i h l fails passes =
    let differs : cond (p i) 1 0 < cond (q i) 1 0 = rw (fails, passes) (omega arith) in
    sum_lt (λ k. cond (p k) 1 0) (λ k. cond (q k) 1 0) n i (λ k l. cond_le (p k) (q k) (h k l)) l differs

-- one more at the end
pub sum_more : (f : ℕ → ℕ) (n : ℕ) → sum_below f (n + 1) ≡ sum_below f n + f n
sum_more f n = ap (sum_below f) (add-one n)

pub count_more : (p : ℕ → Bool) (n : ℕ) (b : Bool) → p n ≡ b → count_below p (n + 1) ≡ count_below p n + cond b 1 0
count_more p n b e = sum_more (λ k. cond (p k) 1 0) n ∙ ap (λ x. count_below p n + cond x 1 0) e

-- the front of a list whose elements are told by f
pub sum_told : (f : ℕ → ℕ) (xs : List ℕ) (n : ℕ) → n ≤ length xs → ((k : ℕ) → k < n → slice_index xs k ≡ f k) → sum (take n xs) ≡ sum_below f n
sum_told f xs zero h told = refl
sum_told f xs (suc n) h told =
    let before = sum_told f xs n (omega arith) (λ k l. told k (omega arith)) in
    let more = ap (λ m. sum (take m xs)) (sym (add-one n)) ∙ sum_by_more (λ x. x) xs n 0 h in
    omega (arith, told n (omega arith))
