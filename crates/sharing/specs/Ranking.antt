-- In a strict order of the numbers below n, just k of them have fewer than k before them.
use Rattle.std.specs.Prelude.{◌≡◌, ℕ, zero, suc, ◌+◌, ◌-◌, ◌<◌, ◌≤◌, Bool, true, false, cond, ltb, ◌⊎◌, nat_lt}
use Rattle.std.proofs.Common.{ap, ◌∙◌, inl, inr, ⊎_elim, arith}
use Rattle.std.proofs.lemmas.Bool.{cases_Bool, cases_lt, both_ways}
use Rattle.std.proofs.lemmas.Bool.Decides.{nat_tests}
use Rattle.sharing.specs.Greatest.{count_below}
use Rattle.sharing.specs.Counting.{count_le, count_same, count_mono, count_less}

-- how many of the first n stand before i
abbrev pub place : (ℕ → ℕ → Bool) → ℕ → ℕ → ℕ
place b n i = count_below (λ j. b j i) n

-- A newcomer at place m stands before another at place r, or after it.
abbrev Beside : Bool → ℕ → ℕ → Type 0
Beside x r m = ((x ≡ true) × (m ≤ r)) ⊎ ((x ≡ false) × (r < m))

shifted : (x : Bool) (r m k : ℕ) → Beside x r m → m < k → nat_lt (r + cond x 1 0) k ≡ nat_lt r (k - 1)
shifted x r m k h l = grind (arith, nat_tests)

unshifted : (x : Bool) (r m k : ℕ) → Beside x r m → k ≤ m → nat_lt (r + cond x 1 0) k ≡ nat_lt r k
unshifted x r m k h l = grind (arith, nat_tests)

module _
    (b : ℕ → ℕ → Bool)
    (irrefl : (i : ℕ) → b i i ≡ false)
    (trans : (i j k : ℕ) → b i j ≡ true → b j k ≡ true → b i k ≡ true)
    (total : (i j : ℕ) → i < j → b i j ≡ false → b j i ≡ true)
  where
    -- the number n beside each i below it
    beside : (n i : ℕ) → i < n → Beside (b n i) (place b n i) (place b n n)
    beside n i l =
        ⊎_elim
        (λ (e : b i n ≡ true).
        let not_back : b n i ≡ false = ⊎_elim (λ (back : b n i ≡ true). absurd (both_ways (b i i) (irrefl i) (trans i n i e back))) (λ (f : b n i ≡ false). f) (cases_Bool (b n i)) in
        inr (not_back, count_less (λ j. b j i) (λ j. b j n) n i (λ j _ h. trans j i n h e) l (irrefl i) e))
        (λ (e : b i n ≡ false).
        let back = total i n l e in
        inl (back, count_mono (λ j. b j n) (λ j. b j i) n (λ j _ h. trans j n i h back)))
        (cases_Bool (b i n))

    pub count_places : (n k : ℕ) → k ≤ n → count_below (λ i. ltb (place b n i) k) n ≡ k
    count_places zero k h = omega arith
    count_places (suc n) k h =
        let m = place b n n in
        let own : place b (suc n) n ≡ m = ap (λ x. m + cond x 1 0) (irrefl n) ∙ (omega arith) in
        ⊎_elim
        (λ (l : m < k).
        let others = count_same (λ i. ltb (place b (suc n) i) k) (λ i. ltb (place b n i) (k - 1)) n (λ i li. shifted (b n i) (place b n i) m k (beside n i li) l) in
        let before = count_places n (k - 1) (omega arith) in
        let last : cond {A = ℕ} (nat_lt (place b (suc n) n) k) 1 0 ≡ 1 = rw own (grind (arith, nat_tests)) in
        omega arith)
        (λ (l : k ≤ m).
        let others = count_same (λ i. ltb (place b (suc n) i) k) (λ i. ltb (place b n i) k) n (λ i li. unshifted (b n i) (place b n i) m k (beside n i li) l) in
        let before = count_places n k (omega (arith, count_le (λ j. b j n) n)) in
        let last : cond {A = ℕ} (nat_lt (place b (suc n) n) k) 1 0 ≡ 0 = rw own (grind (arith, nat_tests)) in
        omega arith)
        (cases_lt m k)
