-- Lists in which each element stands before those after it, and what filtered and joined lists have.
use Rattle.std.proofs.Common.{◌≡◌, ℕ, zero, suc, ◌+◌, ◌-◌, ◌<◌, ◌≤◌, Bool, true, List, [], ◌∷◌, ◌++◌, length, get_or, filter, sym, ◌∙◌, subst, arith}
use Rattle.std.specs.List.{range_with_len, Contains, flat_map, AllByRecursion as All}
use Rattle.std.proofs.lemmas.List.FromFn.{get_or-range_with_len, length-range_with_len}
use Rattle.std.proofs.ByRecursion.{All-append, All-get_or, all_kept_by}
use Rattle.std.proofs.lemmas.List.Elements.{All-contains, All-from_recursion, Contains-append_left, Contains-append_right}
use Rattle.std.proofs.lemmas.Bool.{cond_both, cond-true}

-- Each element stands in this relation to every one after it.
abbrev pub InOrder : {X : Type 0} → (X → X → Type 0) → List X → Type 0
InOrder R [] = Unit {0}
InOrder R (x ∷ xs) = All (R x) xs × InOrder R xs

module _ {X : Type 0} (R : X → X → Type 0) where
  -- So it is by positions.
  pub in_order_getD : (xs : List X) → InOrder R xs → (i j : ℕ) (d : X) → i < j → j < length xs → R (get_or xs i d) (get_or xs j d)
  in_order_getD [] rises i j d before inside = absurd (omega arith)
  in_order_getD (x ∷ xs) rises i zero d before inside = absurd (omega arith)
  in_order_getD (x ∷ xs) rises zero (suc j) d before inside = All-get_or (R x) xs j d (omega arith) rises.0
  in_order_getD (x ∷ xs) rises (suc i) (suc j) d before inside = in_order_getD xs rises.1 i j d (omega arith) (omega arith)

  -- Two lists make one where every element of the first stands before those of the second.
  pub in_order_append : (xs ys : List X) → InOrder R xs → InOrder R ys → All (λ x. All (R x) ys) xs → InOrder R (xs ++ ys)
  in_order_append [] ys first second before = second
  in_order_append (x ∷ xs) ys first second before = (All-append (R x) xs ys first.0 before.0, in_order_append xs ys first.1 second before.1)

  -- What a filter keeps is in order.
  pub in_order_kept : (test : X → Bool) (xs : List X) → InOrder R xs → InOrder R (filter test xs)
  in_order_kept test [] rises = tt
  in_order_kept test (x ∷ xs) rises =
      let rest = in_order_kept test xs rises.1 in
      cond_both (test x) (x ∷ filter test xs) (filter test xs) (InOrder R) (λ _. (all_kept_by test (R x) xs rises.0, rest)) (λ _. rest)

  -- In another order too, where it follows of any two elements with something in common.
  pub in_order_weaker : (P : X → Type 0) (Q : X → X → Type 0) → ((x y : X) → P x → P y → R x y → Q x y) → (xs : List X) → All P xs → InOrder R xs → InOrder Q xs
  in_order_weaker P Q follows [] each rises = tt
  in_order_weaker P Q follows (x ∷ xs) each rises = (all_together x xs each.0 each.1 rises.0, in_order_weaker P Q follows xs each.1 rises.1)
    where
      all_together : (x : X) (xs : List X) → P x → All P xs → All (R x) xs → All (Q x) xs
      all_together x [] here each before = tt
      all_together x (y ∷ ys) here each before = (follows x y here each.0 before.0, all_together x ys here each.1 before.1)

-- Numbers counted up are above all that is below the first.
above_all : (a b n : ℕ) → a < b → All (λ k. a < k) (range_with_len b n)
above_all a b zero low = tt
above_all a b (suc n) low = (low, above_all a (b + 1) n (omega arith))

-- Numbers counted up rise.
pub counting_rises : (a n : ℕ) → InOrder (λ j k. j < k) (range_with_len a n)
counting_rises a zero = tt
counting_rises a (suc n) = (above_all a (a + 1) n (omega arith), counting_rises (a + 1) n)

-- What holds of each element holds of what the list has.
pub all_has : {X : Type 0} (P : X → Type 0) (xs : List X) (x : X) → All P xs → Contains xs x → P x
all_has P xs x each has = All-contains P xs x (All-from_recursion P xs each) has

-- A number is among those counted up to it.
pub has_counting : (a n k : ℕ) → a ≤ k → k < a + n → Contains (range_with_len a n) k
has_counting a n k low high =
    let long = length-range_with_len a n in
    (k - a, omega arith, get_or-range_with_len a n (k - a) k (omega arith) ∙ omega arith)

-- What a list has, it has with one more in front.
has_later : {X : Type 0} (x y : X) (xs : List X) → Contains xs y → Contains (x ∷ xs) y
has_later x y xs has = (suc has.0, omega (arith, has.1), has.2)

-- A filter keeps what passes the test.
pub has_kept : {X : Type 0} (test : X → Bool) (y : X) → test y ≡ true → (xs : List X) → Contains xs y → Contains (filter test xs) y
has_kept {X} test y passes [] (k, inside, is) = absurd (omega arith)
has_kept {X} test y passes (x ∷ xs) (zero, inside, is) =
    rw (cond-true (test x) (x ∷ filter test xs) (filter test xs) (rw is passes)) (0, omega arith, is)
has_kept {X} test y passes (x ∷ xs) (suc k, inside, is) =
    let rest = has_kept test y passes xs (k, omega arith, is) in
    cond_both (test x) (x ∷ filter test xs) (filter test xs) (λ (zs : List X). Contains zs y) (λ _. has_later x y (filter test xs) rest) (λ _. rest)

-- What holds of each of the lists holds of the joined list.
pub all_joined : {X Y : Type 0} (P : Y → Type 0) (f : X → List Y) → ((x : X) → All P (f x)) → (xs : List X) → All P (flat_map f xs)
all_joined P f each [] = tt
all_joined P f each (x ∷ xs) = All-append P (f x) (flat_map f xs) (each x) (all_joined P f each xs)

-- The joined list has what one of the lists has.
pub has_joined : {X Y : Type 0} (f : X → List Y) (x : X) (y : Y) → Contains (f x) y → (xs : List X) → Contains xs x → Contains (flat_map f xs) y
has_joined {X} {Y} f x y there [] (k, inside, is) = absurd (omega arith)
has_joined {X} {Y} f x y there (z ∷ zs) (zero, inside, is) =
    Contains-append_left (f z) (flat_map f zs) y (subst (λ (w : X). Contains (f w) y) (sym is) there)
has_joined {X} {Y} f x y there (z ∷ zs) (suc k, inside, is) =
    Contains-append_right (f z) (flat_map f zs) y (has_joined f x y there zs (k, omega arith, is))
