-- The columns of a number, as many as one likes: what each holds, and what a reader and a writer have after some of them.
use Rattle.std.proofs.Common.{◌≡◌, ℕ, zero, suc, ◌+◌, ◌-◌, ◌*◌, ◌/◌, ◌^◌, ◌<◌, Bool, true, false, cond, ◌&&◌, eqb, ltb, List, ◌∷◌, length, get_or, take, drop, set, Some, None, Decides, sym, refl, ap, ◌∙◌, ⊎_elim, pow-suc, div-one, arith, length-set}
use native.Mathlib.Nat.{div-div-eq-div-mul, div-eq_of_lt}
use Rattle.std.proofs.lemmas.List.{take_more_same, take_all, drop_all, drop-set}
use Rattle.std.proofs.lemmas.Bool.{eq-eqb, ne_eqb, cases_eq, cond_both}
use Rattle.std.proofs.lemmas.Slice.Eq.{bytes_eq-Decides}
use Rattle.std.proofs.lemmas.Bool.Decides.{Decides-and, Decides-ltb}
use Rattle.std.specs.Str.{bytes_eq}
use Rattle.rows.specs.Fields.{mark, columns, shown_from, number_of}

pub length_columns : (k n : ℕ) → length (columns k n) ≡ k
unfolding columns
length_columns zero n = refl
length_columns (suc k) n = ap suc (length_columns k n)

-- the column i from the left, j from the right
pub getD_columns : (k n i j : ℕ) → i + j + 1 ≡ k → get_or (columns k n) i 0 ≡ mark (eqb j 0) (n / 10 ^ j)
unfolding columns
getD_columns zero n i j e = absurd (omega arith)
getD_columns (suc k) n zero j e = let s : k ≡ j = omega arith in ap (λ m. mark (eqb m 0) (n / 10 ^ m)) s
getD_columns (suc k) n (suc i) j e = getD_columns k n i j (omega arith)

-- one digit fewer
pub shorter : (n i j : ℕ) → i ≡ j + 1 → n / 10 ^ j / 10 ≡ n / 10 ^ i
shorter n i j e =
    let s : i ≡ suc j = omega arith in
    div-div-eq-div-mul n (10 ^ j) 10 ∙ ap (λ m. n / m) (sym (pow-suc 10 j) ∙ ap (λ m. 10 ^ m) (sym s))

pub mark_same : (last : Bool) (m n : ℕ) → m / 10 ≡ n / 10 → mark last m ≡ mark last n → m ≡ n
mark_same true m n d e = omega arith
mark_same false m n d e = grind arith

-- the last column, from the left and from the right
pub same_last : (k i j : ℕ) → i + j + 1 ≡ k → eqb (i + 1) k ≡ eqb j 0
same_last k i j e =
    ⊎_elim (λ z. eq-eqb (i + 1) k (omega arith) ∙ sym (eq-eqb j 0 z)) (λ z. ne_eqb (i + 1) k (λ s. z (omega arith)) ∙ sym (ne_eqb j 0 z)) (cases_eq j 0)

-- v is what the first i of the k columns xs say
pub record Read (k : ℕ) (xs : List ℕ) (i v : ℕ) : Type 0 where
  pub below : v < 10 ^ i
  pub front : (n : ℕ) → n / 10 ^ (k - i) ≡ v → take i xs ≡ take i (columns k n)
  pub only : (n : ℕ) → n < 10 ^ k → xs ≡ columns k n → n / 10 ^ (k - i) ≡ v

module _ (k : ℕ) (xs : List ℕ) (i v : ℕ) (long : length xs ≡ k) (lt : i < k) (so : Read k xs i v) where
  column_at : (n : ℕ) → get_or (columns k n) i 0 ≡ mark (eqb (i + 1) k) (n / 10 ^ (k - (i + 1)))
  column_at n =
      let j : ℕ = k - (i + 1) in
      getD_columns k n i j (omega arith) ∙ ap (λ b. mark b (n / 10 ^ j)) (sym (same_last k i j (omega arith)))

  pub read_more : (w : ℕ) → w / 10 ≡ v → mark (eqb (i + 1) k) w ≡ get_or xs i 0 → Read k xs (i + 1) w
  read_more w d m =
      let j : ℕ = k - (i + 1) in
      let at : (n : ℕ) → get_or (columns k n) i 0 ≡ mark (eqb (i + 1) k) (n / 10 ^ j) = λ n. column_at n in
      let less : (n : ℕ) → n / 10 ^ j / 10 ≡ n / 10 ^ (k - i) = λ n. shorter n (k - i) j (omega arith) in
      let s : i + 1 ≡ suc i = omega arith in
      let p : 10 ^ (i + 1) ≡ 10 ^ i * 10 = ap (λ m. 10 ^ m) s ∙ pow-suc 10 i in
      record {
        below = omega (arith, so.below);
        front = λ n e.
            take_more_same xs (columns k n) i 0 (omega arith) (omega (arith, length_columns k n))
            (so.front n (sym (less n) ∙ ap (λ m. m / 10) e ∙ d))
            (sym m ∙ ap (mark (eqb (i + 1) k)) (sym e) ∙ sym (at n));
        only = λ n l e.
            mark_same (eqb (i + 1) k) (n / 10 ^ j) w (less n ∙ so.only n l e ∙ sym d)
            (sym (at n) ∙ ap (λ l. get_or l i 0) (sym e) ∙ sym m);
      }

  pub read_refused : ((w : ℕ) → w / 10 ≡ v → mark (eqb (i + 1) k) w ≡ get_or xs i 0 → ⊥) → (n : ℕ) → n < 10 ^ k → xs ≡ columns k n → ⊥
  read_refused no_such n l e =
      let j : ℕ = k - (i + 1) in
      no_such (n / 10 ^ j) (shorter n (k - i) j (omega arith) ∙ so.only n l e)
      (sym (column_at n) ∙ ap (λ l. get_or l i 0) (sym e))

pub read_all : (k : ℕ) (xs : List ℕ) (v : ℕ) → length xs ≡ k → Read k xs k v → (v < 10 ^ k) × (xs ≡ columns k v)
read_all k xs v long so =
    let s : k - k ≡ 0 = omega arith in
    (so.below, sym (take_all k xs (omega arith)) ∙ so.front v (ap (λ m. v / 10 ^ m) s ∙ div-one v) ∙ take_all k (columns k v) (omega (arith, length_columns k v)))

-- the columns of xs from i on are written, and rest is what is left of n
pub record Written (xs : List ℕ) (n i rest : ℕ) : Type 0 where
  pub tail : drop i xs ≡ columns (length xs - i) n
  pub left : rest ≡ n / 10 ^ (length xs - i)

pub written_none : (xs : List ℕ) (n : ℕ) → Written xs n (length xs) n
unfolding columns
written_none xs n =
    let s : length xs - length xs ≡ 0 = omega arith in
    record {
      tail = drop_all (length xs) xs (omega arith) ∙ ap (λ m. columns m n) (sym s);
      left = sym (div-one n) ∙ ap (λ m. n / 10 ^ m) (sym s);
    }

pub written_more : (xs : List ℕ) (n i rest b : ℕ) → i < length xs → Written xs n (i + 1) rest → b ≡ mark (eqb (i + 1) (length xs)) rest → Written (set xs i b) n i (rest / 10)
unfolding columns
written_more xs n i rest b lt so e =
    let j : ℕ = length xs - (i + 1) in
    let long = length-set xs i b in
    let s : length (set xs i b) - i ≡ suc j = omega arith in
    let last = same_last (length xs) i j (omega arith) in
    record {
      tail = drop-set xs i b lt ∙ (λ t. (e ∙ ap (λ v. mark v rest) last ∙ ap (mark (eqb j 0)) so.left) t ∷ so.tail t) ∙ ap (λ m. columns m n) (sym s);
      left = ap (λ m. m / 10) so.left ∙ shorter n (length (set xs i b) - i) j (omega arith);
    }

-- one column more shows one digit more
shown_mark : (last : Bool) (m : ℕ) → cond (eqb (mark last m) 32) (m / 10) (10 * (m / 10) + (mark last m - 48)) ≡ m
shown_mark true m = grind arith
shown_mark false m = grind arith

-- The columns of a number show that number.
pub shown_columns : (k n v : ℕ) → v ≡ n / 10 ^ k → shown_from v (columns k n) ≡ n
unfolding columns
shown_columns zero n v e = e ∙ div-one n
shown_columns (suc k) n v e =
    let m : ℕ = n / 10 ^ k in
    let up : v ≡ m / 10 = e ∙ sym (shorter n (suc k) k (omega arith)) in
    shown_columns k n _ (ap (λ u. cond (eqb (mark (eqb k 0) m) 32) u (10 * u + (mark (eqb k 0) m - 48))) up ∙ shown_mark (eqb k 0) m)

pub shown_field : (k n : ℕ) → n < 10 ^ k → shown_from 0 (columns k n) ≡ n
shown_field k n l = shown_columns k n 0 (sym (div-eq_of_lt l))

-- Fields tell numbers apart.
pub same_from_columns : (k m n : ℕ) → m < 10 ^ k → n < 10 ^ k → columns k m ≡ columns k n → m ≡ n
same_from_columns k m n l h e = sym (shown_field k m l) ∙ ap (shown_from 0) e ∙ shown_field k n h

module _ (k : ℕ) (xs : List ℕ) where
  well_formed : Decides (ltb (shown_from 0 xs) (10 ^ k) && bytes_eq xs (columns k (shown_from 0 xs))) ((shown_from 0 xs < 10 ^ k) × (xs ≡ columns k (shown_from 0 xs)))
  well_formed =
      Decides-and (ltb (shown_from 0 xs) (10 ^ k)) (bytes_eq xs (columns k (shown_from 0 xs))) (Decides-ltb _ _) (bytes_eq-Decides _ _)

  -- the columns of a number hold that number
  pub number_from_columns : (n : ℕ) → n < 10 ^ k → xs ≡ columns k n → number_of k xs ≡ Some n
  unfolding number_of
  number_from_columns n l e =
      let s : shown_from 0 xs ≡ n = ap (shown_from 0) e ∙ shown_field k n l in
      let good : (shown_from 0 xs < 10 ^ k) × (xs ≡ columns k (shown_from 0 xs)) = (omega arith, e ∙ ap (columns k) (sym s)) in
      ap (λ b. cond b (Some (shown_from 0 xs)) None) (well_formed.1 good) ∙ ap Some s

  -- and nothing else holds a number
  pub number_none : ((n : ℕ) → n < 10 ^ k → xs ≡ columns k n → ⊥) → number_of k xs ≡ None
  unfolding number_of
  number_none no_such =
      cond_both (ltb (shown_from 0 xs) (10 ^ k) && bytes_eq xs (columns k (shown_from 0 xs))) (Some (shown_from 0 xs)) None (λ r. r ≡ None)
      (λ t. absurd (no_such (shown_from 0 xs) (well_formed.0 t).0 (well_formed.0 t).1)) (λ f. refl)

  pub columns_from_number : (n : ℕ) → number_of k xs ≡ Some n → (n < 10 ^ k) × (xs ≡ columns k n)
  unfolding number_of
  columns_from_number n =
      cond_both (ltb (shown_from 0 xs) (10 ^ k) && bytes_eq xs (columns k (shown_from 0 xs))) (Some (shown_from 0 xs)) None (λ r. r ≡ Some n → (n < 10 ^ k) × (xs ≡ columns k n))
      (λ t e. let s : shown_from 0 xs ≡ n = cc in (omega (arith, (well_formed.0 t).0), (well_formed.0 t).1 ∙ ap (columns k) s))
      (λ f e. let z : ◌≡◌ {A = ℕ} 0 1 = cc in absurd (omega arith))
