-- What a look-up by number finds: where nothing is, where entries look alike, after one entry is added, and after one is changed.
use Rattle.std.proofs.Common.{◌≡◌, ℕ, zero, suc, ◌+◌, ◌-◌, ◌<◌, ◌≤◌, cond, eqb, ◌⊎◌, List, [], ◌∷◌, ◌++◌, length, get_or, set, Some, None, Option, sym, refl, ap, ◌∙◌, inl, inr, ⊎_elim, arith}
use Rattle.std.specs.List.{slice_get}
use Rattle.std.proofs.lemmas.List.{get_or_push, get_or-set_same, length_push, length-set}
use Rattle.std.proofs.lemmas.Option.{slice_get_past}
use Rattle.std.proofs.lemmas.Bool.{cases_eq, cases_lt, cond_both, cond-true, eq-eqb}
use Rattle.year_model.specs.State.{numbered, renumbered}
use Rattle.year_model.proofs.Lookups.{Entry, numbered_from_entry}

-- A number is that of an entry, or it is 0 or past the last one.
pub cases_number : (n count : ℕ) → ((1 ≤ n) × (n ≤ count)) ⊎ ((n ≡ 0) ⊎ (count < n))
cases_number n count =
    ⊎_elim
    (λ (past : count < n). inr (inr past))
    (λ (high : n ≤ count). ⊎_elim (λ (low : 0 < n). inl (omega arith, high)) (λ (none : n ≤ 0). inr (inl (omega arith))) (cases_lt 0 n))
    (cases_lt count n)

-- Nothing has number 0, or a number past the last.
pub numbered_none : {X : Type 0} (xs : List X) (n : ℕ) → (n ≡ 0) ⊎ (length xs < n) → numbered xs n ≡ None
numbered_none xs n (inl e) = cond-true (eqb n 0) None (slice_get xs (n - 1)) (eq-eqb n 0 e)
numbered_none xs n (inr past) = cond_both (eqb n 0) None (slice_get xs (n - 1)) (λ o. o ≡ None) (λ _. refl) (λ _. slice_get_past xs (n - 1) (omega arith))

-- Where every entry looks as it did, so does every look-up.
pub look_same : {X Y : Type 0} (g : Option X → Y) (xs ys : List X) (d : X) → length ys ≡ length xs → ((k : ℕ) → k < length xs → g (Some (get_or ys k d)) ≡ g (Some (get_or xs k d)))
    → (n : ℕ) → g (numbered ys n) ≡ g (numbered xs n)
look_same g xs ys d long same n =
    ⊎_elim
    (λ (is : (1 ≤ n) × (n ≤ length xs)).
    ap g (numbered_from_entry ys n d is.0 (omega arith)) ∙ same (n - 1) (omega arith) ∙ sym (ap g (numbered_from_entry xs n d is.0 is.1)))
    (λ (none : (n ≡ 0) ⊎ (length xs < n)).
    ap g (numbered_none ys n (⊎_elim (λ e. inl e) (λ past. inr (omega arith)) none)) ∙ sym (ap g (numbered_none xs n none)))
    (cases_number n (length xs))

-- A change at one position leaves what is found at another.
nth_set_other : {X : Type 0} (xs : List X) (i j : ℕ) (y : X) → (j ≡ i → ⊥) → slice_get (set xs i y) j ≡ slice_get xs j
nth_set_other [] i j y ne = refl
nth_set_other (x ∷ xs) zero zero y ne = absurd (ne refl)
nth_set_other (x ∷ xs) zero (suc j) y ne = refl
nth_set_other (x ∷ xs) (suc i) zero y ne = refl
nth_set_other (x ∷ xs) (suc i) (suc j) y ne = nth_set_other xs i j y (λ e. ne (ap suc e))

-- One element more leaves what is found at every position but the new one.
nth_push_other : {X : Type 0} (xs : List X) (j : ℕ) (y : X) → (j ≡ length xs → ⊥) → slice_get (xs ++ y ∷ []) j ≡ slice_get xs j
nth_push_other [] zero y ne = absurd (ne refl)
nth_push_other [] (suc j) y ne = refl
nth_push_other (x ∷ xs) zero y ne = refl
nth_push_other (x ∷ xs) (suc j) y ne = nth_push_other xs j y (λ e. ne (ap suc e))

-- Two lists that have the same at the position of a number have the same under that number.
numbered_alike : {X : Type 0} (xs ys : List X) (n : ℕ) → (1 ≤ n → slice_get xs (n - 1) ≡ slice_get ys (n - 1)) → numbered xs n ≡ numbered ys n
numbered_alike xs ys n same =
    ⊎_elim
    (λ (e : n ≡ 0). cond-true (eqb n 0) None (slice_get xs (n - 1)) (eq-eqb n 0 e) ∙ sym (cond-true (eqb n 0) None (slice_get ys (n - 1)) (eq-eqb n 0 e)))
    (λ (ne : n ≡ 0 → ⊥). ap (λ o. cond (eqb n 0) None o) (same (omega (arith, ne))))
    (cases_eq n 0)

-- Where another entry is changed, an entry stays.
pub numbered_set_other : {X : Type 0} (xs : List X) (k n : ℕ) (y : X) → 1 ≤ k → (n ≡ k → ⊥) → numbered (renumbered xs k y) n ≡ numbered xs n
numbered_set_other xs k n y low ne =
    numbered_alike (renumbered xs k y) xs n (λ some. nth_set_other xs (k - 1) (n - 1) y (λ e. ne (omega arith)))

-- The changed entry is found.
pub numbered_set_same : {X : Type 0} (xs : List X) (n : ℕ) (x y : X) → Entry xs n x → numbered (renumbered xs n y) n ≡ Some y
numbered_set_same xs n x y at =
    let inside : n - 1 < length xs = omega (arith, at.low, at.high) in
    numbered_from_entry (renumbered xs n y) n y at.low (omega (arith, length-set xs (n - 1) y, at.high)) ∙ ap Some (get_or-set_same xs (n - 1) y y inside)

-- Where an entry is added, every other stays.
pub numbered_push_other : {X : Type 0} (xs : List X) (n : ℕ) (y : X) → (n ≡ length xs + 1 → ⊥) → numbered (xs ++ y ∷ []) n ≡ numbered xs n
numbered_push_other xs n y ne =
    numbered_alike (xs ++ y ∷ []) xs n (λ some. nth_push_other xs (n - 1) y (λ e. ne (omega arith)))

-- The added entry is found under the next number,
pub numbered_push_same : {X : Type 0} (xs : List X) (y : X) → numbered (xs ++ y ∷ []) (length xs + 1) ≡ Some y
numbered_push_same xs y =
    numbered_from_entry (xs ++ y ∷ []) (length xs + 1) y (omega arith) (omega (arith, length_push xs y)) ∙ ap Some (get_or_push xs y y (length xs + 1 - 1) (omega arith))

-- under which nothing was found before.
pub numbered_next : {X : Type 0} (xs : List X) → numbered xs (length xs + 1) ≡ None
numbered_next xs = numbered_none xs (length xs + 1) (inr (omega arith))
