-- What a look-up by number found.
use Rattle.std.proofs.Common.{◌≡◌, ℕ, ◌-◌, ◌<◌, ◌≤◌, true, false, eqb, List, length, get_or, Some, None, ◌∙◌, ⊎_elim, arith}
use Rattle.std.specs.List.{slice_get}
use Rattle.std.proofs.lemmas.Option.{slice_get-get_or, slice_get_past}
use Rattle.std.proofs.lemmas.Bool.{cases_Bool, cases_lt, cond-false, cond-true, eqb-false, ne_eqb}
use Rattle.year_model.specs.State.{numbered}

-- There is an entry with this number, and it is this one.
pub record Entry {X : Type 0} (xs : List X) (n : ℕ) (x : X) : Type 0 where
  pub low : 1 ≤ n
  pub high : n ≤ length xs
  pub here : (d : X) → get_or xs (n - 1) d ≡ x

-- What the look-up of a position found is the element there.
nth_some : {X : Type 0} (xs : List X) (i : ℕ) (x : X) → slice_get xs i ≡ Some x → (i < length xs) × ((d : X) → get_or xs i d ≡ x)
nth_some xs i x e =
    ⊎_elim
    (λ lt. (lt, λ d. cc (slice_get-get_or xs i d lt)))
    (λ ge. let z : ◌≡◌ {A = ℕ} 0 1 = cc (slice_get_past xs i ge) in absurd (omega arith))
    (cases_lt i (length xs))

-- What the look-up of a number found is the entry with that number.
pub entry_from_numbered : {X : Type 0} (xs : List X) (n : ℕ) (x : X) → numbered xs n ≡ Some x → Entry xs n x
entry_from_numbered {X} xs n x e =
    ⊎_elim
    (λ (t : eqb n 0 ≡ true). let z : ◌≡◌ {A = ℕ} 0 1 = cc (cond-true (eqb n 0) None (slice_get xs (n - 1)) t) in absurd (omega arith))
    (λ (f : eqb n 0 ≡ false).
    let found : slice_get xs (n - 1) ≡ Some x = cc (cond-false (eqb n 0) None (slice_get xs (n - 1)) f) in
    let at = nth_some xs (n - 1) x found in
    let some = eqb-false n 0 f in
    let positive : 1 ≤ n = ⊎_elim (λ (p : 0 < n). p) (λ (q : n ≤ 0). absurd (some (omega arith))) (cases_lt 0 n) in
    record { low = positive; high = omega (arith, at.0); here = at.1 })
    (cases_Bool (eqb n 0))

-- A number that is there is found.
pub numbered_from_entry : {X : Type 0} (xs : List X) (n : ℕ) (d : X) → 1 ≤ n → n ≤ length xs → numbered xs n ≡ Some (get_or xs (n - 1) d)
numbered_from_entry xs n d low high =
    cond-false (eqb n 0) None (slice_get xs (n - 1)) (ne_eqb n 0 (λ e. omega arith)) ∙ slice_get-get_or xs (n - 1) d (omega arith)
