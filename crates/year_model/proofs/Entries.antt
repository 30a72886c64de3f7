-- What holds of every element of a list, after one more is added and after one is changed.
use Rattle.std.proofs.Common.{◌≡◌, ℕ, ◌<◌, List, [], ◌∷◌, ◌++◌, length, get_or, set, sym, ap, ◌∙◌, ⊎_elim}
use Rattle.std.proofs.ByRecursion.{All-from_get_or, All-get_or, All-push, All-set}
use Rattle.std.proofs.lemmas.List.{get_or-set_other, get_or-set_same}
use Rattle.std.proofs.lemmas.Bool.{cases_eq}

-- what holds of the element at every position, up to the length
abbrev pub Throughout : {X : Type 0} → (X → Type 0) → List X → X → Type 0
Throughout P xs d = (k : ℕ) → k < length xs → P (get_or xs k d)

-- It holds of one element more at the end.
pub throughout_push : {X : Type 0} (P : X → Type 0) (xs : List X) (y d : X) → Throughout P xs d → P y → Throughout P (xs ++ y ∷ []) d
throughout_push P xs y d each here k h =
    All-get_or P (xs ++ y ∷ []) k d h (All-push P xs y (All-from_get_or P xs d each) here)

-- It holds where one element is changed.
pub throughout_set : {X : Type 0} (P : X → Type 0) (xs : List X) (i : ℕ) (y d : X) → Throughout P xs d → P y → Throughout P (set xs i y) d
throughout_set P xs i y d each here k h = All-get_or P (set xs i y) k d h (All-set P xs i y here (All-from_get_or P xs d each))

-- What a change leaves of one element, it leaves of all.
pub same_after_set : {X Y : Type 0} (f : X → Y) (xs : List X) (i : ℕ) (x y d : X) → i < length xs → get_or xs i d ≡ x → f y ≡ f x → (k : ℕ) → f (get_or (set xs i y) k d) ≡ f (get_or xs k d)
same_after_set f xs i x y d h was same k =
    ⊎_elim
    (λ (e : k ≡ i). rw e (ap f (get_or-set_same xs i y d h) ∙ same ∙ sym (ap f was)))
    (λ (ne : k ≡ i → ⊥). ap f (get_or-set_other xs i k y d ne))
    (cases_eq k i)
