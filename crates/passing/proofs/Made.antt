-- An array that is made by a function of the place.
use Rattle.std.proofs.Common.{◌≡◌, ℕ, zero, suc, ◌+◌, ◌<◌, ◌≤◌, List, get_or, subst, ◌∙◌, ⊎_elim, arith}
use Rattle.std.specs.Array.{IsFromFnResultFrom}
use Rattle.std.specs.Fn.{Called}
use denote.Param.Members.{Mut}
use Rattle.std.proofs.lemmas.Bool.{cases_eq}

-- each place holds what the function gives of it
pub made_at : {F B : Type 0} (g : Mut F (ℕ × Unit {0}) B) (h : ℕ → B) (f : F) → ((x : ℕ) (y : B) (q : F) → Called g f (x, tt) y q → (q ≡ f) × (y ≡ h x)) → (ys : List B) (i n : ℕ) → IsFromFnResultFrom g f ys i n → (k : ℕ) (d : B) → i ≤ k → k < i + n → get_or ys k d ≡ h k
made_at g h f acts ys i zero made k d from below = absurd (omega arith)
made_at {F} g h f acts ys i (suc n) made k d from below =
    let act = acts i made.1 made.0 made.3 in
    ⊎_elim
    (λ (e : k ≡ i). rw e (made.2.1 d ∙ act.1))
    (λ (ne : k ≡ i → ⊥).
    let Rest : F → Type 0 = λ q. IsFromFnResultFrom g q ys (i + 1) n in
    made_at g h f acts ys (i + 1) n (subst Rest act.0 made.4) k d (omega arith) (omega arith))
    (cases_eq k i)
