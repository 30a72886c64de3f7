-- Which way an answer came.
use Rattle.std.proofs.Common.{◌≡◌, ℕ, Bool, true, false, cond, is_some, Some, None, Ok, Err, Option, refl, arith}

-- An error comes from the test that held,
pub err_from_test : {A E : Type 0} (test : Bool) (x e : E) (y : A) → Err e ≡ cond test (Err x) (Ok y) → (test ≡ true) × (e ≡ x)
err_from_test true x e y told = (refl, cc)
err_from_test false x e y told = let z : ◌≡◌ {A = ℕ} 0 1 = cc in absurd (omega arith)

-- and a value from one that did not.
pub ok_from_test : {A E : Type 0} (test : Bool) (x : E) (y z : A) → Ok z ≡ cond test (Err x) (Ok y) → (test ≡ false) × (z ≡ y)
ok_from_test true x y z told = let zero : ◌≡◌ {A = ℕ} 0 1 = cc in absurd (omega arith)
ok_from_test false x y z told = (refl, cc)

-- What is not something is nothing.
pub none_from_test : {A : Type 0} (o : Option A) → false ≡ is_some o → o ≡ None
none_from_test None e = refl
none_from_test (Some x) e = let z : ◌≡◌ {A = ℕ} 0 1 = cc in absurd (omega arith)
