-- To show something of what a call comes to, where it holds of every refusal: only what is past the tests has to be looked at.
use Rattle.std.proofs.Common.{◌≡◌, ℕ, ◌+◌, ◌≤◌, Bool, false, cond, ltb, List, [], ◌∷◌, Some, None, Err, Option, refl}
use Rattle.std.specs.List.{AllByRecursion as All}
use Rattle.std.proofs.lemmas.Bool.{cond_both, ltb-false}
use Rattle.refusal.specs.declared.ground.Ground.TheVariants.{OutOfBounds, SystemFixed}
use Rattle.refusal.specs.declared.refusal.Refusal.{Refusal}
use Rattle.refusal.specs.Refusals.{refuse}
use Rattle.year_model.specs.declared.tables.System.{System}
use Rattle.year_model.specs.Calls.{Outcome, found, on_unfixed, within, within_from}
use Rattle.year_model.specs.State.{State, is_fixed, numbered}
use Rattle.year_model.proofs.Lookups.{Entry, entry_from_numbered}

-- Every argument is within its limit.
abbrev pub Bounded : List (ℕ × ℕ) → Type 0
Bounded arguments = All (λ argument. argument.0 ≤ argument.1) arguments

-- There is a system with this number, it is this one, and it is not fixed.
pub record Unfixed (s : State) (n : ℕ) (x : System) : Type 0 where
  pub entry : Entry s.systems n x
  pub unfixed : is_fixed x ≡ false

-- Q is what is to be shown, and holds of every refusal.
module _ (s : State) (Q : Outcome → Type 0) (refused : (refusal : Refusal) → Q (Err refusal)) where
  -- past one test
  pub past_test : (test : Bool) (refusal : Refusal) (o : Outcome) → (test ≡ false → Q o) → Q (cond test (Err refusal) o)
  past_test test refusal o goes_on = cond_both test (Err refusal) o Q (λ _. refused refusal) goes_on

  -- past the limits of the arguments
  past_limits_from : (place : ℕ) (arguments : List (ℕ × ℕ)) (o : Outcome) → (Bounded arguments → Q o) → Q (within_from place arguments o)
  past_limits_from place [] o goes_on = goes_on tt
  past_limits_from place (argument ∷ rest) o goes_on =
      past_test (ltb argument.1 argument.0) (refuse OutOfBounds place) (within_from (place + 1) rest o) (λ f.
      past_limits_from (place + 1) rest o (λ bounds. goes_on (ltb-false argument.1 argument.0 f, bounds)))

  -- the same, with places from 1
  pub past_limits : (arguments : List (ℕ × ℕ)) (o : Outcome) → (Bounded arguments → Q o) → Q (within arguments o)
  past_limits arguments o goes_on = past_limits_from 1 arguments o goes_on

  -- past a look-up
  past_found : {X : Type 0} (looked : Option X) (next : X → Outcome) → ((x : X) → looked ≡ Some x → Q (next x)) → Q (found looked next)
  past_found None next goes_on = refused _
  past_found (Some x) next goes_on = goes_on x refl

  -- past the look-up of an entry by its number
  pub past_entry : {X : Type 0} (xs : List X) (n : ℕ) (next : X → Outcome) → ((x : X) → Entry xs n x → Q (next x)) → Q (found (numbered xs n) next)
  past_entry xs n next goes_on = past_found (numbered xs n) next (λ x e. goes_on x (entry_from_numbered xs n x e))

  -- past the look-up of a system that is not fixed
  pub past_unfixed : (n : ℕ) (next : System → Outcome) → ((x : System) → Unfixed s n x → Q (next x)) → Q (on_unfixed s n next)
  past_unfixed n next goes_on =
      past_entry s.systems n (λ x. cond (is_fixed x) (Err (refuse SystemFixed 0)) (next x)) (λ x at.
      past_test (is_fixed x) (refuse SystemFixed 0) (next x) (λ free. goes_on x record { entry = at; unfixed = free }))
