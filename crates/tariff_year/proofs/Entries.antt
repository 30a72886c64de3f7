-- Entries of a table by their numbers from 1.
use Rattle.std.proofs.Common.{◌≡◌, ℕ, List, Some, subst}
use Rattle.year_model.specs.State.{numbered}

-- What stands in the slice of a table stands in the table.
pub here_from_slice : {X : Type 0} (slice items : List X) (n : ℕ) (x : X) → slice ≡ items → numbered slice n ≡ Some x → numbered items n ≡ Some x
here_from_slice {X} slice items n x same here = subst (λ (ys : List X). numbered ys n ≡ Some x) same here
