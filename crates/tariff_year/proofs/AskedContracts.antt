-- A contract that was asked for, as the year holds it.
use Rattle.std.proofs.Common.{◌≡◌, ℕ, Bool, true, false, cond, ltb, List, Some, None, Ok, Err, Option, arith}
use Rattle.refusal.specs.declared.ground.Ground.TheVariants.{OutOfBounds}
use Rattle.refusal.specs.declared.refusal.Refusal.{Refusal}
use Rattle.refusal.specs.Refusals.{refuse}
use Rattle.year_model.specs.declared.tables.Contract.{Contract}
use Rattle.year_model.specs.Calls.{largest_number}
use Rattle.year_model.specs.Sound.{Sound}
use Rattle.year_model.specs.State.{State, numbered}
use Rattle.year_model.proofs.Grids.{Held}
use Rattle.year_model.proofs.Lookups.{Entry, entry_from_numbered}
use Rattle.tariff_year.specs.LookedUp.{told_entry}
use Rattle.tariff_year.specs.Questions.{asked}
use Rattle.tariff_year.proofs.Holding.{held_of}

answered : {X : Type 0} (test : Bool) (e : Refusal) (o : Option X) (x : X) → Ok x ≡ cond test (Err e) (told_entry o) → o ≡ Some x
answered true e o x told = let z : ◌≡◌ {A = ℕ} 0 1 = cc in absurd (omega arith)
answered false e None x told = let z : ◌≡◌ {A = ℕ} 0 1 = cc in absurd (omega arith)
answered false e (Some y) x told = cc

-- An entry that was told is the one with that number.
pub asked_entry : {X : Type 0} (xs : List X) (n : ℕ) (x : X) → Ok x ≡ asked xs n → Entry xs n x
asked_entry xs n x told = entry_from_numbered xs n x (answered (ltb largest_number n) (refuse OutOfBounds 1) (numbered xs n) x told)

-- So all that is held of a contract is held of it.
pub asked_held : (s : State) → Sound s → (n : ℕ) (k : Contract) → Ok k ≡ asked s.contracts n → Held s k
asked_held s sound n k told = held_of s sound n k (asked_entry s.contracts n k told)
