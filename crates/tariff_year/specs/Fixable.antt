-- What a fix has met when it asks the edition.
use Rattle.std.specs.Prelude.{◌≡◌, ℕ, ◌≤◌, false, List, length, Some, slice_index_or}
use Rattle.year_model.specs.Calls.{largest_number}
use Rattle.year_model.specs.Fixes.{unfixed_above}
use Rattle.year_model.specs.State.{State, is_fixed, numbered}
use Rattle.year_model.specs.declared.tables.System.{System}

-- The system is there, not fixed and settled, and all numbers are within bounds.
pub record Fixable (s : State) (n : ℕ) (volumes : List ℕ) (x : System) : Type 0 where
  pub number : n ≤ largest_number
  pub first : slice_index_or volumes 0 0 ≤ largest_number
  pub second : slice_index_or volumes 1 0 ≤ largest_number
  pub third : slice_index_or volumes 2 0 ≤ largest_number
  pub fourth : slice_index_or volumes 3 0 ≤ largest_number
  pub four : length volumes ≡ 4
  pub there : numbered s.systems n ≡ Some x
  pub unfixed : is_fixed x ≡ false
  pub settled : x.standing ≡ 0
  pub all_above : unfixed_above s n ≡ 0
