-- A table of rows that are entered one by one.
use Rattle.std.specs.Prelude.{◌≡◌, ℕ, ◌<◌, ◌≤◌, Bool, cond, not, ◌&&◌, List, [], ◌∷◌, ◌++◌, length, get_or, is_ok, Ok, Err, Result, ◌==◌, ◌≢◌, nat_le, nat_lt, slice_index_or}
use Rattle.refusal.specs.declared.ground.Ground.TheVariants.{OutOfBounds, TableFull}
use Rattle.refusal.specs.declared.refusal.Refusal.{Refusal}
use Rattle.refusal.specs.Refusals.{refuse}
use Rattle.edition.specs.declared.table.Row.{Row}
use Rattle.edition.specs.Tables.{known_in, row_sum}

-- The categories that may be entered are 1 to 99.
abbrev pub is_category : ℕ → Bool
is_category category = nat_le 1 category && nat_le category 99

-- A row fits a table if its category is one and is not in the table yet, and its percentages add up to 100.
abbrev pub fits_table : List Row → Row → Bool
fits_table rows row =
    is_category row.category && (row_sum row == 100 && not (known_in rows row.category))

-- What is answered to a row that is entered: first one that does not fit is refused, then a ninth.
abbrev pub enter_answer : List Row → Row → Result (Unit {0}) Refusal
enter_answer rows row =
    cond (fits_table rows row) (cond (nat_lt (length rows) 8) (Ok tt) (Err (refuse TableFull 0))) (Err (refuse OutOfBounds 0))

-- The table then has that row at its end; a refusal leaves it as it was.
abbrev pub rows_after : List Row → Row → List Row
rows_after rows row = cond (is_ok (enter_answer rows row)) (rows ++ row ∷ []) rows

-- what stands where no row does
abbrev pub no_row : Row
no_row = record { category = 0; percentages = [] }

-- Each row adds up to 100.
abbrev pub RowsWhole : List Row → Type 0
RowsWhole rows = (k : ℕ) → k < length rows → row_sum (slice_index_or rows k no_row) ≡ 100

-- Each row has a category from 1 to 99.
abbrev pub CategoriesWithin : List Row → Type 0
CategoriesWithin rows =
    (k : ℕ) → k < length rows → (1 ≤ (get_or rows k no_row).category) × ((get_or rows k no_row).category ≤ 99)

-- No two rows have one category.
abbrev pub NoCategoryTwice : List Row → Type 0
NoCategoryTwice rows =
    (j k : ℕ) → j < k → k < length rows → (get_or rows j no_row).category ≢ (get_or rows k no_row).category
