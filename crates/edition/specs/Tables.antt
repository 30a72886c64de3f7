-- What a table of rows means: one row a category, four carriers each.
use Rattle.std.specs.Prelude.{ℕ, ◌+◌, ◌-◌, Bool, true, ◌&&◌, List, [], ◌∷◌, find, is_some, Some, None, Option, ◌==◌, slice_index}
use Rattle.edition.specs.declared.table.Row.{Row}

-- the first row of this category, if there is one
abbrev pub row_of : List Row → ℕ → Option Row
row_of rows category = find (λ row. row.category == category) rows

-- The table knows the categories that have a row.
abbrev pub known_in : List Row → ℕ → Bool
known_in rows category = is_some (row_of rows category)

-- the percentage on a carrier, counted from 1, and 0 where there is no row
abbrev pub percent_of : Option Row → ℕ → ℕ
percent_of None carrier = 0
percent_of (Some row) carrier = slice_index row.percentages (carrier - 1)

-- the percentage that the row of the category has on a carrier
abbrev pub percent_in : List Row → ℕ → ℕ → ℕ
percent_in rows category carrier = percent_of (row_of rows category) carrier

-- the four percentages of a row, added up
abbrev pub row_sum : Row → ℕ
row_sum row =
    slice_index row.percentages 0 + slice_index row.percentages 1 + slice_index row.percentages 2 + slice_index row.percentages 3

-- Every row of the table adds up to 100.
abbrev pub rows_add_up : List Row → Bool
rows_add_up [] = true
rows_add_up (row ∷ rows) = row_sum row == 100 && rows_add_up rows
