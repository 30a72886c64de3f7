-- A table whose rows each add up to 100 keeps the law of an edition.
use Rattle.std.specs.Prelude.{◌≡◌, ℕ, ◌+◌, Bool, true, false, cond, List, [], ◌∷◌, is_some, Some, Option, ◌==◌, nat_eq, refl}
use Rattle.std.specs.List.{AllByRecursion}
use Rattle.std.proofs.lemmas.Bool.{false≢true}
use Rattle.std.proofs.lemmas.Bool.Decides.{Decides-eqb}
use Rattle.std.proofs.ByRecursion.{Decides-by_and}
use Rattle.edition.specs.declared.table.Row.{Row}
use Rattle.edition.specs.Editions.{HundredLaw}
use Rattle.edition.specs.Tables.{known_in, percent_in, percent_of, row_of, row_sum, rows_add_up}

-- the four percentages of a row that was looked up
abbrev four : Option Row → ℕ
four row = percent_of row 1 + percent_of row 2 + percent_of row 3 + percent_of row 4

looked_up : (here : Bool) (row : Row) (other : Option Row) → row_sum row ≡ 100 → (is_some other ≡ true → four other ≡ 100) → is_some (cond here (Some row) other) ≡ true → four (cond here (Some row) other) ≡ 100
looked_up true row other whole rest known = whole
looked_up false row other whole rest known = rest known

pub hundred_in : (rows : List Row) → AllByRecursion (λ row. row_sum row ≡ 100) rows → HundredLaw (known_in rows) (percent_in rows)
hundred_in [] whole category known = absurd (false≢true known)
hundred_in (row ∷ rows) whole category known =
    looked_up (row.category == category) row (row_of rows category) whole.0 (hundred_in rows whole.1 category) known

-- The test over a whole table, computed, tells each of its rows.
pub all_whole : (rows : List Row) → rows_add_up rows ≡ true → AllByRecursion (λ row. row_sum row ≡ 100) rows
all_whole rows test =
    (Decides-by_and (λ row. nat_eq (row_sum row) 100) (λ row. row_sum row ≡ 100) rows_add_up (λ row. Decides-eqb (row_sum row) 100) refl (λ _ _. refl) rows).0 test
