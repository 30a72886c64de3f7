-- The table of the edition of 2013.
use Rattle.std.specs.Prelude.{ℕ, List, [], ◌∷◌}
use Rattle.edition.specs.declared.table.Row.{Row}

-- a row: a category, and its percentages on contracted kW, kWmax per month, kWh and reckoned kW
abbrev pub row : ℕ → ℕ → ℕ → ℕ → ℕ → Row
row category contracted peak energy reckoned =
    record { category = category; percentages = contracted ∷ peak ∷ energy ∷ reckoned ∷ [] }

-- Categories 1, 2 and 3 are the letters a, b and c, category 4 is the letter d, and category 5 goes up to 3×80 A.
abbrev pub rows_2013 : List Row
rows_2013 =
    row 1 50 50 0 0 ∷
    row 2 50 50 0 0 ∷
    row 3 50 50 0 0 ∷
    row 4 25 25 50 0 ∷
    row 5 0 0 0 100 ∷ []
