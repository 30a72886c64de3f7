-- A row that fits keeps what holds of the rows of an entered edition.
use Rattle.std.proofs.Common.{Bool, true, false, cond, eqb, is_some, Some, Option, refl, ◌≡◌, ℕ, ◌<◌, ◌≤◌, List, [], ◌∷◌, ◌++◌, length, get_or, sym, ap, ◌∙◌, ⊎_elim, arith}
use Rattle.std.specs.List.{AllByRecursion as All}
use Rattle.std.proofs.ByRecursion.{All-from_get_or, All-get_or, All-push}
use Rattle.std.proofs.lemmas.List.{get_or_append_left, get_or_push, length_push}
use Rattle.std.proofs.lemmas.Bool.{eqb-false, true≢false, cases_lt}
use Rattle.std.proofs.lemmas.Bool.Decides.{nat_tests}
use Rattle.edition.specs.declared.table.Row.{Row}
use Rattle.edition.specs.Tables.{row_of, known_in, row_sum}
use Rattle.edition.specs.Entered.{CategoriesWithin, NoCategoryTwice, RowsWhole, fits_table, no_row}

abbrev pub Sound : List Row → Type 0
Sound rows = RowsWhole rows × CategoriesWithin rows × NoCategoryTwice rows

each_push : (P : Row → Type 0) (rows : List Row) (row : Row) → ((k : ℕ) → k < length rows → P (get_or rows k no_row)) → P row → (k : ℕ) → k < length (rows ++ row ∷ []) → P (get_or (rows ++ row ∷ []) k no_row)
each_push P rows row each here k l =
    All-get_or P (rows ++ row ∷ []) k no_row l (All-push P rows row (All-from_get_or P rows no_row each) here)

passed_over : (here : Bool) (row : Row) (other : Option Row) → is_some (cond here (Some row) other) ≡ false → (here ≡ false) × (is_some other ≡ false)
passed_over true row other unknown = absurd (true≢false unknown)
passed_over false row other unknown = (refl, unknown)

unknown_all : (rows : List Row) (category : ℕ) → known_in rows category ≡ false → All (λ row. row.category ≡ category → ⊥) rows
unknown_all [] category unknown = tt
unknown_all (row ∷ rows) category unknown =
    let parts = passed_over (eqb row.category category) row (row_of rows category) unknown in
    (eqb-false _ _ parts.0, unknown_all rows category parts.1)

module _ (rows : List Row) (row : Row) (fits : fits_table rows row ≡ true) where
  whole : row_sum row ≡ 100
  whole = grind (arith, nat_tests)

  category_within : (1 ≤ row.category) × (row.category ≤ 99)
  category_within = (grind (arith, nat_tests), grind (arith, nat_tests))

  unknown : known_in rows row.category ≡ false
  unknown = grind (arith, nat_tests)

  new_category : (k : ℕ) → k < length rows → (get_or rows k no_row).category ≡ row.category → ⊥
  new_category k l =
      All-get_or (λ other. other.category ≡ row.category → ⊥) rows k no_row l
      (unknown_all rows row.category unknown)

  once_push : NoCategoryTwice rows → NoCategoryTwice (rows ++ row ∷ [])
  once_push once j k before l same =
      let long = length_push rows row in
      let front : j < length rows = omega arith in
      let left = get_or_append_left rows (row ∷ []) no_row j front in
      ⊎_elim
      (λ (inside : k < length rows).
      let right = get_or_append_left rows (row ∷ []) no_row k inside in
      once j k before inside (ap (λ (r : Row). r.category) (sym left) ∙ same ∙ ap (λ (r : Row). r.category) right))
      (λ (past : length rows ≤ k).
      let right = get_or_push rows row no_row k (omega arith) in
      new_category j front (ap (λ (r : Row). r.category) (sym left) ∙ same ∙ ap (λ (r : Row). r.category) right))
      (cases_lt k (length rows))

  pub sound_push : Sound rows → Sound (rows ++ row ∷ [])
  sound_push sound = (
    each_push (λ other. row_sum other ≡ 100) rows row sound.0 whole,
    each_push (λ other. (1 ≤ other.category) × (other.category ≤ 99)) rows row sound.1 category_within,
    once_push sound.2,
  )
