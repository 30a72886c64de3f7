-- The rows of a page: the page is cut after each line feed, and the last row may lack it.
use Rattle.std.specs.Prelude.{◌≡◌, ℕ, ◌<◌, cond, List, [], ◌∷◌, ◌++◌, length, ◌==◌, ◌≢◌, slice_index}
use Rattle.std.specs.List.{flat_map}

-- Rows with one more byte before the first of them.
abbrev pub before : ℕ → List (List ℕ) → List (List ℕ)
before b [] = (b ∷ []) ∷ []
before b (row ∷ rows) = (b ∷ row) ∷ rows

-- The rows of a page.
unfoldable pub rows_of : List ℕ → List (List ℕ)
rows_of [] = []
rows_of (b ∷ bs) = cond (b == 10) ((b ∷ []) ∷ rows_of bs) (before b (rows_of bs))

-- A row ends with a line feed and has no other.
abbrev pub Ended : List ℕ → Type 0
Ended row = (text : List ℕ) × (row ≡ text ++ 10 ∷ []) × ((k : ℕ) → k < length text → slice_index text k ≢ 10)

-- Each of these rows but the last is ended, and the last one has a byte.
abbrev pub EndedButTheLast : List (List ℕ) → Type 0
EndedButTheLast [] = Unit {0}
EndedButTheLast (row ∷ []) = 0 < length row
EndedButTheLast (row ∷ next ∷ rows) = Ended row × EndedButTheLast (next ∷ rows)

-- The rows of a page joined are the page, and each but the last ends with its only line feed.
abbrev pub RowsMakeThePage : Type 0
RowsMakeThePage = (page : List ℕ) → (flat_map (λ row. row) (rows_of page) ≡ page) × EndedButTheLast (rows_of page)

-- Where the reading of a page stands: how many rows were handed out, and the rows that are left.
pub record Reading : Type 0 where
  pub row : ℕ
  pub left : List (List ℕ)

-- A page of which no row was handed out.
abbrev pub unread : List ℕ → Reading
unread page = record { row = 0; left = rows_of page }
