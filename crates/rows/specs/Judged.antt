-- A row at its place in a page.
use Rattle.std.specs.Prelude.{ℕ, ◌+◌, Bool, cond, not, List, [], ◌∷◌, Some, None, Ok, Err, Option, Result, ◌==◌, nat_lt, slice_index}
use Rattle.rows.specs.Faults.{in_row}
use Rattle.rows.specs.Pages.{Reading}
use Rattle.rows.specs.Requests.{read_answer}
use Rattle.rows.specs.declared.fault.Numbered.{Numbered}
use Rattle.rows.specs.declared.fault.PageFault.{PageFault}
use Rattle.rows.specs.declared.fault.PageFault.TheVariants.{TooLong, InRow}
use Rattle.rows.specs.declared.fault.RowFault.{RowFault}
use Rattle.rows.specs.declared.fault.RowFault.TheVariants.{Letter}
use Rattle.rows.specs.declared.request.Request.{Request}

-- A page has at most 60,000 bytes.
abbrev pub page_length_answer : ℕ → Result (Unit {0}) PageFault
page_length_answer size = cond (nat_lt 60000 size) (Err TooLong) (Ok tt)

-- The letter Y stands in the first row of a page, and in no other.
abbrev pub letter_stands : ℕ → List ℕ → Bool
letter_stands number row = cond (number == 1) (slice_index row 0 == 89) (not (slice_index row 0 == 89))

-- What the letter of a row and the row's number say before the row is looked at.
abbrev pub letter_answer : ℕ → List ℕ → Result (Unit {0}) RowFault
letter_answer number row = cond (letter_stands number row) (Ok tt) (Err Letter)

-- What a row says at its place in a page: its letter is judged first.
abbrev pub row_answer : ℕ → List ℕ → Result Request RowFault
row_answer number row = cond (letter_stands number row) (read_answer row) (Err Letter)

-- The same, its fault with the row's number.
abbrev pub request_answer : ℕ → List ℕ → Result Request (Numbered RowFault)
request_answer number row = in_row number (row_answer number row)

-- A row's request, or its fault as the page's.
abbrev pub on_page : Result Request (Numbered RowFault) → Result (Option Request) PageFault
on_page (Ok q) = Ok (Some q)
on_page (Err e) = Err (InRow e)

-- What the next of the rows that are left says, where its number is this.
abbrev pub next_answer : ℕ → List (List ℕ) → Result (Option Request) PageFault
next_answer number [] = Ok None
next_answer number (row ∷ rows) = on_page (request_answer number row)

-- The rows behind the first.
abbrev pub rows_behind : List (List ℕ) → List (List ℕ)
rows_behind [] = []
rows_behind (row ∷ rows) = rows

-- The number of the newest row, once the next of these is taken.
abbrev pub number_behind : ℕ → List (List ℕ) → ℕ
number_behind number [] = number
number_behind number (row ∷ rows) = number + 1

-- Where the reading of a page stands once the next row is taken.
abbrev pub behind : Reading → Reading
behind reading = record { row = number_behind reading.row reading.left; left = rows_behind reading.left }
