-- The run of a page against a year, row by row.
use Rattle.std.specs.Prelude.{◌≡◌, ℕ, ◌+◌, cond, List, [], ◌∷◌, length, Some, None, Ok, Err, Option, Result, nat_lt}
use Rattle.refusal.specs.declared.refusal.Refusal.{Refusal}
use Rattle.rows.specs.Judged.{behind, number_behind, rows_behind}
use Rattle.rows.specs.Pages.{Reading, unread}
use Rattle.rows.specs.Told.{fault_answer}
use Rattle.rows.specs.declared.answer.AnswerRow.{AnswerRow}
use Rattle.rows.specs.declared.fault.PageFault.TheVariants.{TooLong}
use Rattle.year_model.specs.State.{State, begun}
use Rattle.page.specs.Answers.{row_answered, state_behind}
use Rattle.page.specs.First.{first_asked, year_row}
use Rattle.page.specs.Reached.{LedTo, page_makings}
use Rattle.page.specs.declared.page.Stage.{Stage}
use Rattle.page.specs.declared.page.Stage.TheVariants.{Refused, Unbegun, Running, Over}

-- Where the run of a page stands: the page is too long and this has yet to be told; no row is answered yet; rows are
-- answered by a year of this calendar year in this state; or the run is over.
pub data Standing : Type 0 where
  too_long : Standing
  unbegun : Standing
  running : ℕ → State → Standing
  over : Standing

-- where a stage stands
abbrev pub standing : Stage → Standing
standing Refused = too_long
standing Unbegun = unbegun
standing (Running year) = running year.calendar year.state
standing Over = over

-- A page whose calendar year is refused is over; otherwise its year has nothing in it.
abbrev pub begun_with : Result ℕ Refusal → Standing
begun_with (Ok year) = running year begun
begun_with (Err refusal) = over

-- The answer row of the next of these rows, whose number is this, if one is left.
abbrev pub next_answered : ℕ → State → ℕ → List (List ℕ) → Option AnswerRow
next_answered calendar s number [] = None
next_answered calendar s number (row ∷ rows) = Some (row_answered (page_makings calendar) s number row)

-- The state of the year behind the next of these rows.
abbrev pub next_behind : ℕ → State → ℕ → List (List ℕ) → State
next_behind calendar s number [] = s
next_behind calendar s number (row ∷ rows) = state_behind (page_makings calendar) s number row

-- The next answer row of a run, if it has one: a page too long is told once, and the first row gives the calendar year.
abbrev pub answer_at : Standing → ℕ → List (List ℕ) → Option AnswerRow
answer_at too_long number rows = Some (fault_answer TooLong)
answer_at unbegun number rows = Some (year_row (first_asked number rows))
answer_at (running calendar s) number rows = next_answered calendar s number rows
answer_at over number rows = None

-- Where the run stands behind that answer.
abbrev pub standing_behind : Standing → ℕ → List (List ℕ) → Standing
standing_behind too_long number rows = over
standing_behind unbegun number rows = begun_with (first_asked number rows)
standing_behind (running calendar s) number rows = running calendar (next_behind calendar s number rows)
standing_behind over number rows = over

-- What holds of the year that answers rows then, where there is one.
abbrev pub YearLedTo : Standing → Type 0
YearLedTo too_long = Unit {0}
YearLedTo unbegun = Unit {0}
YearLedTo (running calendar s) = LedTo calendar s
YearLedTo over = Unit {0}

-- The rows that are left then.
abbrev pub rows_left : Standing → List (List ℕ) → List (List ℕ)
rows_left too_long rows = rows
rows_left unbegun rows = rows_behind rows
rows_left (running calendar s) rows = rows_behind rows
rows_left over rows = rows

-- The number of the newest row read then, where it was this before.
abbrev pub row_behind : Standing → ℕ → List (List ℕ) → ℕ
row_behind too_long row rows = row
row_behind unbegun row rows = number_behind row rows
row_behind (running calendar s) row rows = number_behind row rows
row_behind over row rows = row

-- A page stands here before its first answer.
abbrev pub standing_new : ℕ → Standing
standing_new size = cond (nat_lt 60000 size) too_long unbegun

-- The run of a page: where it stands, and how far its rows are read.
pub record Run : Type 0 where
  pub stands : Standing
  pub reading : Reading

-- a run that stands here, its rows read so far
abbrev pub run_at : Standing → Reading → Run
run_at stands reading = record { stands = stands; reading = reading }

-- the next answer row of a run, if it has one
abbrev pub next_answer : Run → Option AnswerRow
next_answer run = answer_at run.stands (run.reading.row + 1) run.reading.left

-- the run of a page of these bytes before its first answer
abbrev pub run_new : List ℕ → Run
run_new page = run_at (standing_new (length page)) (unread page)

-- the run behind its next answer
abbrev pub run_behind : Run → Run
run_behind run =
    let row : ℕ = run.reading.row in
    let rows : List (List ℕ) = run.reading.left in
    run_at (standing_behind run.stands (row + 1) rows) (record { row = row_behind run.stands row rows; left = rows_left run.stands rows })

-- the run whose year could not be made for want of memory: it is over, and its first row is read
abbrev pub run_wanting : Run → Run
run_wanting run = run_at over (behind run.reading)

-- A run came from one to the other with this answer.
pub record Went (before later : Run) (answer : Option AnswerRow) : Type 0 where
  pub answered : answer ≡ next_answer before
  pub behind : later ≡ run_behind before

-- The most answers that a run has yet to give.
abbrev pub answers_left : Standing → List (List ℕ) → ℕ
answers_left too_long rows = 1
answers_left unbegun rows = 1 + length rows
answers_left (running calendar s) rows = length rows
answers_left over rows = 0

-- the same of a run
abbrev pub most_answers : Run → ℕ
most_answers run = answers_left run.stands run.reading.left
