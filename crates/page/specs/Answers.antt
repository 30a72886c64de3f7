-- What a row of a page is answered, and what it does to the year.
use Rattle.std.specs.Prelude.{ℕ, Bool, cond, ◌||◌, List, Some, None, Ok, Err, Option, Result, ◌==◌, slice_index}
use Rattle.refusal.specs.Refusals.{refuse}
use Rattle.refusal.specs.declared.ground.Ground.TheVariants.{UnknownLetter}
use Rattle.rows.specs.Faults.{numbered}
use Rattle.rows.specs.Judged.{request_answer}
use Rattle.rows.specs.Told.{fault_answer, refused_in}
use Rattle.rows.specs.declared.answer.AnswerRow.{AnswerRow}
use Rattle.rows.specs.declared.answer.AnswerRow.TheVariants.{Told}
use Rattle.rows.specs.declared.answer.Figures.TheVariants.{One}
use Rattle.rows.specs.declared.fault.Numbered.{Numbered}
use Rattle.rows.specs.declared.fault.PageFault.TheVariants.{InRow}
use Rattle.rows.specs.declared.fault.RowFault.{RowFault}
use Rattle.rows.specs.declared.fault.RowFault.TheVariants.{Letter}
use Rattle.rows.specs.declared.request.Request.{Request}
use Rattle.rows.specs.declared.request.Request.TheVariants.{CalendarYear, Contract, Cost, Couple, Fix, Open, Pass, Settle, Start, TakeBack, Use}
use Rattle.year_model.specs.Calls.{Call, Reply, call_cost, call_couple, call_open, call_take_back, call_use}
use Rattle.year_model.specs.Makings.{Makings}
use Rattle.year_model.specs.State.{State}
use Rattle.year_model.specs.Steps.{after, reply}
use Rattle.page.specs.Reached.{YearAt, page_makings}

-- The letters P, Z, F, N and B are unknown as long as a page does not make their calls.
abbrev pub is_not_yet : ℕ → Bool
is_not_yet letter = letter == 80 || (letter == 90 || (letter == 70 || (letter == 78 || letter == 66)))

-- What a row asks at its place in a page, or what is wrong with it: the letter is judged before all else.
abbrev pub asked_in : ℕ → List ℕ → Result Request (Numbered RowFault)
asked_in number row = cond (is_not_yet (slice_index row 0)) (Err (numbered number Letter)) (request_answer number row)

-- The call of the year that a request asks for, if a page makes it; a calendar year is no call of the year.
abbrev pub call_of : Request → Option Call
call_of (CalendarYear year) = None
call_of (Open level category) = Some (call_open level category)
call_of (Couple upper lower kw mwh) = Some (call_couple upper lower kw mwh)
call_of (Use system kw mwh permille) = Some (call_use system kw mwh permille)
call_of (Cost system euros) = Some (call_cost system euros)
call_of (TakeBack system euros) = Some (call_take_back system euros)
call_of (Pass system) = None
call_of Settle = None
call_of (Fix system contracted kwmax kwh reckoned) = None
call_of (Contract system kw fee from to reading) = None
call_of (Start contract kwmax reading) = None

-- What the year replies to a call, where there is one; without a call the letter is unknown.
abbrev pub replied : Makings → State → Option Call → Reply
replied m s None = Err (refuse UnknownLetter 0)
replied m s (Some c) = reply m s c

-- The state after a call, where there is one.
abbrev pub state_after_call : Makings → State → Option Call → State
state_after_call m s None = s
state_after_call m s (Some c) = after m s c

-- A reply as the answer row of the row with this number: the told number, or the ground, the row and the place.
abbrev pub reply_row : ℕ → Reply → AnswerRow
reply_row number (Ok told) = Told (One (slice_index told 0))
reply_row number (Err refusal) = refused_in number refusal

-- The answer row of what a row asks, or of what is wrong with it.
abbrev pub asked_answered : Makings → State → ℕ → Result Request (Numbered RowFault) → AnswerRow
asked_answered m s number (Ok request) = reply_row number (replied m s (call_of request))
asked_answered m s number (Err fault) = fault_answer (InRow fault)

-- The state behind what a row asks; a faulty row changes nothing.
abbrev pub state_behind_asked : Makings → State → Result Request (Numbered RowFault) → State
state_behind_asked m s (Ok request) = state_after_call m s (call_of request)
state_behind_asked m s (Err fault) = s

-- The answer row of a row with this number and these bytes, in a year of these makings and in this state.
unfoldable pub row_answered : Makings → State → ℕ → List ℕ → AnswerRow
row_answered m s number row = asked_answered m s number (asked_in number row)

-- The state of the year behind that row.
unfoldable pub state_behind : Makings → State → ℕ → List ℕ → State
state_behind m s number row = state_behind_asked m s (asked_in number row)

-- The answer row of a row with this number and these bytes, in a page's year.
abbrev pub year_answers : YearAt → ℕ → List ℕ → AnswerRow
year_answers year number row = row_answered (page_makings year.calendar) year.state number row

-- The year behind that row.
abbrev pub year_behind : YearAt → ℕ → List ℕ → YearAt
year_behind year number row = record { calendar = year.calendar; state = state_behind (page_makings year.calendar) year.state number row }
