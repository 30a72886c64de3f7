-- The first row of a page, which asks for the calendar year.
use Rattle.std.specs.Prelude.{ℕ, cond, List, Some, None, Ok, Err, Option, Result}
use Rattle.refusal.specs.Refusals.{refuse}
use Rattle.refusal.specs.declared.ground.Ground.TheVariants.{OutOfBounds, UnknownLetter}
use Rattle.refusal.specs.declared.refusal.Refusal.{Refusal}
use Rattle.calendar.specs.Days.{days_of_year, is_calendar_year}
use Rattle.rows.specs.Faults.{page_ground, page_place}
use Rattle.rows.specs.Judged.{next_answer}
use Rattle.rows.specs.Told.{refused_in}
use Rattle.rows.specs.declared.answer.AnswerRow.{AnswerRow}
use Rattle.rows.specs.declared.answer.AnswerRow.TheVariants.{Told}
use Rattle.rows.specs.declared.answer.Figures.TheVariants.{One}
use Rattle.rows.specs.declared.fault.PageFault.{PageFault}
use Rattle.rows.specs.declared.request.Request.{Request}
use Rattle.rows.specs.declared.request.Request.TheVariants.{CalendarYear, Contract, Cost, Couple, Fix, Open, Pass, Settle, Start, TakeBack, Use}

-- The calendar year that a request asks for: from 2000 to 2099, and no other request asks for one.
abbrev pub year_asked : Request → Result ℕ Refusal
year_asked (CalendarYear year) = cond (is_calendar_year year) (Ok year) (Err (refuse OutOfBounds 1))
year_asked (Open level category) = Err (refuse UnknownLetter 0)
year_asked (Couple upper lower kw mwh) = Err (refuse UnknownLetter 0)
year_asked (Use system kw mwh permille) = Err (refuse UnknownLetter 0)
year_asked (Cost system euros) = Err (refuse UnknownLetter 0)
year_asked (TakeBack system euros) = Err (refuse UnknownLetter 0)
year_asked (Pass system) = Err (refuse UnknownLetter 0)
year_asked Settle = Err (refuse UnknownLetter 0)
year_asked (Fix system contracted kwmax kwh reckoned) = Err (refuse UnknownLetter 0)
year_asked (Contract system kw fee from to reading) = Err (refuse UnknownLetter 0)
year_asked (Start contract kwmax reading) = Err (refuse UnknownLetter 0)

-- The calendar year of a page whose first row says this; a page of no rows has none.
abbrev pub year_of_first : Result (Option Request) PageFault → Result ℕ Refusal
year_of_first (Ok None) = Err (refuse UnknownLetter 0)
year_of_first (Ok (Some request)) = year_asked request
year_of_first (Err fault) = Err (refuse (page_ground fault) (page_place fault))

-- The calendar year of a page with these rows, the first of which has this number.
unfoldable pub first_asked : ℕ → List (List ℕ) → Result ℕ Refusal
first_asked number rows = year_of_first (next_answer number rows)

-- The answer row of the first row: the days of the year, or a refusal in row 1.
abbrev pub year_row : Result ℕ Refusal → AnswerRow
year_row (Ok year) = Told (One (days_of_year year))
year_row (Err refusal) = refused_in 1 refusal
