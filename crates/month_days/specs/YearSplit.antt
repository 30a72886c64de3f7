-- The days of the twelve months before, in and after a term.
use Rattle.std.specs.Prelude.{◌≡◌, ℕ, ◌+◌, ◌<◌, true, false, ◌&&◌, List, Ok, Result, MatchResult, slice_index_or}
use Rattle.refusal.specs.declared.ground.Ground.TheVariants.{OutOfBounds}
use Rattle.refusal.specs.declared.refusal.Refusal.{Refusal}
use Rattle.refusal.specs.Refusals.{refuse}
use Rattle.calendar.specs.Days.{is_calendar_year}
use Rattle.calendar.specs.Terms.{is_term, term_answer}

-- Each month has the days that the calendar answers for it, from January on. It is refused just where the year is no
-- calendar year or the two dates are no term of it.
abbrev pub YearSplit : ℕ → ℕ → ℕ → Result (List (ℕ × ℕ × ℕ)) Refusal → Type 0
YearSplit year first last r =
    MatchResult r
    (λ months. (is_calendar_year year ≡ true)
    × ((month : ℕ) → month < 12 → Ok (slice_index_or months month (0, 0, 0)) ≡ term_answer year first last (month + 1)))
    (λ refusal. (refusal ≡ refuse OutOfBounds 0) × ((is_calendar_year year && is_term year first last) ≡ false))
