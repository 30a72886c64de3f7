-- What holds of every year of the calendar.
use Rattle.std.specs.Prelude.{◌≡◌, ℕ, ◌+◌, ◌≤◌, true}
use Rattle.calendar.specs.Days.{date_of, days_of_month, is_day, is_month, month_of}
use Rattle.calendar.specs.Terms.{days_after, days_before, days_in}

-- A month has 28 to 31 days.
abbrev pub MonthsHave28To31 : Type 0
MonthsHave28To31 =
    (year month : ℕ) → is_month month ≡ true → (28 ≤ days_of_month year month) × (days_of_month year month ≤ 31)

-- The month of a day is a month.
abbrev pub DaysLieInMonths : Type 0
DaysLieInMonths = (year date : ℕ) → is_day year date ≡ true → is_month (month_of date) ≡ true

-- The days before, in and after add up to the days of the month.
abbrev pub CountsAddUp : Type 0
CountsAddUp =
    (year month first last : ℕ) → first ≤ last →
    days_before year month first + days_in year month first last + days_after year month last ≡ days_of_month year month

-- A month that lies whole within the term has all its days in it.
abbrev pub WholeMonthsCountWhole : Type 0
WholeMonthsCountWhole =
    (year month first last : ℕ) → first ≤ last → first ≤ date_of month 1 → date_of month (days_of_month year month) ≤ last →
    (days_before year month first ≡ 0) × (days_in year month first last ≡ days_of_month year month) × (days_after year month last ≡ 0)
