-- The calendar: years, months and days, all as plain numbers.
use Rattle.std.specs.Prelude.{◌≡◌, ℕ, ◌+◌, ◌-◌, ◌*◌, ◌/◌, ◌%◌, ◌≤◌, Bool, cond, ◌&&◌, ◌||◌, Ok, Err, Result, ◌==◌, nat_le}
use Rattle.refusal.specs.declared.ground.Ground.TheVariants.{OutOfBounds}
use Rattle.refusal.specs.declared.refusal.Refusal.{Refusal}
use Rattle.refusal.specs.Refusals.{refuse}

-- A calendar year is 2000 to 2099.
abbrev pub is_calendar_year : ℕ → Bool
is_calendar_year year = nat_le 2000 year && nat_le year 2099

-- what is answered to whoever asks for a calendar year
abbrev pub year_answer : ℕ → Result ℕ Refusal
year_answer year = cond (is_calendar_year year) (Ok year) (Err (refuse OutOfBounds 0))

-- Every fourth year from 2000 has 29 February.
abbrev pub is_leap : ℕ → Bool
is_leap year = (year - 2000) % 4 == 0

-- The months are 1 to 12.
abbrev pub is_month : ℕ → Bool
is_month month = nat_le 1 month && nat_le month 12

-- April, June, September and November
abbrev pub has_thirty : ℕ → Bool
has_thirty month = month == 4 || (month == 6 || (month == 9 || month == 11))

-- how many days the month has in that year, and 0 where there is no such month
abbrev pub days_of_month : ℕ → ℕ → ℕ
days_of_month year month =
    cond (is_month month) (cond (month == 2) (cond (is_leap year) 29 28) (cond (has_thirty month) 30 31)) 0

-- what is answered to whoever asks for the days of a month
abbrev pub month_answer : ℕ → ℕ → Result ℕ Refusal
month_answer year month = cond (is_month month) (Ok (days_of_month year month)) (Err (refuse OutOfBounds 0))

-- how many days the year has
abbrev pub days_of_year : ℕ → ℕ
days_of_year year = cond (is_leap year) 366 365

-- the days of the twelve months, added up
abbrev pub days_of_year_by_months : ℕ → ℕ
days_of_year_by_months year =
    days_of_month year 1 + days_of_month year 2 + days_of_month year 3 + days_of_month year 4
    + days_of_month year 5 + days_of_month year 6 + days_of_month year 7 + days_of_month year 8
    + days_of_month year 9 + days_of_month year 10 + days_of_month year 11 + days_of_month year 12

-- the date of a day: the month times 100 plus the day
abbrev pub date_of : ℕ → ℕ → ℕ
date_of month day = month * 100 + day

-- the month of a date
abbrev pub month_of : ℕ → ℕ
month_of date = date / 100

-- the day of a date, within its month
abbrev pub day_of : ℕ → ℕ
day_of date = date % 100

-- A number is a day of the year if its day is one of the days of its month.
abbrev pub is_day : ℕ → ℕ → Bool
is_day year date = nat_le 1 (day_of date) && nat_le (day_of date) (days_of_month year (month_of date))

-- The same without a division: it is the date of one of the days of some month.
abbrev pub DayOfYear : ℕ → ℕ → Type 0
DayOfYear year date =
    (month : ℕ) × ((day : ℕ) × ((1 ≤ day) × (day ≤ days_of_month year month) × (date ≡ date_of month day)))
