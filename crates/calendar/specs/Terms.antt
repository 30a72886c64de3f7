-- How the days of a month lie to a first and a last date.
use Rattle.std.specs.Prelude.{ℕ, zero, suc, ◌+◌, Bool, cond, ◌&&◌, Ok, Err, Result, nat_le, nat_lt}
use Rattle.refusal.specs.declared.ground.Ground.TheVariants.{OutOfBounds}
use Rattle.refusal.specs.declared.refusal.Refusal.{Refusal}
use Rattle.refusal.specs.Refusals.{refuse}
use Rattle.calendar.specs.Days.{date_of, days_of_month, is_day, is_month}

-- how many of the days 1 to n pass the test
abbrev pub count_days : (ℕ → Bool) → ℕ → ℕ
count_days test zero = 0
count_days test (suc n) = count_days test n + cond (test (suc n)) 1 0

-- of the first n days of a month, how many lie before the first date
abbrev pub count_before : ℕ → ℕ → ℕ → ℕ
count_before month first n = count_days (λ day. nat_lt (date_of month day) first) n

-- how many lie from the first date to the last
abbrev pub count_in : ℕ → ℕ → ℕ → ℕ → ℕ
count_in month first last n = count_days (λ day. nat_le first (date_of month day) && nat_le (date_of month day) last) n

-- how many lie after the last date
abbrev pub count_after : ℕ → ℕ → ℕ → ℕ
count_after month last n = count_days (λ day. nat_lt last (date_of month day)) n

-- the three counts together
abbrev pub split_days : ℕ → ℕ → ℕ → ℕ → ℕ × ℕ × ℕ
split_days month n first last = (count_before month first n, count_in month first last n, count_after month last n)

-- the days of the month that lie before the first date
abbrev pub days_before : ℕ → ℕ → ℕ → ℕ
days_before year month first = count_before month first (days_of_month year month)

-- the days of the month from the first date to the last
abbrev pub days_in : ℕ → ℕ → ℕ → ℕ → ℕ
days_in year month first last = count_in month first last (days_of_month year month)

-- the days of the month that lie after the last date
abbrev pub days_after : ℕ → ℕ → ℕ → ℕ
days_after year month last = count_after month last (days_of_month year month)

-- A first and a last date are a term of the year if both are days of it and the last does not come before the first.
abbrev pub is_term : ℕ → ℕ → ℕ → Bool
is_term year first last = is_day year first && (is_day year last && nat_le first last)

-- What is answered for a first and a last date and a month: days before, days in and days after.
abbrev pub term_answer : ℕ → ℕ → ℕ → ℕ → Result (ℕ × ℕ × ℕ) Refusal
term_answer year first last month =
    cond (is_month month && is_term year first last)
    (Ok (days_before year month first, days_in year month first last, days_after year month last))
    (Err (refuse OutOfBounds 0))
