-- The days of the year, by months and their days.
use Rattle.std.proofs.Common.{◌≡◌, ℕ, ◌≤◌, leb, Decides, ap, ◌∙◌, arith}
use Rattle.std.proofs.lemmas.Bool.{and_from, and_parts, le-leb, leb-true}
use Rattle.std.proofs.lemmas.Bool.Decides.{nat_tests}
use Rattle.calendar.specs.Days.{DayOfYear, date_of, day_of, days_of_month, is_day, month_of}
use Rattle.calendar.specs.Laws.{DaysLieInMonths, MonthsHave28To31}

pub days_at_most : (year month : ℕ) → days_of_month year month ≤ 31
days_at_most year month = grind (arith, nat_tests)

pub months_have_28_to_31 : MonthsHave28To31
months_have_28_to_31 year month h = (grind (arith, nat_tests), days_at_most year month)

-- what is no month has no days
pub days_lie_in_months : DaysLieInMonths
days_lie_in_months year date h = grind (arith, nat_tests)

-- A date has one month and one day.
one_month : (month day : ℕ) → day ≤ 31 → month_of (date_of month day) ≡ month
one_month month day h = omega arith

one_day : (month day : ℕ) → day ≤ 31 → day_of (date_of month day) ≡ day
one_day month day h = omega arith

pub is_day_decides : (year date : ℕ) → Decides (is_day year date) (DayOfYear year date)
is_day_decides year date = (
  (λ here.
      let parts = and_parts (leb 1 (day_of date)) (leb (day_of date) (days_of_month year (month_of date))) here in
      (month_of date, (day_of date, (leb-true _ _ parts.0, leb-true _ _ parts.1, omega arith)))),
  (λ found.
      let month = found.0 in
      let day = found.1.0 in
      let most = days_at_most year month in
      let small : day ≤ 31 = omega (arith, found.1.1.1) in
      let own_month : month_of date ≡ month = ap month_of found.1.1.2 ∙ one_month month day small in
      let own_day : day_of date ≡ day = ap day_of found.1.1.2 ∙ one_day month day small in
      and_from (leb 1 (day_of date)) (leb (day_of date) (days_of_month year (month_of date)))
      (rw own_day (le-leb 1 day found.1.1.0))
      (rw (own_day, own_month) (le-leb day (days_of_month year month) found.1.1.1))),
)
