-- What the year tells when it is asked.
use Rattle.std.specs.Prelude.{ℕ, ◌-◌, cond, not, List, length, Some, None, Ok, Err, Option, Result, nat_lt}
use Rattle.std.specs.Result.{result_map_both}
use Rattle.refusal.specs.declared.ground.Ground.TheVariants.{OutOfBounds, SystemNotFixed}
use Rattle.refusal.specs.declared.refusal.Refusal.{Refusal}
use Rattle.refusal.specs.Refusals.{refuse}
use Rattle.billing.specs.declared.fixings.Fixing.{Fixing}
use Rattle.year_model.specs.declared.tables.System.{System}
use Rattle.billing.specs.Charges.{equal_months, portion}
use Rattle.billing.specs.Months.{day_counts}
use Rattle.calendar.specs.Days.{is_month}
use Rattle.calendar.specs.Terms.{days_after, days_before, days_in}
use Rattle.sharing.specs.Sharing.{Meaning, all_shares}
use Rattle.year_model.specs.declared.tables.Contract.{Contract}
use Rattle.year_model.specs.Books.{kwh_carry, kwmax_carry}
use Rattle.year_model.specs.Calls.{largest_number}
use Rattle.year_model.specs.Makings.{Makings}
use Rattle.year_model.specs.State.{State, numbered}
use Rattle.tariff_year.specs.LookedUp.{told_entry}
use Rattle.tariff_year.specs.declared.contract_questions.ContractMonth.{ContractMonth}
use Rattle.tariff_year.specs.declared.contract_questions.DayShare.{DayShare}
use Rattle.tariff_year.specs.declared.contract_questions.Metering.{Metering}
use Rattle.tariff_year.specs.declared.questions.Counts.{Counts}

-- The entry with this number; a number above ten digits is refused first, then one that is not there.
abbrev pub asked : {X : Type 0} → List X → ℕ → Result X Refusal
asked xs n = cond (nat_lt largest_number n) (Err (refuse OutOfBounds 1)) (told_entry (numbered xs n))

-- how many entries the tables have
abbrev pub counts_of : State → Counts
counts_of s = record { systems = length s.systems; couplings = length s.couplings; contracts = length s.contracts }

abbrev pub told_fixing : Option Fixing → Result Fixing Refusal
told_fixing None = Err (refuse SystemNotFixed 0)
told_fixing (Some f) = Ok f

abbrev pub fixing_asked : Result System Refusal → Result Fixing Refusal
fixing_asked (Ok x) = told_fixing x.fixing
fixing_asked (Err refusal) = Err refusal

-- The fixing of the system with this number; one that is not fixed is refused last.
abbrev pub asked_fixing : List System → ℕ → Result Fixing Refusal
asked_fixing xs n = fixing_asked (asked xs n)

-- the twelve portions of the yearly charge of a contract
abbrev pub portions_asked : Meaning → State → ℕ → Result (List ℕ) Refusal
portions_asked share s n = result_map_both (λ k. all_shares share k.yearly equal_months) (λ e. e) (asked s.contracts n)

-- what is metered of a contract to date, and what is carried on
abbrev pub metering_of : State → Contract → Metering
metering_of s k =
    record {
      kwmax = record { volume = k.kwmax; carry = kwmax_carry s k };
      kwh = record { volume = k.reading - k.opening; carry = kwh_carry s k };
    }

abbrev pub metering_asked : State → ℕ → Result Metering Refusal
metering_asked s n = result_map_both (metering_of s) (λ e. e) (asked s.contracts n)

-- days of a month, and their share of its portion
abbrev pub day_share : Makings → Contract → ℕ → ℕ → ℕ → DayShare
day_share m k month days position =
    record {
      days = days;
      cents = m.share (portion m.share k.yearly month) (day_counts (days_before m.calendar month k.first) (days_in m.calendar month k.first k.last) (days_after m.calendar month k.last)) position;
    }

-- the days of a month before, in and after the term of a contract, with their shares
abbrev pub contract_month : Makings → ℕ → Contract → ContractMonth
contract_month m month k =
    record {
      before = day_share m k month (days_before m.calendar month k.first) 0;
      within = day_share m k month (days_in m.calendar month k.first k.last) 1;
      after = day_share m k month (days_after m.calendar month k.last) 2;
    }

-- A number above ten digits is refused first, then a month that is none, then a number that is not there.
abbrev pub month_asked : Makings → State → ℕ → ℕ → Result ContractMonth Refusal
month_asked m s n month =
    cond (nat_lt largest_number n) (Err (refuse OutOfBounds 1))
    (cond (not (is_month month)) (Err (refuse OutOfBounds 2))
    (result_map_both (contract_month m month) (λ e. e) (told_entry (numbered s.contracts n))))
