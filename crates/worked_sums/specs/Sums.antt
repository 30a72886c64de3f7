-- Sums that a person can check with pencil and paper.
use Rattle.std.specs.Prelude.{◌≡◌, ℕ, true, false, List, [], ◌∷◌, map, Ok, Result}
use Rattle.std.specs.List.{range_with_len}
use Rattle.refusal.specs.declared.refusal.Refusal.{Refusal}
use Rattle.sharing.specs.Sharing.{Meaning, all_shares}
use Rattle.sharing.specs.Greatest.{greatest_share}
use Rattle.sharing.specs.Running.{running_share}
use Rattle.edition.specs.Edition2013.{rows_2013}
use Rattle.edition.specs.Editions.{percentages}
use Rattle.edition.specs.Tables.{percent_in}
use Rattle.calendar.specs.Days.{is_day}
use Rattle.calendar.specs.Terms.{term_answer}
use Rattle.passing.specs.Passing.{received}
use Rattle.billing.specs.Fixings.{each_carrier, remainder, tariff}
use Rattle.billing.specs.Charges.{charge, portion}
use Rattle.billing.specs.Months.{issued_cents, waived_cents}
use Rattle.billing.specs.Metering.{line_answer}
use Rattle.billing.specs.declared.metering.MeteredLine.{MeteredLine}
use Rattle.billing.specs.declared.metering.Rate.{Rate}
use Rattle.worked_sums.specs.Runs.{WorkedRuns}

-- under the running rule and under the rule of the greatest remainder
abbrev pub UnderBoth : (Meaning → Type 0) → Type 0
UnderBoth Sum = Sum running_share × Sum greatest_share

-- 1,001 euros, permille 500; consumers 400 kW and 1,000 MWh, one coupling 600 kW and 3,000 MWh
abbrev pub example_pass : Meaning → List ℕ
example_pass share = map (received share 1001 500 (400 ∷ 600 ∷ []) (1000 ∷ 3000 ∷ [])) (range_with_len 0 2)

-- the percentages of category 4 in the edition of 2013
abbrev pub category_4 : List ℕ
category_4 = percentages (percent_in rows_2013) 4

abbrev pub example_volumes : List ℕ
example_volumes = 500 ∷ 4500 ∷ 2_000_000 ∷ 0 ∷ []

-- a hundred ten-thousandths of a euro make a cent
abbrev pub plain : Rate
plain = record { factor = 1; divisor = 100 }

abbrev pub line : ℕ → ℕ → Result MeteredLine Refusal
line cents carry = Ok (record { cents = cents; carry = carry })

pub record WorkedSums : Type 0 where
  -- 10 over 1, 1, 1
  pub running_ten_over_thirds : all_shares running_share 10 (1 ∷ 1 ∷ 1 ∷ []) ≡ 3 ∷ 3 ∷ 4 ∷ []
  pub greatest_ten_over_thirds : all_shares greatest_share 10 (1 ∷ 1 ∷ 1 ∷ []) ≡ 4 ∷ 3 ∷ 3 ∷ []
  -- 7 over 1, 0, 2
  pub seven : UnderBoth (λ share. all_shares share 7 (1 ∷ 0 ∷ 2 ∷ []) ≡ 2 ∷ 0 ∷ 5 ∷ [])
  -- 29 February
  pub leap_day : is_day 2028 229 ≡ true
  pub no_leap_day : is_day 2026 229 ≡ false
  -- January of a term from 16 January to 31 December 2026
  pub january : term_answer 2026 116 1231 1 ≡ Ok (15, 16, 0)
  -- 325 land with the consumers and 676 go down
  pub pass : UnderBoth (λ share. example_pass share ≡ 325 ∷ 676 ∷ [])
  -- 1,176 euros landed in category 4
  pub tariffs : UnderBoth (λ share. each_carrier (tariff share 1176 category_4 example_volumes) ≡ 5880 ∷ 653 ∷ 2 ∷ 0 ∷ [])
  pub remainders : UnderBoth (λ share. each_carrier (remainder share 1176 category_4 example_volumes) ≡ 0 ∷ 1500 ∷ 1_880_000 ∷ 0 ∷ [])
  -- 100 kW there, with a fee of 44,100 cents
  pub yearly : charge 44_100 100 5880 0 ≡ 49_980
  -- January from the 16th on
  pub january_issued : UnderBoth (λ share. issued_cents share (portion share 49_980 1) 15 16 0 ≡ 2150)
  pub january_waived : UnderBoth (λ share. waived_cents share (portion share 49_980 1) 15 16 0 ≡ 2015)
  -- 80 kW in January and 75 kW in February at tariff 653
  pub kwmax_january : line_answer 653 plain 80 0 ≡ line 522 40
  pub kwmax_february : line_answer 653 plain 155 522 ≡ line 490 15
  -- readings 5,000, 9,321 and 9,400 at tariff 2
  pub kwh_january : line_answer 2 plain 4321 0 ≡ line 86 42
  pub kwh_february : line_answer 2 plain 4400 86 ≡ line 2 0
  -- runs of calls on a tariff year
  pub runs : WorkedRuns
