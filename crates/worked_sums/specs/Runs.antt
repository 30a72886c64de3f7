-- Runs of calls on a tariff year that a person can follow with pencil and paper: what each call is answered, and where the
-- euros and the cents then are.
use Rattle.std.specs.Prelude.{◌≡◌, ℕ, List, [], ◌∷◌, ◌++◌, map, reverse, replicate, Some, None, Ok, Err, Option, Result}
use Rattle.std.specs.List.{range_with_len, flat_map}
use Rattle.refusal.specs.Refusals.{refusal_numbers}
use Rattle.sharing.specs.Sharing.{Meaning}
use Rattle.sharing.specs.Greatest.{greatest_share}
use Rattle.sharing.specs.Running.{running_share}
use Rattle.edition.specs.Edition2013.{rows_2013}
use Rattle.edition.specs.Tables.{known_in, percent_in}
use Rattle.billing.specs.declared.fixings.Fixing.{Fixing}
use Rattle.year_model.specs.declared.tables.Cents.{Cents}
use Rattle.year_model.specs.declared.tables.Contract.{Contract}
use Rattle.year_model.specs.declared.tables.Started.{Started}
use Rattle.year_model.specs.declared.tables.System.{System}
use Rattle.year_model.specs.Calls.{Call, Reply, call_contract, call_cost, call_couple, call_fix, call_issue, call_open, call_pass, call_settle, call_start, call_take_back, call_tear, call_use}
use Rattle.year_model.specs.Makings.{Makings}
use Rattle.year_model.specs.Passes.{settle_order}
use Rattle.year_model.specs.State.{State}
use Rattle.year_model.specs.Steps.{reply, state_after}

-- the makings of 2026, book 0, with the edition of 2013, under a rule with its longest list
abbrev pub year_of : Meaning → ℕ → Makings
year_of share longest =
    record { calendar = 2026; book = 0; longest = longest; share = share; known = known_in rows_2013; percent = percent_in rows_2013 }

-- the year under the running rule
abbrev pub running_year : Makings
running_year = year_of running_share 32

-- the year under the rule of the greatest remainder
abbrev pub greatest_year : Makings
greatest_year = year_of greatest_share 20

-- in the year under the running rule and in that under the rule of the greatest remainder
abbrev pub InBothYears : (Makings → Type 0) → Type 0
InBothYears Holds = Holds running_year × Holds greatest_year

-- An answer in numbers: the told numbers, or ground and place of the refusal.
abbrev pub Answer : Type 0
Answer = Result (List ℕ) (ℕ × ℕ)

-- the answer that a reply gives
abbrev pub answer : Reply → Answer
answer (Ok numbers) = Ok numbers
answer (Err refusal) = Err (refusal_numbers refusal)

-- the answer that tells these numbers
abbrev pub told : List ℕ → Answer
told numbers = Ok numbers

-- the answer that tells one number
abbrev pub tells : ℕ → Answer
tells n = told (n ∷ [])

-- the answer that refuses on this ground at this place
abbrev pub refused : ℕ → ℕ → Answer
refused why place = Err (why, place)

-- Calls that are written oldest first, in the order of the model: the newest first.
abbrev pub in_order : List Call → List Call
in_order calls = reverse calls

-- the state after these calls, written oldest first
abbrev pub year_after : Makings → List Call → State
year_after m calls = state_after m (in_order calls)

-- what calls are answered in turn, after those that were made before, newest first
abbrev pub answers_from : Makings → List Call → List Call → List Answer
answers_from m before [] = []
answers_from m before (c ∷ calls) = answer (reply m (state_after m before) c) ∷ answers_from m (c ∷ before) calls

-- what each of these calls is answered in turn, all written oldest first
abbrev pub replies : Makings → List Call → List Answer
replies m calls = answers_from m [] calls

-- a call and the answer that it should have
abbrev pub Answered : Type 0
Answered = Call × Answer

-- These calls, made in turn after the run, are answered so.
abbrev pub InTurn : List Call → List Answered → Makings → Type 0
InTurn run answered m = answers_from m (in_order run) (map (λ a. a.0) answered) ≡ map (λ a. a.1) answered

-- Each of these calls, if it is the next one after the run, is answered so.
abbrev pub EachNext : List Call → List Answered → Makings → Type 0
EachNext run answered m = map (λ a. answer (reply m (year_after m run) a.0)) answered ≡ map (λ a. a.1) answered

-- the euros that stand at each system
abbrev pub standing_of : State → List ℕ
standing_of s = map (λ x. x.standing) s.systems

-- the euros that landed with the consumers of each system
abbrev pub landed_of : State → List ℕ
landed_of s = map (λ x. x.landed) s.systems

-- After the run so many euros stand at each system, and so many have landed there.
abbrev pub Euros : List Call → List ℕ → List ℕ → Makings → Type 0
Euros run standing landed m = (standing_of (year_after m run) ≡ standing) × (landed_of (year_after m run) ≡ landed)

-- System 1 at level 5 feeds system 2 at level 7, and 1,001 euros of costs stand at system 1.
abbrev pub two_levels : List Call
two_levels =
    call_open 5 4 ∷ call_open 7 5 ∷ call_couple 1 2 600 3000 ∷ call_use 1 400 1000 500 ∷ call_use 2 50 20 900 ∷ call_cost 1 1001 ∷ []

-- the whole state then
abbrev pub two_levels_state : State
two_levels_state =
    record {
      systems =
          record { level = 5; category = 4; kw = 400; mwh = 1000; permille = 500; standing = 1001; landed = 0; fixing = None } ∷
          record { level = 7; category = 5; kw = 50; mwh = 20; permille = 900; standing = 0; landed = 0; fixing = None } ∷ [];
      couplings = record { upper = 1; lower = 2; kw = 600; mwh = 3000 } ∷ [];
      contracts = [];
      net = 1001;
    }

-- a system that was opened at level 3 in category 2
abbrev pub opened_system : System
opened_system = record { level = 3; category = 2; kw = 0; mwh = 0; permille = 1000; standing = 0; landed = 0; fixing = None }

-- System 1 is passed.
abbrev pub passed_once : List Call
passed_once = two_levels ++ call_pass 1 ∷ []

-- Then all is settled.
abbrev pub passed_and_settled : List Call
passed_and_settled = passed_once ++ call_settle ∷ []

-- All is settled at once.
abbrev pub settled_at_once : List Call
settled_at_once = two_levels ++ call_settle ∷ []

-- The consumers of system 1 now use 1 kW and nothing else, so that one euro is odd; then it is passed.
abbrev pub odd_euro : List Call
odd_euro = two_levels ++ call_use 1 1 0 1000 ∷ call_pass 1 ∷ []

-- Costs go down through two systems.
pub record CostsGoDown : Type 0 where
  -- a system is opened with nothing in it, and its costs go by kW alone until its use is entered
  pub opened : InBothYears (λ m. (year_after m (call_open 3 2 ∷ [])).systems ≡ opened_system ∷ [])
  -- the calls tell the numbers of systems and couplings, the euros standing and the euros passed
  pub entered : InBothYears (λ m. replies m passed_once ≡ tells 1 ∷ tells 2 ∷ tells 1 ∷ tells 1 ∷ tells 2 ∷ tells 1001 ∷ tells 1001 ∷ [])
  pub before : InBothYears (λ m. year_after m two_levels ≡ two_levels_state)
  -- 325 land and 676 go down
  pub passed : InBothYears (Euros passed_once (0 ∷ 676 ∷ []) (325 ∷ 0 ∷ []))
  -- what stands at system 2 lands there; settled again, nothing more lands
  pub settled : InBothYears (InTurn passed_once ((call_settle, tells 676) ∷ (call_settle, tells 0) ∷ []))
  pub nothing_stands : InBothYears (Euros passed_and_settled (0 ∷ 0 ∷ []) (325 ∷ 676 ∷ []))
  -- settled at once, the same lands
  pub at_once : InBothYears (InTurn two_levels ((call_settle, tells 1001) ∷ []))
  pub nothing_stands_at_once : InBothYears (Euros settled_at_once (0 ∷ 0 ∷ []) (325 ∷ 676 ∷ []))
  -- costs add up, and can be taken back while they stand
  pub costs : InBothYears (InTurn two_levels ((call_cost 1 9, tells 1010) ∷ (call_take_back 1 10, tells 1000) ∷ (call_cost 2 7, tells 7) ∷ (call_take_back 2 7, tells 0) ∷ []))
  pub net_costs : InBothYears (λ m. (year_after m (two_levels ++ call_cost 1 9 ∷ call_cost 2 7 ∷ call_take_back 1 10 ∷ [])).net ≡ 1007)
  -- 1,001 euros over 1 kW and 600 kW: the running rule leaves the odd euro to the coupling, the other rule to the consumers
  pub odd_running : Euros odd_euro (0 ∷ 1000 ∷ []) (1 ∷ 0 ∷ []) running_year
  pub odd_greatest : Euros odd_euro (0 ∷ 999 ∷ []) (2 ∷ 0 ∷ []) greatest_year

-- So many euros have landed at a system of category 4.
abbrev pub landed_so : ℕ → List Call
landed_so euros = call_open 5 4 ∷ call_use 1 10 0 1000 ∷ call_cost 1 euros ∷ call_pass 1 ∷ []

-- 1,176 euros have landed there.
abbrev pub landed_1176 : List Call
landed_1176 = landed_so 1176

-- It is fixed.
abbrev pub fixed_once : List Call
fixed_once = landed_1176 ++ call_fix 1 500 4500 2_000_000 0 ∷ []

-- It has a contract from 16 January on.
abbrev pub contracted_once : List Call
contracted_once = fixed_once ++ call_contract 1 100 44_100 116 1231 5000 ∷ []

-- The draft of January is out.
abbrev pub january_out : List Call
january_out = contracted_once ++ call_start 1 80 9321 ∷ []

-- January is billed.
abbrev pub january_billed : List Call
january_billed = january_out ++ call_issue 0 1 1 ∷ []

-- The draft of February is out.
abbrev pub february_out : List Call
february_out = january_billed ++ call_start 1 75 9400 ∷ []

-- February is billed.
abbrev pub february_billed : List Call
february_billed = february_out ++ call_issue 0 1 2 ∷ []

-- what the system keeps of its fixing
abbrev pub fixing_1176 : Fixing
fixing_1176 =
    record {
      volumes = 500 ∷ 4500 ∷ 2_000_000 ∷ 0 ∷ [];
      allotments = 294 ∷ 294 ∷ 588 ∷ 0 ∷ [];
      tariffs = 5880 ∷ 653 ∷ 2 ∷ 0 ∷ [];
      remainders = 0 ∷ 1500 ∷ 1_880_000 ∷ 0 ∷ [];
    }

-- the system once it is fixed
abbrev pub system_1176 : System
system_1176 =
    record { level = 5; category = 4; kw = 10; mwh = 0; permille = 1000; standing = 0; landed = 1176; fixing = Some fixing_1176 }

-- the contract there, with the next month to bill, the kWmax, reading and cents to date, and its draft
abbrev pub contract_1176 : ℕ → ℕ → ℕ → Cents → Option Started → Contract
contract_1176 month kwmax reading cents started =
    record {
      system = 1;
      kw = 100;
      fee = 44_100;
      first = 116;
      last = 1231;
      opening = 5000;
      yearly = 49_980;
      month = month;
      kwmax = kwmax;
      reading = reading;
      cents = cents;
      started = started;
    }

-- the cents before the first bill
abbrev pub no_cents : Cents
no_cents = record { yearly = 0; kwmax = 0; kwh = 0; waived = 0 }

-- the contract before its first bill
abbrev pub contract_unbilled : Contract
contract_unbilled = contract_1176 1 0 5000 no_cents None

-- the contract with the draft of January out
abbrev pub contract_started : Contract
contract_started = contract_1176 1 0 5000 no_cents (Some record { kwmax = 80; reading = 9321 })

-- the contract after the bills of January and February
abbrev pub contract_billed : Contract
contract_billed = contract_1176 3 155 9400 (record { yearly = 6315; kwmax = 1012; kwh = 88; waived = 2015 }) None

-- Both levels are settled, and then fixed from the top; system 2 has a contract for the whole year, and its January is out.
abbrev pub both_fixed : List Call
both_fixed = settled_at_once ++ call_fix 1 100 100 1000 0 ∷ call_fix 2 0 0 0 100 ∷ call_contract 2 4 1000 101 1231 0 ∷ call_start 1 10 100 ∷ []

-- From landed euros to bills.
pub record EurosBecomeBills : Type 0 where
  pub landed : InBothYears (Euros landed_1176 (0 ∷ []) (1176 ∷ []))
  -- the four tariffs are told
  pub fixed : InBothYears (InTurn landed_1176 ((call_fix 1 500 4500 2_000_000 0, told (5880 ∷ 653 ∷ 2 ∷ 0 ∷ [])) ∷ []))
  pub fixing_kept : InBothYears (λ m. (year_after m fixed_once).systems ≡ system_1176 ∷ [])
  -- contract 1, with a yearly charge of 49,980 cents
  pub contracted : InBothYears (InTurn fixed_once ((call_contract 1 100 44_100 116 1231 5000, tells 1) ∷ []))
  pub charge_kept : InBothYears (λ m. (year_after m contracted_once).contracts ≡ contract_unbilled ∷ [])
  -- a draft is told by book, contract and month
  pub january_started : InBothYears (InTurn contracted_once ((call_start 1 80 9321, told (0 ∷ 1 ∷ 1 ∷ [])) ∷ []))
  pub draft_kept : InBothYears (λ m. (year_after m january_out).contracts ≡ contract_started ∷ [])
  -- a bill is told by contract, month, and the yearly, kWmax, kWh and waived cents
  pub january : InBothYears (InTurn january_out ((call_issue 0 1 1, told (1 ∷ 1 ∷ 2150 ∷ 522 ∷ 86 ∷ 2015 ∷ [])) ∷ []))
  pub february : InBothYears (InTurn january_billed ((call_start 1 75 9400, told (0 ∷ 1 ∷ 2 ∷ [])) ∷ (call_issue 0 1 2, told (1 ∷ 2 ∷ 4165 ∷ 490 ∷ 2 ∷ 0 ∷ [])) ∷ []))
  pub bills_kept : InBothYears (λ m. (year_after m february_billed).contracts ≡ contract_billed ∷ [])
  -- a torn draft is out no more, tells nothing, and can be started again
  pub torn : InBothYears (InTurn january_out ((call_tear 0 1 1, told []) ∷ (call_issue 0 1 1, refused 26 0) ∷ (call_start 1 80 9321, told (0 ∷ 1 ∷ 1 ∷ [])) ∷ []))
  pub tearing_undoes : InBothYears (λ m. year_after m (january_out ++ call_tear 0 1 1 ∷ []) ≡ year_after m contracted_once)
  -- a contract from 15 to 20 February: 14 days before, 6 in and 8 after, and no month left after February
  pub within_february : InBothYears (InTurn fixed_once ((call_contract 1 0 12_000 215 220 0, tells 1) ∷ (call_start 1 0 0, told (0 ∷ 1 ∷ 2 ∷ [])) ∷ (call_issue 0 1 2, told (1 ∷ 2 ∷ 214 ∷ 0 ∷ 0 ∷ 786 ∷ [])) ∷ (call_start 1 0 0, refused 23 0) ∷ []))
  -- a second contract has number 2 and bills of its own
  pub second_contract : InBothYears (InTurn january_out ((call_contract 1 0 12_000 201 1231 0, tells 2) ∷ (call_start 2 0 0, told (0 ∷ 2 ∷ 2 ∷ [])) ∷ (call_issue 0 2 2, told (2 ∷ 2 ∷ 1000 ∷ 0 ∷ 0 ∷ 0 ∷ [])) ∷ (call_issue 0 1 1, told (1 ∷ 1 ∷ 2150 ∷ 522 ∷ 86 ∷ 2015 ∷ [])) ∷ []))
  -- two levels fixed from the top: 325 euros in category 4, 676 in category 5, and 4 reckoned kW at 67,600
  pub from_the_top : InBothYears (InTurn settled_at_once ((call_fix 2 0 0 0 100, refused 17 2) ∷ (call_fix 1 100 100 1000 0, told (8100 ∷ 8100 ∷ 1630 ∷ 0 ∷ [])) ∷ (call_fix 2 0 0 0 100, told (0 ∷ 0 ∷ 0 ∷ 67_600 ∷ [])) ∷ (call_contract 2 4 1000 101 1231 0, tells 1) ∷ []))
  pub reckoned_charge : InBothYears (λ m. map (λ k. k.yearly) (year_after m both_fixed).contracts ≡ 3704 ∷ [])
  -- 3,704 cents over twelve months: the running rule begins with the smaller portion, the other rule with the larger; kWmax and
  -- kWh cost nothing in category 5
  pub reckoned_running : InTurn both_fixed ((call_issue 0 1 1, told (1 ∷ 1 ∷ 308 ∷ 0 ∷ 0 ∷ 0 ∷ [])) ∷ []) running_year
  pub reckoned_greatest : InTurn both_fixed ((call_issue 0 1 1, told (1 ∷ 1 ∷ 309 ∷ 0 ∷ 0 ∷ 0 ∷ [])) ∷ []) greatest_year

-- Three systems, of which 1 feeds 2; only system 1 has consumers, and costs.
abbrev pub half_entered : List Call
half_entered =
    call_open 5 4 ∷ call_open 7 5 ∷ call_open 5 4 ∷ call_couple 1 2 600 3000 ∷ call_use 1 400 1000 500 ∷ call_cost 1 1001 ∷ []

-- System 1 is fixed, and systems 2, 3 and 4 are not; 1 feeds 2.
abbrev pub one_fixed : List Call
one_fixed = settled_at_once ++ call_fix 1 100 100 1000 0 ∷ call_open 7 5 ∷ call_open 1 1 ∷ []

-- Nine systems at level 1 and 31 at level 7; the first eight feed all of those, and the ninth feeds so many of them.
abbrev pub many_couplings : ℕ → List Call
many_couplings ninth =
    replicate 9 (call_open 1 1) ++ (replicate 31 (call_open 7 5)
    ++ (flat_map (λ upper. map (λ n. call_couple upper n 1 0) (range_with_len 10 31)) (range_with_len 1 8) ++ map (λ n. call_couple 9 n 1 0) (range_with_len 10 ninth)))

-- The fixed system has so many contracts.
abbrev pub many_contracts : ℕ → List Call
many_contracts n = fixed_once ++ replicate n (call_contract 1 0 0 101 101 0)

-- A system fixed with so small volumes that charges and lines come near their limits.
abbrev pub dear : List Call
dear = landed_1176 ++ call_fix 1 7 5 10_000 0 ∷ []

-- System 1 at level 1 has 1 kW and feeds so many systems at level 7 with 1 kW each.
abbrev pub fan : ℕ → List Call
fan couplings =
    call_open 1 1 ∷ replicate couplings (call_open 7 5) ++ (call_use 1 1 0 1000 ∷ map (λ n. call_couple 1 n 1 0) (range_with_len 2 couplings))

-- What is refused, by ground and place, and what lies just within the bounds.
pub record RefusalsTold : Type 0 where
  pub opening : InBothYears (EachNext half_entered (
      (call_open 0 4, refused 6 1) ∷
      (call_open 8 4, refused 6 1) ∷
      (call_open 8 100, refused 6 1) ∷
      (call_open 5 0, refused 6 2) ∷
      (call_open 5 100, refused 6 2) ∷
      (call_open 5 6, refused 7 0) ∷
      (call_open 5 99, refused 7 0) ∷
      (call_open 1 1, tells 4) ∷ []))
  pub coupling : InBothYears (EachNext half_entered (
      (call_couple 10_000_000_000 2 0 0, refused 6 1) ∷
      (call_couple 4 10_000_000_000 0 0, refused 6 2) ∷
      (call_couple 4 2 30_000_001 0, refused 6 3) ∷
      (call_couple 1 2 30_000_000 30_000_001, refused 6 4) ∷
      (call_couple 0 2 0 0, refused 8 0) ∷
      (call_couple 1 4 0 0, refused 8 0) ∷
      (call_couple 1 3 0 0, refused 11 0) ∷
      (call_couple 2 1 0 0, refused 11 0) ∷
      (call_couple 1 1 0 0, refused 11 0) ∷
      (call_couple 1 2 0 0, refused 12 0) ∷
      (call_couple 3 2 30_000_000 30_000_000, tells 2) ∷ []))
  pub consumers : InBothYears (EachNext half_entered (
      (call_use 10_000_000_000 0 0 0, refused 6 1) ∷
      (call_use 4 30_000_001 0 1001, refused 6 2) ∷
      (call_use 4 0 30_000_001 0, refused 6 3) ∷
      (call_use 4 0 0 1001, refused 6 4) ∷
      (call_use 4 0 0 1000, refused 8 0) ∷
      (call_use 0 0 0 0, refused 8 0) ∷
      (call_use 3 30_000_000 30_000_000 1000, tells 3) ∷ []))
  pub costing : InBothYears (EachNext half_entered (
      (call_cost 10_000_000_000 1, refused 6 1) ∷
      (call_cost 4 5_000_000_001, refused 6 2) ∷
      (call_cost 4 1, refused 8 0) ∷
      (call_cost 3 4_999_999_000, refused 13 0) ∷
      (call_cost 3 4_999_998_999, tells 4_999_998_999) ∷
      (call_cost 1 4_999_998_999, tells 5_000_000_000) ∷ []))
  pub taking_back : InBothYears (EachNext half_entered (
      (call_take_back 1 5_000_000_001, refused 6 2) ∷
      (call_take_back 4 1, refused 8 0) ∷
      (call_take_back 1 1002, refused 14 0) ∷
      (call_take_back 2 1, refused 14 0) ∷
      (call_take_back 1 1001, tells 0) ∷ []))
  -- systems 2 and 3 have no kW to go by
  pub passing : InBothYears (EachNext half_entered (
      (call_pass 10_000_000_000, refused 6 1) ∷
      (call_pass 0, refused 8 0) ∷
      (call_pass 4, refused 8 0) ∷
      (call_pass 2, refused 16 2) ∷
      (call_pass 3, refused 16 3) ∷
      (call_pass 1, tells 1001) ∷ []))
  -- a permille below 1,000 needs MWh, one above 0 needs kW
  pub nothing_to_go_by : InBothYears (InTurn half_entered (
      (call_use 3 0 5 0, tells 3) ∷
      (call_pass 3, tells 0) ∷
      (call_use 3 0 5 1, tells 3) ∷
      (call_pass 3, refused 16 3) ∷
      (call_use 3 5 0 999, tells 3) ∷
      (call_pass 3, refused 16 3) ∷
      (call_use 3 5 0 1000, tells 3) ∷
      (call_pass 3, tells 0) ∷ []))
  -- settling names the first system in the way by number; a fixed one is in nobody's way
  pub settling : InBothYears (InTurn half_entered (
      (call_settle, refused 16 2) ∷
      (call_use 2 50 0 1000, tells 2) ∷
      (call_settle, refused 16 3) ∷
      (call_fix 3 100 100 1000 0, told (0 ∷ 0 ∷ 0 ∷ 0 ∷ [])) ∷
      (call_settle, tells 1001) ∷ []))
  -- euros stand at system 1, and system 2 has an unfixed one above it
  pub fixing : InBothYears (EachNext half_entered (
      (call_fix 10_000_000_000 0 0 0 0, refused 6 1) ∷
      (call_fix 4 10_000_000_000 0 0 0, refused 6 2) ∷
      (call_fix 4 0 10_000_000_000 0 0, refused 6 3) ∷
      (call_fix 4 0 0 10_000_000_000 0, refused 6 4) ∷
      (call_fix 4 0 0 0 10_000_000_000, refused 6 5) ∷
      (call_fix 4 1 1 1 0, refused 8 0) ∷
      (call_fix 1 1 1 1 1, refused 17 1) ∷
      (call_fix 2 1 1 1 1, refused 17 2) ∷
      (call_fix 3 1 1 1 1, refused 18 0) ∷
      (call_fix 3 0 1 1 0, refused 18 0) ∷
      (call_fix 3 1 0 1 0, refused 18 0) ∷
      (call_fix 3 1 1 0 0, refused 18 0) ∷ []))
  -- a tariff of 100,000,000 is the largest
  pub largest_tariff : InBothYears (EachNext (landed_so 40_000) ((call_fix 1 1 1 1000 0, told (100_000_000 ∷ 100_000_000 ∷ 200_000 ∷ 0 ∷ [])) ∷ []))
  pub tariff_too_high : InBothYears (EachNext (landed_so 40_004) ((call_fix 1 1 1 1000 0, refused 19 0) ∷ (call_fix 1 1 1 1000 1, refused 18 0) ∷ []))
  pub contracting : InBothYears (EachNext half_entered (
      (call_contract 10_000_000_000 0 0 101 1231 0, refused 6 1) ∷
      (call_contract 1 1_000_001 0 229 1231 0, refused 6 2) ∷
      (call_contract 1 0 1_000_000_001 229 1231 0, refused 6 3) ∷
      (call_contract 1 0 0 229 101 0, refused 6 4) ∷
      (call_contract 1 0 0 0 1231 0, refused 6 4) ∷
      (call_contract 1 0 0 301 228 10_000_000_000, refused 6 5) ∷
      (call_contract 1 0 0 101 229 0, refused 6 5) ∷
      (call_contract 1 0 0 101 1301 0, refused 6 5) ∷
      (call_contract 4 0 0 101 1231 10_000_000_000, refused 6 6) ∷
      (call_contract 4 0 0 101 1231 0, refused 8 0) ∷
      (call_contract 0 0 0 101 1231 0, refused 8 0) ∷
      (call_contract 1 1_000_000 1_000_000_000 101 101 9_999_999_999, refused 20 0) ∷ []))
  -- a yearly charge of 5,000,000,000 cents is the largest
  pub charging : InBothYears (EachNext dear (
      (call_contract 1 1_000_000 800_000_001 101 1231 0, refused 21 0) ∷
      (call_contract 1 1_000_000 800_000_000 101 1231 0, tells 1) ∷ []))
  -- 850,340 kW at tariff 588,000 are 4,999,999,200 cents, and 850,340,136 kWh at tariff 588 are 4,999,999,999; one more of
  -- either is too much
  pub metering : InBothYears (EachNext (dear ++ call_contract 1 0 0 101 1231 0 ∷ []) (
      (call_start 1 850_341 0, refused 25 0) ∷
      (call_start 1 850_340 0, told (0 ∷ 1 ∷ 1 ∷ [])) ∷
      (call_start 1 0 850_340_137, refused 25 0) ∷
      (call_start 1 0 850_340_136, told (0 ∷ 1 ∷ 1 ∷ [])) ∷ []))
  -- nothing changes at a fixed system, and only the draft that is out can be issued or torn
  pub draft_out : InBothYears (EachNext january_out (
      (call_couple 1 1 0 0, refused 10 0) ∷
      (call_use 1 0 0 0, refused 10 0) ∷
      (call_cost 1 5_000_000_000, refused 10 0) ∷
      (call_take_back 1 1, refused 10 0) ∷
      (call_pass 1, refused 10 0) ∷
      (call_fix 1 0 0 0 0, refused 10 0) ∷
      (call_settle, tells 0) ∷
      (call_start 10_000_000_000 0 0, refused 6 1) ∷
      (call_start 2 1_000_001 0, refused 6 2) ∷
      (call_start 2 0 10_000_000_000, refused 6 3) ∷
      (call_start 0 0 0, refused 8 0) ∷
      (call_start 2 0 0, refused 8 0) ∷
      (call_start 1 0 0, refused 22 0) ∷
      (call_issue 1 1 1, refused 26 0) ∷
      (call_issue 0 0 1, refused 26 0) ∷
      (call_issue 0 2 1, refused 26 0) ∷
      (call_issue 0 1 2, refused 26 0) ∷
      (call_tear 1 1 1, refused 26 0) ∷
      (call_tear 0 2 1, refused 26 0) ∷
      (call_tear 0 1 2, refused 26 0) ∷ []))
  -- before the first bill, readings do not fall below the contract's own
  pub first_reading : InBothYears (EachNext contracted_once (
      (call_start 1 80 4999, refused 24 0) ∷
      (call_start 1 80 5000, told (0 ∷ 1 ∷ 1 ∷ [])) ∷
      (call_issue 0 1 1, refused 26 0) ∷
      (call_tear 0 1 1, refused 26 0) ∷ []))
  -- a spent draft stays spent while a later one is out
  pub later_draft_out : InBothYears (EachNext february_out (
      (call_issue 0 1 1, refused 26 0) ∷
      (call_tear 0 1 1, refused 26 0) ∷
      (call_issue 0 1 3, refused 26 0) ∷
      (call_tear 0 1 2, told []) ∷ []))
  -- one fixed system is enough to refuse a coupling
  pub coupling_fixed : InBothYears (EachNext one_fixed (
      (call_couple 1 3 0 0, refused 10 0) ∷
      (call_couple 4 1 0 0, refused 10 0) ∷
      (call_couple 1 2 0 0, refused 10 0) ∷
      (call_couple 4 2 0 0, tells 2) ∷ []))
  -- a draft is issued once, and readings do not fall
  pub draft_spent : InBothYears (EachNext january_billed (
      (call_issue 0 1 1, refused 26 0) ∷
      (call_issue 0 1 2, refused 26 0) ∷
      (call_tear 0 1 1, refused 26 0) ∷
      (call_start 1 75 9320, refused 24 0) ∷
      (call_start 1 75 9321, told (0 ∷ 1 ∷ 2 ∷ [])) ∷ []))

-- What is refused because a table or a list is full.
pub record TablesFull : Type 0 where
  -- twenty takers are the most under the rule of the greatest remainder, and thirty-two under the running rule
  pub twenty_takers : InBothYears (EachNext (fan 19) ((call_pass 1, tells 0) ∷ (call_settle, refused 16 2) ∷ []))
  pub more_takers_running : EachNext (fan 20) ((call_pass 1, tells 0) ∷ (call_settle, refused 16 2) ∷ []) running_year
  pub more_takers_greatest : EachNext (fan 20) ((call_pass 1, refused 15 1) ∷ (call_settle, refused 15 1) ∷ []) greatest_year
  -- no system has more than 31 couplings below it
  pub couplings_full : InBothYears (EachNext (fan 31 ++ call_open 7 5 ∷ []) ((call_couple 1 33 1 0, refused 9 0) ∷ (call_couple 1 34 1 0, refused 8 0) ∷ []))
  pub thirty_two_takers : EachNext (fan 31) ((call_pass 1, tells 0) ∷ []) running_year
  -- there are no more than 256 couplings in all, 64 systems and 256 contracts
  pub last_coupling : InBothYears (EachNext (many_couplings 7) ((call_couple 9 17 1 0, tells 256) ∷ []))
  pub all_couplings_full : InBothYears (EachNext (many_couplings 8) ((call_couple 9 18 1 0, refused 9 0) ∷ (call_couple 1 2 1 0, refused 9 0) ∷ []))
  pub last_contract : InBothYears (EachNext (many_contracts 255) ((call_contract 1 0 0 101 101 0, tells 256) ∷ []))
  pub contracts_full : InBothYears (EachNext (many_contracts 256) ((call_contract 1 0 0 101 101 0, refused 9 0) ∷ (call_contract 2 0 0 101 101 0, refused 8 0) ∷ []))
  pub systems_full : InBothYears (EachNext (replicate 64 (call_open 1 1)) ((call_open 7 5, refused 9 0) ∷ (call_open 7 6, refused 7 0) ∷ []))
  pub last_system : InBothYears (EachNext (replicate 63 (call_open 1 1)) ((call_open 7 5, tells 64) ∷ []))

-- The lower level was opened first: system 2 at level 5 feeds system 1 at level 7, and the costs stand at system 2.
abbrev pub lower_first : List Call
lower_first =
    call_open 7 5 ∷ call_open 5 4 ∷ call_couple 2 1 600 3000 ∷ call_use 1 50 20 900 ∷ call_use 2 400 1000 500 ∷ call_cost 2 1001 ∷ []

-- The systems are passed by number.
abbrev pub passed_by_number : List Call
passed_by_number = lower_first ++ call_pass 1 ∷ call_pass 2 ∷ []

-- They are settled.
abbrev pub settled_by_level : List Call
settled_by_level = lower_first ++ call_settle ∷ []

-- System 3 at level 1 feeds systems 2 and 4 at level 5 and system 1 at level 7, which 2 and 4 feed too; 12 euros stand at system 3.
abbrev pub three_levels : List Call
three_levels =
    call_open 7 5 ∷ call_open 5 4 ∷ call_open 1 1 ∷ call_open 5 4 ∷
    call_couple 3 2 1 0 ∷ call_couple 2 1 2 0 ∷ call_couple 3 4 1 0 ∷ call_couple 4 1 2 0 ∷ call_couple 3 1 1 0 ∷
    call_use 1 1 0 1000 ∷ call_use 2 1 0 1000 ∷ call_use 3 1 0 1000 ∷ call_use 4 1 0 1000 ∷ call_cost 3 12 ∷ []

-- They are settled, and the topmost is fixed.
abbrev pub topmost_fixed : List Call
topmost_fixed = three_levels ++ call_settle ∷ call_fix 3 10 10 0 0 ∷ []

-- Settling goes by level.
pub record SettlingGoesByLevel : Type 0 where
  -- passed by number, 676 euros are left standing at the lower system
  pub by_number : InBothYears (InTurn lower_first ((call_pass 1, tells 0) ∷ (call_pass 2, tells 1001) ∷ []))
  pub stranded : InBothYears (Euros passed_by_number (676 ∷ 0 ∷ []) (0 ∷ 325 ∷ []))
  -- settled, all have landed and none stand
  pub by_level : InBothYears (InTurn lower_first ((call_settle, tells 1001) ∷ []))
  pub landed : InBothYears (Euros settled_by_level (0 ∷ 0 ∷ []) (676 ∷ 325 ∷ []))
  pub order : InBothYears (λ m. settle_order (year_after m lower_first) ≡ 2 ∷ 1 ∷ [])
  -- on one level the lower number comes first
  pub three_levels_order : InBothYears (λ m. settle_order (year_after m three_levels) ≡ 3 ∷ 2 ∷ 4 ∷ 1 ∷ [])
  pub three_levels_told : InBothYears (InTurn three_levels ((call_settle, tells 12) ∷ []))
  pub three_levels_landed : InBothYears (Euros (three_levels ++ call_settle ∷ []) (0 ∷ 0 ∷ 0 ∷ 0 ∷ []) (7 ∷ 1 ∷ 3 ∷ 1 ∷ []))
  -- a fixed system is left out
  pub fixed_left_out : InBothYears (λ m. settle_order (year_after m topmost_fixed) ≡ 2 ∷ 4 ∷ 1 ∷ [])
  pub settled_below : InBothYears (InTurn topmost_fixed ((call_cost 4 3, tells 3) ∷ (call_settle, tells 3) ∷ []))
  pub landed_below : InBothYears (Euros (topmost_fixed ++ call_cost 4 3 ∷ call_settle ∷ []) (0 ∷ 0 ∷ 0 ∷ 0 ∷ []) (9 ∷ 1 ∷ 3 ∷ 2 ∷ []))

-- Every run comes out as worked by hand.
pub record WorkedRuns : Type 0 where
  pub costs : CostsGoDown
  pub bills : EurosBecomeBills
  pub refusals : RefusalsTold
  pub tables : TablesFull
  pub settling : SettlingGoesByLevel
