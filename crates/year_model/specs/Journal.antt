-- The journal of a list of calls: a line for each accepted call, told from the calls and their replies alone. What a list of
-- calls brought in, took out, fixed and billed is read off the journal, and not off what a year keeps.
use Rattle.std.specs.Prelude.{◌≡◌, ℕ, ◌+◌, ◌*◌, cond, List, [], ◌∷◌, Some, None, Ok, Err, sum_by, sum, Option, ◌==◌, slice_index}
use Rattle.billing.specs.Fixings.{each_carrier}
use Rattle.year_model.specs.Calls.{Call, Reply, call_contract, call_cost, call_couple, call_fix, call_issue, call_open, call_pass, call_settle, call_start, call_take_back, call_tear, call_use}
use Rattle.year_model.specs.Makings.{Makings}
use Rattle.year_model.specs.Steps.{reply, state_after}

-- an accepted open: the system's number as told, and the category as called
pub record Opening : Type 0 where
  pub system : ℕ
  pub category : ℕ

-- an accepted fix: the system and the four volumes as called, and the four tariffs as told
pub record Tariffs : Type 0 where
  pub system : ℕ
  pub volumes : List ℕ
  pub tariffs : List ℕ

-- an accepted contract: its number as told, and its terms as called
pub record Terms : Type 0 where
  pub contract : ℕ
  pub system : ℕ
  pub kw : ℕ
  pub fee : ℕ
  pub first : ℕ
  pub last : ℕ
  pub reading : ℕ

-- an accepted start: the contract, the month's kWmax and the reading as called
pub record Metered : Type 0 where
  pub contract : ℕ
  pub kwmax : ℕ
  pub reading : ℕ

-- an accepted issue, all as told: the contract, the month, and the yearly, kWmax, kWh and waived cents
pub record Bill : Type 0 where
  pub contract : ℕ
  pub month : ℕ
  pub yearly : ℕ
  pub kwmax : ℕ
  pub kwh : ℕ
  pub waived : ℕ

-- A line of the journal has a column for each kind of entry, and at most one of them is filled.
pub record Line : Type 0 where
  pub cost : ℕ
  pub take_back : ℕ
  pub opening : Option Opening
  pub fixing : Option Tariffs
  pub contract : Option Terms
  pub start : Option Metered
  pub bill : Option Bill

abbrev pub euros_line : ℕ → ℕ → Line
euros_line cost take_back = record { cost = cost; take_back = take_back; opening = None; fixing = None; contract = None; start = None; bill = None }

abbrev pub blank_line : Line
blank_line = euros_line 0 0

abbrev pub opening_line : Opening → Line
opening_line opening = record { cost = 0; take_back = 0; opening = Some opening; fixing = None; contract = None; start = None; bill = None }

abbrev pub fixing_line : Tariffs → Line
fixing_line fixing = record { cost = 0; take_back = 0; opening = None; fixing = Some fixing; contract = None; start = None; bill = None }

abbrev pub contract_line : Terms → Line
contract_line terms = record { cost = 0; take_back = 0; opening = None; fixing = None; contract = Some terms; start = None; bill = None }

abbrev pub start_line : Metered → Line
start_line metered = record { cost = 0; take_back = 0; opening = None; fixing = None; contract = None; start = Some metered; bill = None }

abbrev pub bill_line : Bill → Line
bill_line bill = record { cost = 0; take_back = 0; opening = None; fixing = None; contract = None; start = None; bill = Some bill }

-- a told number, from 0
abbrev pub told_at : List ℕ → ℕ → ℕ
told_at told i = slice_index told i

-- what the journal says of an accepted call and of what it was told
abbrev pub line : Call → List ℕ → Line
line (call_open level category) told = opening_line record { system = told_at told 0; category = category }
line (call_couple upper lower kw mwh) told = blank_line
line (call_use n kw mwh permille) told = blank_line
line (call_cost n euros) told = euros_line euros 0
line (call_take_back n euros) told = euros_line 0 euros
line (call_pass n) told = blank_line
line call_settle told = blank_line
line (call_fix n v₁ v₂ v₃ v₄) told = fixing_line record { system = n; volumes = v₁ ∷ v₂ ∷ v₃ ∷ v₄ ∷ []; tariffs = told }
line (call_contract n kw fee first last reading) told =
    contract_line record { contract = told_at told 0; system = n; kw = kw; fee = fee; first = first; last = last; reading = reading }
line (call_start n kwmax reading) told = start_line record { contract = n; kwmax = kwmax; reading = reading }
line (call_issue book n month) told =
    bill_line record { contract = told_at told 0; month = told_at told 1; yearly = told_at told 2; kwmax = told_at told 3; kwh = told_at told 4; waived = told_at told 5 }
line (call_tear book n month) told = blank_line

-- A refused call counts for nothing.
abbrev pub noted : Call → Reply → List Line → List Line
noted c (Ok told) lines = line c told ∷ lines
noted c (Err refusal) lines = lines

-- the lines of the accepted calls of a list, the newest first
abbrev pub journal : Makings → List Call → List Line
journal m [] = []
journal m (c ∷ calls) = noted c (reply m (state_after m calls) c) (journal m calls)

-- the euros of all accepted costs, and of all accepted take-backs
abbrev pub costs_noted : List Line → ℕ
costs_noted lines = sum_by (λ l. l.cost) lines

abbrev pub take_backs_noted : List Line → ℕ
take_backs_noted lines = sum_by (λ l. l.take_back) lines

-- The category that a system was opened in, if it was.
abbrev pub opening_at : ℕ → Option Opening → Option ℕ → Option ℕ
opening_at n None older = older
opening_at n (Some o) older = cond (o.system == n) (Some o.category) older

abbrev pub category_of : List Line → ℕ → Option ℕ
category_of [] n = None
category_of (l ∷ lines) n = opening_at n l.opening (category_of lines n)

-- The accepted fix of a system, if there is one.
abbrev pub fixing_at : ℕ → Option Tariffs → Option Tariffs → Option Tariffs
fixing_at n None older = older
fixing_at n (Some f) older = cond (f.system == n) (Some f) older

abbrev pub fix_of : List Line → ℕ → Option Tariffs
fix_of [] n = None
fix_of (l ∷ lines) n = fixing_at n l.fixing (fix_of lines n)

-- the tariff and the volume of a carrier, counted from 0
abbrev pub tariff_in : Tariffs → ℕ → ℕ
tariff_in f carrier = slice_index f.tariffs carrier

abbrev pub volume_in : Tariffs → ℕ → ℕ
volume_in f carrier = slice_index f.volumes carrier

-- the told tariffs of a fix times the called volumes, added up over the four carriers
abbrev pub fix_worth : Option Tariffs → ℕ
fix_worth None = 0
fix_worth (Some f) = sum (each_carrier (λ i. tariff_in f i * volume_in f i))

-- that of all accepted fixes
abbrev pub tariffs_times_volumes : List Line → ℕ
tariffs_times_volumes lines = sum_by (λ l. fix_worth l.fixing) lines

-- The accepted contract with this number, if there is one.
abbrev pub terms_at : ℕ → Option Terms → Option Terms → Option Terms
terms_at n None older = older
terms_at n (Some k) older = cond (k.contract == n) (Some k) older

abbrev pub terms_of : List Line → ℕ → Option Terms
terms_of [] n = None
terms_of (l ∷ lines) n = terms_at n l.contract (terms_of lines n)

-- a figure of a bill, where it is one of this contract
abbrev pub of_bill : ℕ → (Bill → ℕ) → Option Bill → ℕ
of_bill n figure None = 0
of_bill n figure (Some b) = cond (b.contract == n) (figure b) 0

-- a figure of the bills of a contract, added up
abbrev pub billed_to : List Line → ℕ → (Bill → ℕ) → ℕ
billed_to lines n figure = sum_by (λ l. of_bill n figure l.bill) lines

-- the cents that all accepted issues of a contract told
abbrev pub yearly_told : List Line → ℕ → ℕ
yearly_told lines n = billed_to lines n (λ b. b.yearly)

abbrev pub kwmax_told : List Line → ℕ → ℕ
kwmax_told lines n = billed_to lines n (λ b. b.kwmax)

abbrev pub kwh_told : List Line → ℕ → ℕ
kwh_told lines n = billed_to lines n (λ b. b.kwh)

abbrev pub waived_told : List Line → ℕ → ℕ
waived_told lines n = billed_to lines n (λ b. b.waived)

-- how many accepted issues of a contract told this month
abbrev pub times_told : List Line → ℕ → ℕ → ℕ
times_told lines n month = billed_to lines n (λ b. cond (b.month == month) 1 0)

-- The newest accepted start of a contract, if there is one.
abbrev pub start_at : ℕ → Option Metered → Option Metered → Option Metered
start_at n None older = older
start_at n (Some d) older = cond (d.contract == n) (Some d) older

abbrev pub start_of : List Line → ℕ → Option Metered
start_of [] n = None
start_of (l ∷ lines) n = start_at n l.start (start_of lines n)

abbrev pub kwmax_in : Option Metered → ℕ
kwmax_in None = 0
kwmax_in (Some d) = d.kwmax

abbrev pub reading_in : Option Metered → ℕ
reading_in None = 0
reading_in (Some d) = d.reading

-- The kWmax of the starts that were issued, added up: an issue is of its contract's newest accepted start before it.
abbrev pub kwmax_issued : List Line → ℕ → ℕ
kwmax_issued [] n = 0
kwmax_issued (l ∷ lines) n = of_bill n (λ b. kwmax_in (start_of lines n)) l.bill + kwmax_issued lines n

-- The reading that was issued last; the first reading, called with the contract, counts as issued.
abbrev pub reading_first : ℕ → Option Terms → ℕ → ℕ
reading_first n None older = older
reading_first n (Some k) older = cond (k.contract == n) k.reading older

abbrev pub reading_next : ℕ → Option Bill → ℕ → ℕ → ℕ
reading_next n None reading older = older
reading_next n (Some b) reading older = cond (b.contract == n) reading older

abbrev pub reading_issued : List Line → ℕ → ℕ
reading_issued [] n = 0
reading_issued (l ∷ lines) n =
    reading_next n l.bill (reading_in (start_of lines n)) (reading_first n l.contract (reading_issued lines n))

-- Something holds of each accepted call of a list: of the calls before it, the call, and what it was told.
abbrev pub EachAccepted : Makings → (List Call → Call → List ℕ → Type 0) → List Call → Type 0
EachAccepted m P [] = Unit {0}
EachAccepted m P (c ∷ calls) = ((told : List ℕ) → reply m (state_after m calls) c ≡ Ok told → P calls c told) × EachAccepted m P calls
