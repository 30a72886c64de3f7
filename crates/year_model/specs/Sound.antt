-- What every state that calls lead to satisfies, whatever the makings: the bounds that keep every sum in range.
use Rattle.std.specs.Prelude.{◌≡◌, ℕ, ◌+◌, ◌-◌, ◌*◌, ◌<◌, ◌≤◌, true, List, length, get_or, Some, sum_by, sum, slice_index, slice_index_or}
use Rattle.billing.specs.Charges.{largest_charge, largest_fee, largest_kw}
use Rattle.billing.specs.declared.fixings.Fixing.{Fixing}
use Rattle.billing.specs.Fixings.{each_carrier, largest_tariff}
use Rattle.billing.specs.Metering.{cents_to_date, largest_line}
use Rattle.calendar.specs.Days.{month_of}
use Rattle.calendar.specs.Terms.{is_term}
use Rattle.edition.specs.Editions.{Known}
use Rattle.sharing.specs.Sharing.{largest_amount}
use Rattle.passing.specs.Passing.{largest_flow}
use Rattle.year_model.specs.declared.tables.Contract.{Contract}
use Rattle.year_model.specs.declared.tables.Coupling.{Coupling}
use Rattle.year_model.specs.declared.tables.Started.{Started}
use Rattle.year_model.specs.declared.tables.System.{System}
use Rattle.year_model.specs.Bills.{fixing_tariff, kwh_line, kwmax_line, most_contracts, new_contract, plain_rate, tariff_of_contract}
use Rattle.year_model.specs.Calls.{largest_number}
use Rattle.year_model.specs.State.{State, is_fixed, rank}
use Rattle.year_model.specs.Systems.{below_count, most_below, most_couplings, most_systems, new_system}

-- the euros standing at all systems, and those landed
abbrev pub all_standing : List System → ℕ
all_standing xs = sum_by (λ x. x.standing) xs

abbrev pub all_landed : List System → ℕ
all_landed xs = sum_by (λ x. x.landed) xs

-- what stands where no system does
abbrev pub no_system : System
no_system = new_system 0 0

abbrev pub no_coupling : Coupling
no_coupling = record { upper = 0; lower = 0; kw = 0; mwh = 0 }

-- the system with this number, counted from 1
abbrev pub system_at : State → ℕ → System
system_at s n = slice_index_or s.systems (n - 1) no_system

-- There is a system with this number.
abbrev pub IsNumber : State → ℕ → Type 0
IsNumber s n = (1 ≤ n) × (n ≤ length s.systems)

-- The tables hold no more than they may, and no system has too many couplings below it.
abbrev pub TablesFit : State → Type 0
TablesFit s =
    (length s.systems ≤ most_systems) × (length s.couplings ≤ most_couplings)
    × ((n : ℕ) → below_count s.couplings n ≤ most_below)

-- Every system's consumers and permille are within bounds.
abbrev pub SystemsFit : State → Type 0
SystemsFit s =
    (k : ℕ) → k < length s.systems →
    ((get_or s.systems k no_system).kw ≤ largest_flow)
    × ((get_or s.systems k no_system).mwh ≤ largest_flow)
    × ((get_or s.systems k no_system).permille ≤ 1000)

-- Every coupling joins two systems that are there.
abbrev pub CouplingsJoin : State → Type 0
CouplingsJoin s =
    (k : ℕ) → k < length s.couplings →
    IsNumber s (get_or s.couplings k no_coupling).upper × IsNumber s (get_or s.couplings k no_coupling).lower

-- Ranks rise along couplings.
abbrev pub RanksRise : State → Type 0
RanksRise s =
    (k : ℕ) → k < length s.couplings →
    rank (system_at s (get_or s.couplings k no_coupling).upper) < rank (system_at s (get_or s.couplings k no_coupling).lower)

-- What every coupling exchanges is within bounds.
abbrev pub FlowsFit : State → Type 0
FlowsFit s =
    (k : ℕ) → k < length s.couplings →
    ((get_or s.couplings k no_coupling).kw ≤ largest_flow) × ((get_or s.couplings k no_coupling).mwh ≤ largest_flow)

-- The euros that stand and those that landed are the net costs, which are within bounds.
abbrev pub MoneyBalances : State → Type 0
MoneyBalances s = (all_standing s.systems + all_landed s.systems ≡ s.net) × (s.net ≤ largest_amount)

-- The tariffs of a fixed system are within bounds.
abbrev pub TariffsFit : State → Type 0
TariffsFit s =
    (k : ℕ) → k < length s.systems → (carrier : ℕ) → fixing_tariff carrier (get_or s.systems k no_system).fixing ≤ largest_tariff

-- what stands where no contract does
abbrev pub no_contract : Contract
no_contract = new_contract 0 0 0 0 0 0 0

-- the contract at this position, counted from 0
abbrev pub contract_at : State → ℕ → Contract
contract_at s k = slice_index_or s.contracts k no_contract

-- There are no more contracts than there may be.
abbrev pub ContractsFit : State → Type 0
ContractsFit s = length s.contracts ≤ most_contracts

-- Every contract is at a system that is there and is fixed.
abbrev pub ContractsPlaced : State → Type 0
ContractsPlaced s =
    (k : ℕ) → k < length s.contracts →
    IsNumber s (contract_at s k).system × (is_fixed (system_at s (contract_at s k).system) ≡ true)

-- The next month to bill lies in the term of the contract, or is the one after it.
abbrev pub MonthsFit : State → Type 0
MonthsFit s =
    (k : ℕ) → k < length s.contracts →
    (1 ≤ month_of (contract_at s k).first)
    × (month_of (contract_at s k).first ≤ (contract_at s k).month)
    × ((contract_at s k).month ≤ month_of (contract_at s k).last + 1)
    × (month_of (contract_at s k).last ≤ 12)

-- No term ends before it begins, and what the yearly charge is made of is within bounds, as is the charge.
abbrev pub ChargesFit : State → Type 0
ChargesFit s =
    (k : ℕ) → k < length s.contracts →
    ((contract_at s k).first ≤ (contract_at s k).last)
    × ((contract_at s k).kw ≤ largest_kw)
    × ((contract_at s k).fee ≤ largest_fee)
    × ((contract_at s k).yearly ≤ largest_charge)

-- how many months of the contract are billed
abbrev pub months_billed : Contract → ℕ
months_billed c = c.month - month_of c.first

-- What is metered is within bounds, and readings do not fall.
abbrev pub MetersFit : State → Type 0
MetersFit s =
    (k : ℕ) → k < length s.contracts →
    ((contract_at s k).kwmax ≤ largest_kw * months_billed (contract_at s k))
    × ((contract_at s k).opening ≤ (contract_at s k).reading)
    × ((contract_at s k).reading ≤ largest_number)

-- What is issued and waived of the yearly charge is within bounds.
abbrev pub CentsFit : State → Type 0
CentsFit s =
    (k : ℕ) → k < length s.contracts →
    (contract_at s k).cents.yearly + (contract_at s k).cents.waived ≤ largest_charge * months_billed (contract_at s k)

-- The metered cents issued are those due to date.
abbrev pub LinesDue : State → Type 0
LinesDue s =
    (k : ℕ) → k < length s.contracts →
    ((contract_at s k).cents.kwmax ≡ cents_to_date (tariff_of_contract s (contract_at s k) 2) plain_rate (contract_at s k).kwmax)
    × ((contract_at s k).cents.kwh ≡ cents_to_date (tariff_of_contract s (contract_at s k) 3) plain_rate ((contract_at s k).reading - (contract_at s k).opening))

-- A draft that is out is for a month of the term, and what it was started with is within bounds.
abbrev pub DraftsFit : State → Type 0
DraftsFit s =
    (k : ℕ) (d : Started) → (contract_at s k).started ≡ Some d →
    (d.kwmax ≤ largest_kw)
    × ((contract_at s k).reading ≤ d.reading)
    × (d.reading ≤ largest_number)
    × ((contract_at s k).month ≤ month_of (contract_at s k).last)

-- The metered lines of a draft that is out are within bounds.
abbrev pub DraftsPayable : State → Type 0
DraftsPayable s =
    (k : ℕ) (d : Started) → (contract_at s k).started ≡ Some d →
    (kwmax_line s (contract_at s k) d.kwmax ≤ largest_line) × (kwh_line s (contract_at s k) d.reading ≤ largest_line)

pub record Sound (s : State) : Type 0 where
  pub tables : TablesFit s
  pub systems : SystemsFit s
  pub joined : CouplingsJoin s
  pub ranked : RanksRise s
  pub flows : FlowsFit s
  pub money : MoneyBalances s
  pub tariffs : TariffsFit s
  pub contracts : ContractsFit s
  pub placed : ContractsPlaced s
  pub months : MonthsFit s
  pub charges : ChargesFit s
  pub meters : MetersFit s
  pub cents : CentsFit s
  pub lines : LinesDue s
  pub drafts : DraftsFit s
  pub payable : DraftsPayable s

-- The same as a fact that has one proof at most, as what a struct carries must have.
abbrev pub IsSound : State → Type 0
IsSound s = ∥ Sound s ∥₁

-- The term of every contract is one of this calendar year. It speaks of the calendar, so it stands beside the rest.
abbrev pub TermsDated : ℕ → State → Type 0
TermsDated calendar s =
    (k : ℕ) → k < length s.contracts → is_term calendar (contract_at s k).first (contract_at s k).last ≡ true

-- a system's tariffs times its volumes, and its remainders
abbrev pub fixing_euros : Fixing → ℕ
fixing_euros f = sum (each_carrier (λ i. slice_index f.tariffs i * slice_index f.volumes i + slice_index f.remainders i))

-- They are the landed euros of a fixed system, in ten-thousandths.
abbrev pub FixingsWhole : State → Type 0
FixingsWhole s =
    (k : ℕ) → k < length s.systems → (f : Fixing) → (slice_index_or s.systems k no_system).fixing ≡ Some f →
    fixing_euros f ≡ 10000 * (slice_index_or s.systems k no_system).landed

-- The edition knows the category of every system.
abbrev pub CategoriesKnown : Known → State → Type 0
CategoriesKnown known s = (k : ℕ) → k < length s.systems → known (slice_index_or s.systems k no_system).category ≡ true
