-- A sound state in two halves: the grid with its euros, and the contracts.
use Rattle.std.proofs.Common.{◌≡◌, ℕ, ◌+◌, ◌-◌, ◌*◌, ◌<◌, ◌≤◌, true, length, Some, ap, ⊎_elim, arith}
use Rattle.std.proofs.lemmas.List.{get_or_past}
use Rattle.std.proofs.lemmas.Bool.{cases_lt}
use Rattle.billing.specs.Charges.{largest_charge, largest_fee, largest_kw}
use Rattle.billing.specs.Metering.{cents_to_date, largest_line}
use Rattle.calendar.specs.Days.{month_of}
use Rattle.year_model.specs.declared.tables.Contract.{Contract}
use Rattle.year_model.specs.declared.tables.Started.{Started}
use Rattle.year_model.specs.Bills.{kwh_line, kwmax_line, plain_rate, tariff_of_contract}
use Rattle.year_model.specs.Calls.{largest_number}
use Rattle.year_model.specs.Sound.{ContractsFit, CouplingsJoin, FlowsFit, IsNumber, MoneyBalances, RanksRise, Sound, SystemsFit, TablesFit, TariffsFit, contract_at, months_billed, no_contract, system_at}
use Rattle.year_model.specs.State.{State, is_fixed}
use Rattle.year_model.proofs.Entries.{Throughout}

-- what Sound says of systems, couplings and euros
pub record Grid (s : State) : Type 0 where
  pub tables : TablesFit s
  pub systems : SystemsFit s
  pub joined : CouplingsJoin s
  pub ranked : RanksRise s
  pub flows : FlowsFit s
  pub money : MoneyBalances s

-- what Sound says of one contract
pub record Held (s : State) (c : Contract) : Type 0 where
  pub placed : IsNumber s c.system × (is_fixed (system_at s c.system) ≡ true)
  pub months : (1 ≤ month_of c.first) × (month_of c.first ≤ c.month) × (c.month ≤ month_of c.last + 1) × (month_of c.last ≤ 12)
  pub charge : (c.first ≤ c.last) × (c.kw ≤ largest_kw) × (c.fee ≤ largest_fee) × (c.yearly ≤ largest_charge)
  pub meter : (c.kwmax ≤ largest_kw * months_billed c) × (c.opening ≤ c.reading) × (c.reading ≤ largest_number)
  pub cents : c.cents.yearly + c.cents.waived ≤ largest_charge * months_billed c
  pub lines : (c.cents.kwmax ≡ cents_to_date (tariff_of_contract s c 2) plain_rate c.kwmax) × (c.cents.kwh ≡ cents_to_date (tariff_of_contract s c 3) plain_rate (c.reading - c.opening))
  pub draft : (d : Started) → c.started ≡ Some d → (d.kwmax ≤ largest_kw) × (c.reading ≤ d.reading) × (d.reading ≤ largest_number) × (c.month ≤ month_of c.last)
  pub payable : (d : Started) → c.started ≡ Some d → (kwmax_line s c d.kwmax ≤ largest_line) × (kwh_line s c d.reading ≤ largest_line)

-- what Sound says of the contracts
pub record Register (s : State) : Type 0 where
  pub few : ContractsFit s
  pub held : Throughout (Held s) s.contracts no_contract

-- the grid of a sound state
pub grid_of : (s : State) → Sound s → Grid s
grid_of s v = record { tables = v.tables; systems = v.systems; joined = v.joined; ranked = v.ranked; flows = v.flows; money = v.money }

-- the contracts of a sound state
pub register_of : (s : State) → Sound s → Register s
register_of s v =
    record {
      few = v.contracts;
      held = λ k h. record {
        placed = v.placed k h;
        months = v.months k h;
        charge = v.charges k h;
        meter = v.meters k h;
        cents = v.cents k h;
        lines = v.lines k h;
        draft = v.drafts k;
        payable = v.payable k;
      };
    }

-- Where a draft is out, there is a contract.
draft_of_contract : (s : State) (k : ℕ) (d : Started) → (contract_at s k).started ≡ Some d → k < length s.contracts
draft_of_contract s k d e =
    ⊎_elim
    (λ (lt : k < length s.contracts). lt)
    (λ (ge : length s.contracts ≤ k).
    let past = ap (λ (c : Contract). c.started) (get_or_past s.contracts k no_contract ge) in
    let z : ◌≡◌ {A = ℕ} 0 1 = cc in
    absurd (omega arith))
    (cases_lt k (length s.contracts))

-- The halves make a whole.
pub sound_whole : (s : State) → Grid s → TariffsFit s → Register s → Sound s
sound_whole s grid tariffs register =
    record {
      tables = grid.tables;
      systems = grid.systems;
      joined = grid.joined;
      ranked = grid.ranked;
      flows = grid.flows;
      money = grid.money;
      tariffs = tariffs;
      contracts = register.few;
      placed = λ k h. (register.held k h).placed;
      months = λ k h. (register.held k h).months;
      charges = λ k h. (register.held k h).charge;
      meters = λ k h. (register.held k h).meter;
      cents = λ k h. (register.held k h).cents;
      lines = λ k h. (register.held k h).lines;
      drafts = λ k d e. (register.held k (draft_of_contract s k d e)).draft d e;
      payable = λ k d e. (register.held k (draft_of_contract s k d e)).payable d e;
    }
