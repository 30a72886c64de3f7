-- Soundness as a fact that has one proof at most, which a struct can carry.
use Rattle.std.proofs.Common.{◌≡◌, sym, subst}
use mathlib.Core.Logic.{∥∥₁_elim, ∥∥₁_map}
use denote.Struct.Props.{props}
use Rattle.year_model.specs.Calls.{Call}
use Rattle.year_model.specs.Makings.{Lawful, Makings}
use Rattle.year_model.specs.Sound.{CentsFit, ChargesFit, ContractsFit, ContractsPlaced, CouplingsJoin, DraftsFit, DraftsPayable, FlowsFit, IsSound, LinesDue, MetersFit, MoneyBalances, MonthsFit, RanksRise, Sound, SystemsFit, TablesFit, TariffsFit}
use Rattle.year_model.specs.State.{State, begun}
use Rattle.year_model.specs.Steps.{after}
use Rattle.year_model.proofs.SoundCalls.{sound_begun, sound_by}

-- Each part of it has one proof at most.
one_tables : (s : State) → IsProp (TablesFit s)
one_tables s = hlevel props

one_systems : (s : State) → IsProp (SystemsFit s)
one_systems s = hlevel props

one_joined : (s : State) → IsProp (CouplingsJoin s)
one_joined s = hlevel props

one_ranked : (s : State) → IsProp (RanksRise s)
one_ranked s = hlevel props

one_flows : (s : State) → IsProp (FlowsFit s)
one_flows s = hlevel props

one_money : (s : State) → IsProp (MoneyBalances s)
one_money s = hlevel props

one_tariffs : (s : State) → IsProp (TariffsFit s)
one_tariffs s = hlevel props

one_contracts : (s : State) → IsProp (ContractsFit s)
one_contracts s = hlevel props

one_placed : (s : State) → IsProp (ContractsPlaced s)
one_placed s = hlevel props

one_months : (s : State) → IsProp (MonthsFit s)
one_months s = hlevel props

one_charges : (s : State) → IsProp (ChargesFit s)
one_charges s = hlevel props

one_meters : (s : State) → IsProp (MetersFit s)
one_meters s = hlevel props

one_cents : (s : State) → IsProp (CentsFit s)
one_cents s = hlevel props

one_lines : (s : State) → IsProp (LinesDue s)
one_lines s = hlevel props

one_drafts : (s : State) → IsProp (DraftsFit s)
one_drafts s = hlevel props

one_payable : (s : State) → IsProp (DraftsPayable s)
one_payable s = hlevel props

-- Soundness has one proof at most.
pub one_sound : (s : State) → IsProp (Sound s)
one_sound s x y =
    let same_tables = one_tables s x.tables y.tables in
    let same_systems = one_systems s x.systems y.systems in
    let same_joined = one_joined s x.joined y.joined in
    let same_ranked = one_ranked s x.ranked y.ranked in
    let same_flows = one_flows s x.flows y.flows in
    let same_money = one_money s x.money y.money in
    let same_tariffs = one_tariffs s x.tariffs y.tariffs in
    let same_contracts = one_contracts s x.contracts y.contracts in
    let same_placed = one_placed s x.placed y.placed in
    let same_months = one_months s x.months y.months in
    let same_charges = one_charges s x.charges y.charges in
    let same_meters = one_meters s x.meters y.meters in
    let same_cents = one_cents s x.cents y.cents in
    let same_lines = one_lines s x.lines y.lines in
    let same_drafts = one_drafts s x.drafts y.drafts in
    let same_payable = one_payable s x.payable y.payable in
    let same : ◌≡◌ {A = Sound s} (record { tables = x.tables; systems = x.systems; joined = x.joined; ranked = x.ranked; flows = x.flows; money = x.money; tariffs = x.tariffs; contracts = x.contracts; placed = x.placed; months = x.months; charges = x.charges; meters = x.meters; cents = x.cents; lines = x.lines; drafts = x.drafts; payable = x.payable }) (record { tables = y.tables; systems = y.systems; joined = y.joined; ranked = y.ranked; flows = y.flows; money = y.money; tariffs = y.tariffs; contracts = y.contracts; placed = y.placed; months = y.months; charges = y.charges; meters = y.meters; cents = y.cents; lines = y.lines; drafts = y.drafts; payable = y.payable }) = cc in
    same

-- So the fact gives back all that it says.
pub sound_from_fact : (s : State) → IsSound s → Sound s
sound_from_fact s fact = ∥∥₁_elim fact (one_sound s) (λ v. v)

-- The fact holds at the beginning.
pub is_sound_begun : (s : State) → s ≡ begun → IsSound s
is_sound_begun s e = ∣ subst Sound (sym e) sound_begun ∣₁

-- Every call keeps it.
pub is_sound_by : (m : Makings) → Lawful m → (c : Call) (s t : State) → t ≡ after m s c → IsSound s → IsSound t
is_sound_by m law c s t e fact = ∥∥₁_map fact (λ v. sound_by m law c s t e v)
