-- Contracts stay sound where systems change, and where one contract is added or changed.
use Rattle.std.proofs.Common.{◌≡◌, ℕ, ◌+◌, ◌-◌, ◌<◌, ◌≤◌, true, List, [], ◌∷◌, ◌++◌, length, get_or, set, is_some, Option, sym, refl, ap, ◌∙◌, subst, arith}
use Rattle.std.proofs.lemmas.List.{length_push, length-set}
use Rattle.billing.specs.declared.fixings.Fixing.{Fixing}
use Rattle.billing.specs.Metering.{cents_to_date, largest_line}
use Rattle.year_model.specs.declared.tables.Contract.{Contract}
use Rattle.year_model.specs.declared.tables.Coupling.{Coupling}
use Rattle.year_model.specs.declared.tables.System.{System}
use Rattle.year_model.specs.Bills.{fixing_tariff, most_contracts, plain_rate, system_tariff, tariff_of_contract}
use Rattle.year_model.specs.Sound.{IsNumber, no_contract, no_system, system_at}
use Rattle.year_model.specs.State.{State, is_fixed, numbered, with_contract, with_contracts}
use Rattle.year_model.proofs.Entries.{throughout_push, throughout_set}
use Rattle.year_model.proofs.Grids.{Held, Register}
use Rattle.year_model.proofs.Lookups.{Entry, numbered_from_entry}

-- No system is taken away, and what is fixed stays as it is.
pub record FixingsStay (xs ys : List System) : Type 0 where
  pub long : length xs ≤ length ys
  pub same : (k : ℕ) → k < length xs → is_fixed (get_or xs k no_system) ≡ true → (get_or ys k no_system).fixing ≡ (get_or xs k no_system).fixing

-- the tariff at a system that is there
tariff_there : (s : State) (n carrier : ℕ) → IsNumber s n → system_tariff carrier (numbered s.systems n) ≡ fixing_tariff carrier (system_at s n).fixing
tariff_there s n carrier is = ap (system_tariff carrier) (numbered_from_entry s.systems n no_system is.0 is.1)

-- What is held of a contract stays.
module _ (s t : State) (stay : FixingsStay s.systems t.systems) (c : Contract) (held : Held s c) where
  -- Its system keeps its tariffs.
  fixing_stays : (system_at t c.system).fixing ≡ (system_at s c.system).fixing
  fixing_stays = stay.same (c.system - 1) (omega (arith, held.placed.0)) held.placed.1

  -- Its system is still there.
  there_still : IsNumber t c.system
  there_still = (held.placed.0.0, omega (arith, held.placed.0, stay.long))

  -- So the contract goes by the same tariffs.
  pub tariff_stays : (carrier : ℕ) → tariff_of_contract t c carrier ≡ tariff_of_contract s c carrier
  tariff_stays carrier =
      tariff_there t c.system carrier there_still ∙ ap (fixing_tariff carrier) fixing_stays ∙ sym (tariff_there s c.system carrier held.placed.0)

  -- And all that is held of it stays.
  pub held_stays : Held t c
  held_stays =
      record {
        placed = (there_still, ap (λ (o : Option Fixing). is_some o) fixing_stays ∙ held.placed.1);
        months = held.months;
        charge = held.charge;
        meter = held.meter;
        cents = held.cents;
        lines = (
          held.lines.0 ∙ ap (λ n. cents_to_date n plain_rate c.kwmax) (sym (tariff_stays 2)),
          held.lines.1 ∙ ap (λ n. cents_to_date n plain_rate (c.reading - c.opening)) (sym (tariff_stays 3)),
        );
        draft = held.draft;
        payable = λ d e. (
          subst (λ n. cents_to_date n plain_rate (c.kwmax + d.kwmax) - c.cents.kwmax ≤ largest_line) (sym (tariff_stays 2)) (held.payable d e).0,
          subst (λ n. cents_to_date n plain_rate (d.reading - c.opening) - c.cents.kwh ≤ largest_line) (sym (tariff_stays 3)) (held.payable d e).1,
        );
      }

-- The contracts stay as sound as they are where what is fixed stays.
pub register_stays : (s : State) → Register s → (ys : List System) (cs : List Coupling) (net : ℕ) → FixingsStay s.systems ys
    → Register (record { systems = ys; couplings = cs; contracts = s.contracts; net = net })
register_stays s register ys cs net stay =
    let t : State = record { systems = ys; couplings = cs; contracts = s.contracts; net = net } in
    record { few = register.few; held = λ k h. held_stays s t stay (get_or s.contracts k no_contract) (register.held k h) }

-- The same systems.
pub fixings_same : (xs : List System) → FixingsStay xs xs
fixings_same xs = record { long = omega arith; same = λ k h fixed. refl }

-- One contract more.
pub register_pushed : (s : State) → Register s → (c : Contract) → Held s c → length s.contracts < most_contracts → Register (with_contracts s (s.contracts ++ c ∷ []))
register_pushed s register c held room =
    let t = with_contracts s (s.contracts ++ c ∷ []) in
    record {
      few = omega (arith, length_push s.contracts c);
      held = λ k h.
          held_stays s t (fixings_same s.systems) (get_or (s.contracts ++ c ∷ []) k no_contract)
          (throughout_push (Held s) s.contracts c no_contract register.held held k h);
    }

-- One contract changed.
pub register_changed : (s : State) → Register s → (n : ℕ) (c : Contract) → Held s c → Register (with_contract s n c)
register_changed s register n c held =
    let t = with_contract s n c in
    record {
      few = omega (arith, length-set s.contracts (n - 1) c, register.few);
      held = λ k h.
          held_stays s t (fixings_same s.systems) (get_or (set s.contracts (n - 1) c) k no_contract)
          (throughout_set (Held s) s.contracts (n - 1) c no_contract register.held held k h);
    }

-- what is held of the contract with a number
pub held_entry : (s : State) → Register s → (n : ℕ) (c : Contract) → Entry s.contracts n c → Held s c
held_entry s register n c at = subst (Held s) (at.here no_contract) (register.held (n - 1) (omega (arith, at.low, at.high)))
