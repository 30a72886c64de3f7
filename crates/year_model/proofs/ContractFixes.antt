-- The journal has the fix that a contract goes by, and its yearly charge is by the told tariffs.
use Rattle.std.proofs.Common.{◌≡◌, ℕ, ◌-◌, true, List, is_some, Some, None, Option, sym, refl, ap, ◌∙◌, arith}
use Rattle.std.proofs.lemmas.List.{get_or_default}
use Rattle.billing.specs.declared.fixings.Fixing.{Fixing}
use Rattle.billing.specs.Charges.{charge}
use Rattle.year_model.specs.declared.tables.Contract.{Contract}
use Rattle.year_model.specs.Bills.{tariff_at, tariff_of_contract}
use Rattle.year_model.specs.Books.{yearly_charge}
use Rattle.year_model.specs.Journal.{Line, Tariffs, fix_of, tariff_in}
use Rattle.year_model.specs.Sound.{no_system, system_at}
use Rattle.year_model.specs.State.{State}
use Rattle.year_model.proofs.ChargesKept.{Charged, tariff_found}
use Rattle.year_model.proofs.ContractAccounts.{terms_kept}
use Rattle.year_model.proofs.FixesTold.{FixesTold, tariffs_kept, told_tariffs}
use Rattle.year_model.proofs.Grids.{Held}
use Rattle.year_model.proofs.Lookups.{Entry, numbered_from_entry}

-- what is fixed has a fixing
fixing_there : (o : Option Fixing) → is_some o ≡ true → (f : Fixing) × (o ≡ Some f)
fixing_there None no_fixing = let z : ◌≡◌ {A = ℕ} 0 1 = cc in absurd (omega arith)
fixing_there (Some f) fixed = (f, refl)

-- The fix of a contract's system is told, and the contract goes by its tariffs.
pub record FixOfContract (lines : List Line) (s : State) (n : ℕ) (c : Contract) : Type 0 where
  pub tariffs : Tariffs
  pub told : fix_of lines c.system ≡ Some tariffs
  pub kwmax : tariff_in tariffs 1 ≡ tariff_of_contract s c 2
  pub kwh : tariff_in tariffs 2 ≡ tariff_of_contract s c 3
  pub yearly : c.yearly ≡ yearly_charge (terms_kept n c) tariffs

pub fix_of_contract : (lines : List Line) (s : State) → FixesTold lines s → (n : ℕ) (c : Contract) → Held s c → Charged s c → FixOfContract lines s n c
fix_of_contract lines s fixes n c held charged =
    let x = system_at s c.system in
    let there = held.placed.0 in
    let fixing = fixing_there x.fixing held.placed.1 in
    let f = fixing.0 in
    let at : Entry s.systems c.system x = record { low = there.0; high = there.1; here = λ d. get_or_default s.systems (c.system - 1) d no_system (omega arith) } in
    let tariff = tariff_found s c.system x f at fixing.1 in
    record {
      tariffs = record { system = c.system; volumes = f.volumes; tariffs = f.tariffs };
      told = fixes c.system ∙ ap (tariffs_kept c.system) (numbered_from_entry s.systems c.system no_system there.0 there.1) ∙ ap (told_tariffs c.system) fixing.1;
      kwmax = sym (tariff 2);
      kwh = sym (tariff 3);
      yearly = charged ∙ ap (λ t. charge c.fee c.kw t (tariff_of_contract s c 4)) (tariff 1) ∙ ap (λ t. charge c.fee c.kw (tariff_at f 1) t) (tariff 4);
    }
