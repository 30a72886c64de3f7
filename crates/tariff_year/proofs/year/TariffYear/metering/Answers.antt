use Rattle.std.proofs.Common.{◌-◌, sym, ap, ◌∙◌, arith}
use Rattle.billing.specs.Metering.{cents_to_date}
use Rattle.year_model.specs.Bills.{plain_rate}
use Rattle.year_model.specs.State.{view}
use Rattle.year_model.proofs.SoundFact.{sound_from_fact}
use Rattle.tariff_year.proofs.AskedContracts.{asked_held}
use Rattle.tariff_year.proofs.Holding.{tariff_small}
use Rattle.tariff_year.proofs.year.TariffYear.metering.Goals as goal

pub overflow_sub-kwh : goal.overflow_sub-kwh
overflow_sub-kwh g c =
    let s = view c.args.self.now.tables in
    let held = asked_held s (sound_from_fact s c.args.self.now.sound) c.args.number c.in_ok-contract.contract c.in_ok-contract.ensures in
    omega (arith, held.meter.1)

pub carried-requires : goal.carried-requires
carried-requires g c =
    let s = view c.args.self.now.tables in
    let k = c.in_ok-contract.contract in
    let sound = sound_from_fact s c.args.self.now.sound in
    let held = asked_held s sound c.args.number k c.in_ok-contract.ensures in
    let months = held.months in
    record {
      bounded = (omega (arith, tariff_small s sound k 2, c.tariff-by_kwmax.ensures), omega (arith, held.meter.0));
      due = held.lines.0 ∙ ap (λ t. cents_to_date t plain_rate k.kwmax) (sym c.tariff-by_kwmax.ensures);
    }

pub carried-requires-2 : goal.carried-requires-2
carried-requires-2 g c =
    let s = view c.args.self.now.tables in
    let k = c.in_ok-contract.contract in
    let sound = sound_from_fact s c.args.self.now.sound in
    let held = asked_held s sound c.args.number k c.in_ok-contract.ensures in
    record {
      bounded = (omega (arith, tariff_small s sound k 3, c.tariff-by_kwh.ensures), omega (arith, held.meter.2));
      due = held.lines.1 ∙ ap (λ t. cents_to_date t plain_rate (k.reading - k.opening)) (sym c.tariff-by_kwh.ensures);
    }
