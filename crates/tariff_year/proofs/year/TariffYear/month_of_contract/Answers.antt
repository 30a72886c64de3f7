use Rattle.std.proofs.Common.{rules}
use Rattle.year_model.specs.State.{view}
use Rattle.year_model.proofs.SoundFact.{sound_from_fact}
use Rattle.tariff_year.proofs.AskedContracts.{asked_entry}
use Rattle.tariff_year.proofs.Holding.{billable}
use Rattle.tariff_year.proofs.year.TariffYear.month_of_contract.Goals as goal

pub shared_month-requires : goal.shared_month-requires
shared_month-requires g c =
    let old = c.args.self.now in
    let s = view old.tables in
    let at = asked_entry s.contracts c.args.number c.in_ok-contract.contract c.in_ok-contract.ensures in
    billable old.basis.calendar.year s (sound_from_fact s old.sound) old.dated c.args.number c.in_ok-contract.contract at c.args.month (search rules) (search rules)
