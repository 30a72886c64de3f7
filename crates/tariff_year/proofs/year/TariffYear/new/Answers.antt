use Rattle.std.proofs.Common.{rules}
use Rattle.year_model.specs.State.{view}
use Rattle.year_model.specs.declared.tables.Tables.{Tables}
use Rattle.year_model.proofs.SoundFact.{is_sound_begun}
use Rattle.year_model.proofs.SystemsKept.{categories_known_begun, fixings_whole_begun}
use Rattle.tariff_year.proofs.Making.{dated_begun}
use Rattle.tariff_year.proofs.year.TariffYear.new.Goals as goal

pub invariant_of-result : goal.invariant_of-result
invariant_of-result g c =
    let new : Tables = record { systems = c.in_ok-systems.systems; couplings = c.in_ok-couplings.couplings; contracts = c.in_ok-contracts.contracts; net = 0 } in
    record { roomy = search rules; sound = is_sound_begun (view new) (search rules); dated = dated_begun c.args.calendar.year (view new) (search rules); priced = fixings_whole_begun (view new) (search rules); known = categories_known_begun (g.E.Edition.known c.args.edition) (view new) (search rules) }
