use Rattle.std.proofs.Common.{rules}
use Rattle.year_model.specs.Calls.{call_open}
use Rattle.year_model.specs.State.{view}
use Rattle.year_model.specs.declared.tables.Tables.{Tables}
use Rattle.tariff_year.specs.Years.{makings}
use Rattle.tariff_year.proofs.Making.{kept_by, lawful}
use Rattle.tariff_year.proofs.year.TariffYear.open.Goals as goal

pub invariant_of-self : goal.invariant_of-self
invariant_of-self g c =
    let old = c.args.self.now in
    let m = makings g.E.Edition g.R.SharingRule old.basis in
    let law = lawful g.E.Edition g.R.SharingRule old.basis g.met.R.SharingRule.twelve (g.met.R.SharingRule.sharing old.basis.rule) (g.met.E.Edition.hundred old.basis.edition) in
    let new : Tables = record { systems = c.push_reserved.new.self; couplings = old.tables.couplings; contracts = old.tables.contracts; net = old.tables.net } in
    let kept = kept_by m law (call_open c.args.level c.args.category) (view old.tables) (view new) (search rules) old.sound old.dated old.priced old.known in
    record { roomy = search rules; sound = kept.0; dated = kept.1; priced = kept.2; known = kept.3 }
