use Rattle.std.proofs.Common.{vec_items, arith, rules}
use Rattle.year_model.specs.Calls.{call_use}
use Rattle.year_model.specs.State.{State, view, with_system}
use Rattle.year_model.specs.Systems.{with_use}
use Rattle.tariff_year.specs.Years.{makings}
use Rattle.tariff_year.proofs.Entries.{here_from_slice}
use Rattle.tariff_year.proofs.Making.{kept_by, lawful}
use Rattle.year_model.proofs.Lookups.{entry_from_numbered}
use Rattle.tariff_year.proofs.year.TariffYear.use_system.Goals as goal

pub index_mut-requires : goal.index_mut-requires
index_mut-requires g c =
    let tables = c.args.self.now.tables in
    let there = entry_from_numbered (vec_items tables.systems) c.args.system c.in_ok-old.old (here_from_slice _ _ c.args.system c.in_ok-old.old c.deref.ensures.value c.in_ok-old.ensures.there) in
    omega (arith, there.low, there.high, tables.systems.ok.0)

pub invariant_of-self : goal.invariant_of-self
invariant_of-self g c =
    let old = c.args.self.now in
    let m = makings g.E.Edition g.R.SharingRule old.basis in
    let law = lawful g.E.Edition g.R.SharingRule old.basis g.met.R.SharingRule.twelve (g.met.R.SharingRule.sharing old.basis.rule) (g.met.E.Edition.hundred old.basis.edition) in
    let later : State = with_system (view old.tables) c.args.system (with_use c.in_ok-old.old c.args.kw c.args.mwh c.args.permille) in
    let kept = kept_by m law (call_use c.args.system c.args.kw c.args.mwh c.args.permille) (view old.tables) later (search rules) old.sound old.dated old.priced old.known in
    record { roomy = search rules; sound = kept.0; dated = kept.1; priced = kept.2; known = kept.3 }
