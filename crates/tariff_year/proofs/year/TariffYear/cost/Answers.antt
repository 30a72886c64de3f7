use Rattle.std.proofs.Common.{◌+◌, vec_items, arith, rules}
use Rattle.year_model.specs.Calls.{call_cost}
use Rattle.year_model.specs.State.{State, view, with_net, with_system}
use Rattle.year_model.specs.Systems.{standing_at}
use Rattle.tariff_year.specs.Years.{makings}
use Rattle.tariff_year.proofs.Entries.{here_from_slice}
use Rattle.tariff_year.proofs.Making.{kept_by, lawful}
use Rattle.tariff_year.proofs.Bounds.{standing_bounded}
use Rattle.year_model.proofs.SoundFact.{sound_from_fact}
use Rattle.year_model.proofs.Lookups.{entry_from_numbered}
use Rattle.tariff_year.proofs.year.TariffYear.cost.Goals as goal

pub index_mut-requires : goal.index_mut-requires
index_mut-requires g c =
    let tables = c.args.self.now.tables in
    let there = entry_from_numbered (vec_items tables.systems) c.args.system c.in_ok-old.old (here_from_slice _ _ c.args.system c.in_ok-old.old c.deref.ensures.value c.in_ok-old.ensures.there) in
    omega (arith, there.low, there.high, tables.systems.ok.0)

pub invariant_of-self : goal.invariant_of-self
invariant_of-self g c =
    let old = c.args.self.now in
    let m = makings g.E.Edition g.R.SharingRule old.basis in
    let law = lawful g.E.Edition g.R.SharingRule old.basis g.met.R.SharingRule.twelve (g.met.R.SharingRule.sharing old.basis.rule) (g.met.E.Edition.hundred old.basis.edition) in
    let later : State = with_net (with_system (view old.tables) c.args.system (standing_at c.in_ok-old.old (c.in_ok-old.old.standing + c.args.euros))) (old.tables.net + c.args.euros) in
    let kept = kept_by m law (call_cost c.args.system c.args.euros) (view old.tables) later (search rules) old.sound old.dated old.priced old.known in
    record { roomy = search rules; sound = kept.0; dated = kept.1; priced = kept.2; known = kept.3 }

pub overflow_add-standing : goal.overflow_add-standing
overflow_add-standing g c =
    let tables = c.args.self.now.tables in
    let sound = sound_from_fact (view tables) c.args.self.now.sound in
    let under = standing_bounded (view tables) c.args.system c.in_ok-old.old sound.money (here_from_slice _ _ c.args.system c.in_ok-old.old c.deref.ensures.value c.in_ok-old.ensures.there) in
    omega (arith, sound.money.1, under, c.in_ok-bound-2.ensures.within)

pub overflow_add-net : goal.overflow_add-net
overflow_add-net g c =
    let sound = sound_from_fact (view c.args.self.now.tables) c.args.self.now.sound in
    omega (arith, sound.money.1, c.in_ok-bound-2.ensures.within)
