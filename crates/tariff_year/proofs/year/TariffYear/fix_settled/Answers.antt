use Rattle.std.proofs.Common.{◌-◌, ◌∙◌, get_or, vec_items, sym, ap, arith, rules}
use Rattle.refusal.specs.declared.ground.Ground.TheVariants.{UnknownCategory}
use Rattle.refusal.specs.Refusals.{refuse}
use Rattle.edition.specs.Editions.{percentages}
use Rattle.year_model.specs.declared.tables.System.{System}
use Rattle.year_model.specs.Sound.{no_system}
use Rattle.year_model.specs.Calls.{call_fix, reply_of, state_of}
use Rattle.year_model.specs.Fixes.{with_fixing}
use Rattle.year_model.specs.State.{State, view, with_system}
use Rattle.tariff_year.specs.Years.{makings}
use Rattle.year_model.proofs.Lookups.{entry_from_numbered}
use Rattle.tariff_year.proofs.FixCalls.{fix_accepted, fix_refused, row_not_refused}
use Rattle.tariff_year.proofs.Making.{kept_by, lawful}
use Rattle.tariff_year.proofs.year.TariffYear.fix_settled.Goals as goal

-- The edition knows the category of every system of the year.
pub returns-in_err-row : goal.returns-in_err-row
returns-in_err-row g c =
    let old = c.args.self.now in
    let known = g.E.Edition.known old.basis.edition in
    let percent = g.E.Edition.percent old.basis.edition in
    let x = c.args.old in
    let there = entry_from_numbered (vec_items old.tables.systems) c.args.system x c.requires.there in
    let here = sym (ap (λ (z : System). known z.category) (there.here no_system)) ∙ old.known (c.args.system - 1) (omega (arith, there.low, there.high)) in
    absurd (row_not_refused (known x.category) (percentages percent x.category) c.in_err-row.field-0.0 (refuse UnknownCategory 0) here c.in_err-row.ensures)

pub returns-in_err-fixing : goal.returns-in_err-fixing
returns-in_err-fixing g c =
    let old = c.args.self.now in
    let m = makings g.E.Edition g.R.SharingRule old.basis in
    let came = fix_refused m (view old.tables) c.args.system c.args.volumes.now c.args.old c.requires c.in_ok-row.row c.in_ok-row.ensures c.in_err-fixing.field-0.0 c.in_err-fixing.ensures.pinned in
    let replied = ap reply_of came in
    let stays = ap (state_of (view old.tables)) came in
    record { did = record { answered = search (rules, replied); state = search (rules, stays) }; kept = search rules }

pub index_mut-requires : goal.index_mut-requires
index_mut-requires g c =
    let tables = c.args.self.now.tables in
    let there = entry_from_numbered (vec_items tables.systems) c.args.system c.args.old c.requires.there in
    omega (arith, there.low, there.high, tables.systems.ok.0)

pub invariant_of-self : goal.invariant_of-self
invariant_of-self g c =
    let old = c.args.self.now in
    let m = makings g.E.Edition g.R.SharingRule old.basis in
    let law = lawful g.E.Edition g.R.SharingRule old.basis g.met.R.SharingRule.twelve (g.met.R.SharingRule.sharing old.basis.rule) (g.met.E.Edition.hundred old.basis.edition) in
    let s = view old.tables in
    let vs = c.args.volumes.now in
    let later : State = with_system s c.args.system (with_fixing c.args.old c.in_ok-fixing.fixing) in
    let came = fix_accepted m s c.args.system vs c.args.old c.requires c.in_ok-row.row c.in_ok-row.ensures c.in_ok-fixing.fixing c.in_ok-fixing.ensures.pinned in
    let kept = kept_by m law (call_fix c.args.system (get_or vs 0 0) (get_or vs 1 0) (get_or vs 2 0) (get_or vs 3 0)) s later (sym (ap (state_of s) came)) old.sound old.dated old.priced old.known in
    record { roomy = search rules; sound = kept.0; dated = kept.1; priced = kept.2; known = kept.3 }

pub returns : goal.returns
returns g c =
    let old = c.args.self.now in
    let m = makings g.E.Edition g.R.SharingRule old.basis in
    let came = fix_accepted m (view old.tables) c.args.system c.args.volumes.now c.args.old c.requires c.in_ok-row.row c.in_ok-row.ensures c.in_ok-fixing.fixing c.in_ok-fixing.ensures.pinned in
    let replied = ap reply_of came in
    let later = ap (state_of (view old.tables)) came in
    record { did = record { answered = search (rules, replied); state = search (rules, later) }; kept = search rules }
