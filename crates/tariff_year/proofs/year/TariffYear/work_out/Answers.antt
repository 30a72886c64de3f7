use Rattle.std.proofs.Common.{◌≡◌, List, ap, ◌∙◌, arith, rules}
use Rattle.year_model.specs.declared.tables.Coupling.{Coupling}
use Rattle.year_model.specs.State.{view}
use Rattle.year_model.specs.Systems.{below_count}
use Rattle.year_model.proofs.SoundFact.{sound_from_fact}
use Rattle.tariff_year.specs.Years.{makings}
use Rattle.tariff_year.proofs.WorkedOut.{pass_told, placed}
use Rattle.tariff_year.proofs.year.TariffYear.work_out.Goals as goal

pub gather-takers-requires : goal.gather-takers-requires
gather-takers-requires g c =
    let old = c.args.self.now in
    let sound = sound_from_fact (view old.tables) old.sound in
    let same = ap (λ (cs : List Coupling). below_count cs c.args.number) c.deref.ensures.value in
    omega (arith, sound.tables.2 c.args.number)

pub returns-clause-pinned : goal.returns-clause-pinned
returns-clause-pinned g c =
    let old = c.args.self.now in
    let m = makings g.E.Edition g.R.SharingRule old.basis in
    let s = view old.tables in
    let gathered = c.gather-takers in
    let same : c.map_err.result ≡ placed c.args.number c.work_out_pass.result = search rules in
    same
    ∙ pass_told m s (sound_from_fact s old.sound) c.args.number c.args.system c.requires c.deref.result.now c.deref.ensures.value
    c.as_slice.result.now c.as_slice-2.result.now (cc) (cc)
    c.work_out_pass.result c.work_out_pass.ensures.pinned
