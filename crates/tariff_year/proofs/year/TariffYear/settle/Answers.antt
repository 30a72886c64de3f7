use Rattle.std.proofs.Common.{◌≡◌, sym, ap, ◌∙◌, arith}
use Rattle.year_model.specs.Makings.{Makings}
use Rattle.year_model.specs.Passes.{first_obstacle, landed_in_turn, numbers, passed_in_turn}
use Rattle.year_model.specs.State.{State, view}
use Rattle.year_model.proofs.SoundFact.{sound_from_fact}
use Rattle.tariff_year.specs.Turns.{turns}
use Rattle.tariff_year.specs.Years.{makings}
use Rattle.tariff_year.proofs.InTurn.{did_settle, free_in_turn, level_lands, level_more, levels_before}
use Rattle.tariff_year.proofs.Making.{lawful}
use Rattle.tariff_year.proofs.OneTurn.{same_told}
use Rattle.tariff_year.proofs.year.TariffYear.settle.Goals as goal

pub settle_level-requires : goal.settle_level-requires
settle_level-requires g c =
    let old = c.args.self.now in
    let now = c.loop-level.self in
    let m = makings g.E.Edition g.R.SharingRule old.basis in
    let law = lawful g.E.Edition g.R.SharingRule old.basis g.met.R.SharingRule.twelve (g.met.R.SharingRule.sharing old.basis.rule) (g.met.E.Edition.hundred old.basis.edition) in
    let s = view old.tables in
    let t = view now.tables in
    let kept = c.loop-level.invariant.3 in
    let same = ap (makings g.E.Edition g.R.SharingRule) kept in
    ap (λ (n : Makings). first_obstacle n t (numbers t)) same
    ∙ ap (λ (w : State). first_obstacle m w (numbers w)) c.loop-level.invariant.0
    ∙ free_in_turn m law s (sound_from_fact s old.sound) (levels_before s c.loop-level.level) (sym c.in_default.ensures)

pub loop-level-preserved : goal.loop-level-preserved
loop-level-preserved g c =
    let old = c.args.self.now in
    let now = c.loop-level.self in
    let m = makings g.E.Edition g.R.SharingRule old.basis in
    let law = lawful g.E.Edition g.R.SharingRule old.basis g.met.R.SharingRule.twelve (g.met.R.SharingRule.sharing old.basis.rule) (g.met.E.Edition.hundred old.basis.edition) in
    let s = view old.tables in
    let v = sound_from_fact s old.sound in
    let t = view now.tables in
    let u = view c.settle_level.new.self.tables in
    let level = c.loop-level.level in
    let low = c.loop-level.auto.level in
    let more = c.in_ok-landed.field-0 in
    let inv = c.loop-level.invariant in
    let kept = inv.3 in
    let keeps = c.settle_level.ensures.kept in
    let same = ap (makings g.E.Edition g.R.SharingRule) kept in
    let led = c.settle_level.ensures.state ∙ ap (λ (n : Makings). passed_in_turn n t (turns t level)) same in
    let lands = same_told more _ c.in_ok-landed.ensures.told ∙ ap (λ (n : Makings). landed_in_turn n t (turns t level)) same in (
      level_more m law s v level low t inv.0 u led,
      level_lands m law s v level low t inv.0 c.loop-level.landed more inv.1 lands,
      omega (arith, inv.2, c.in_ok-landed.ensures.small),
      keeps ∙ kept,
    )

pub returns : goal.returns
returns g c =
    let old = c.args.self.now in
    let m = makings g.E.Edition g.R.SharingRule old.basis in
    let inv = c.loop-level.invariant in
    let end : c.loop-level.level ≡ 8 = omega (arith, c.loop-level-test.false, c.loop-level.auto.level-end (omega arith)) in
    record {
      did = did_settle m (view old.tables) (view c.loop-level.self.tables) (sym c.in_default.ensures) c.loop-level.level c.loop-level.landed end inv.0 inv.1;
      kept = inv.3;
    }
