use Rattle.std.proofs.Common.{◌≡◌, ℕ, ◌+◌, length, Ok, ap, ◌∙◌, arith}
use Rattle.year_model.specs.Makings.{Makings}
use Rattle.year_model.specs.Passes.{first_obstacle, landed_in_turn, numbers, passed_in_turn}
use Rattle.year_model.specs.State.{State, view}
use Rattle.year_model.proofs.SoundFact.{sound_from_fact}
use Rattle.tariff_year.specs.Turns.{turn_of}
use Rattle.tariff_year.specs.Years.{makings}
use Rattle.tariff_year.proofs.InTurn.{first_turns, free_in_turn, one_lands, one_more}
use Rattle.tariff_year.proofs.Making.{lawful}
use Rattle.tariff_year.proofs.OneTurn.{same_told}
use Rattle.tariff_year.proofs.year.TariffYear.settle_level.Goals as goal

pub settle_system-requires : goal.settle_system-requires
settle_system-requires g c =
    let old = c.args.self.now in
    let now = c.loop-index.self in
    let m = makings g.E.Edition g.R.SharingRule old.basis in
    let law = lawful g.E.Edition g.R.SharingRule old.basis g.met.R.SharingRule.twelve (g.met.R.SharingRule.sharing old.basis.rule) (g.met.E.Edition.hundred old.basis.edition) in
    let s = view old.tables in
    let t = view now.tables in
    let kept = c.loop-index.invariant.3 in
    let same = ap (makings g.E.Edition g.R.SharingRule) kept in
    ap (λ (n : Makings). first_obstacle n t (numbers t)) same
    ∙ ap (λ (w : State). first_obstacle m w (numbers w)) c.loop-index.invariant.0
    ∙ free_in_turn m law s (sound_from_fact s old.sound) (first_turns s c.args.level c.loop-index.index) c.requires

pub loop-index-preserved : goal.loop-index-preserved
loop-index-preserved g c =
    let old = c.args.self.now in
    let now = c.loop-index.self in
    let m = makings g.E.Edition g.R.SharingRule old.basis in
    let law = lawful g.E.Edition g.R.SharingRule old.basis g.met.R.SharingRule.twelve (g.met.R.SharingRule.sharing old.basis.rule) (g.met.E.Edition.hundred old.basis.edition) in
    let s = view old.tables in
    let v = sound_from_fact s old.sound in
    let t = view now.tables in
    let u = view c.settle_system.new.self.tables in
    let level = c.args.level in
    let i = c.loop-index.index in
    let more = c.in_ok-landed.field-0 in
    let inv = c.loop-index.invariant in
    let kept = inv.3 in
    let keeps = c.settle_system.ensures.kept in
    let same = ap (makings g.E.Edition g.R.SharingRule) kept in
    let led = c.settle_system.ensures.state ∙ ap (λ (n : Makings). passed_in_turn n t (turn_of t level (i + 1))) same in
    let lands = same_told more _ c.in_ok-landed.ensures.told ∙ ap (λ (n : Makings). landed_in_turn n t (turn_of t level (i + 1))) same in (
      one_more m law s v level i t inv.0 u led,
      one_lands m law s v level i t inv.0 c.loop-index.landed more inv.1 lands,
      omega (arith, inv.2, c.in_ok-landed.ensures.small),
      keeps ∙ kept,
    )

pub returns : goal.returns
returns g c =
    let old = c.args.self.now in
    let m = makings g.E.Edition g.R.SharingRule old.basis in
    let s = view old.tables in
    let level = c.args.level in
    let inv = c.loop-index.invariant in
    let end : c.loop-index.index ≡ length s.systems = omega (arith, c.len-index-end.ensures, c.loop-index-test.false, c.loop-index.auto.index-end, old.tables.systems.ok.0) in
    let few = (sound_from_fact s old.sound).tables.0 in
    record {
      told = ap (λ (k : ℕ). Ok k) (inv.1 ∙ ap (λ (k : ℕ). landed_in_turn m s (first_turns s level k)) end);
      small = omega (arith, inv.2);
      state = inv.0 ∙ ap (λ (k : ℕ). passed_in_turn m s (first_turns s level k)) end;
      kept = inv.3;
    }
