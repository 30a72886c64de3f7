use Rattle.std.proofs.Common.{ℕ, ◌+◌, List, length, Some, None, sym, ap, ◌∙◌, arith}
use Rattle.std.proofs.lemmas.List.{take_all}
use Rattle.std.proofs.lemmas.Bool.{cond-false, cond-true}
use Rattle.refusal.specs.declared.ground.Ground.TheVariants.{ListTooLong, NoWeight}
use Rattle.refusal.specs.declared.refusal.Refusal.{Refusal}
use Rattle.refusal.specs.Refusals.{refuse}
use Rattle.sharing.specs.Limits.{above}
use Rattle.year_model.specs.declared.tables.Coupling.{Coupling}
use Rattle.tariff_year.specs.Obstacles.{kws_of, mwhs_of}
use Rattle.tariff_year.proofs.FirstWay.{at_index, has_more, search_end, search_fixed, search_found, search_free, takers_within, too_many, way_by_flags}
use Rattle.tariff_year.proofs.Gathering.{counted_more, gathered_same}
use Rattle.tariff_year.proofs.obstacles.first_obstacle.Goals as goal
use Rattle.tariff_year.proofs.obstacles.first_obstacle.Goals.{then-coupling-number+else-takers-longest, else-coupling-number}

abbrev kw_of : Coupling → ℕ
kw_of c = c.kw

abbrev mwh_of : Coupling → ℕ
mwh_of c = c.mwh

pub loop-index-preserved-then-is_some : goal.loop-index-preserved-then-is_some
loop-index-preserved-then-is_some c =
    search_fixed c.args.longest c.args.couplings.now c.args.systems.now c.loop-index.index c.loop-index-test.true (sym c.if-is_some.ensures) ∙ c.loop-index.invariant

pub overflow_add-takers : goal.overflow_add-takers
overflow_add-takers c =
    let x = at_index c.args.systems.now c.loop-index.index in
    let within = takers_within kw_of x.kw c.args.couplings.now (c.loop-index.index + 1) c.loop-coupling.coupling-index c.loop-coupling.takers c.loop-coupling.invariant.0 in
    omega (arith, c.requires.few)

pub loop-coupling-preserved : goal.loop-coupling-preserved
loop-coupling-preserved c =
    let cs = c.args.couplings.now in
    let x = at_index c.args.systems.now c.loop-index.index in
    let n = c.loop-index.index + 1 in
    let i = c.loop-coupling.coupling-index in
    let inside = c.loop-coupling-test.true in
    let inv = c.loop-coupling.invariant in
    elim c.if-coupling-number.branch [
      | then-coupling-number+else-takers-longest w ↦
          let here = w.if-coupling-number.true in (
            w.takers-is ∙ counted_more kw_of x.kw cs n i c.loop-coupling.takers inside here inv.0,
            omega (arith, w.takers-is, w.if-takers-longest.false),
            w.has_kw-is ∙ has_more kw_of x.kw cs n i c.loop-coupling.has_kw inside here inv.2,
            w.has_mwh-is ∙ has_more mwh_of x.mwh cs n i c.loop-coupling.has_mwh inside here inv.3,
          )
      | else-coupling-number w ↦
          let other = w.if-coupling-number.false in
          let kws = gathered_same kw_of x.kw cs n i inside other in
          let mwhs = gathered_same mwh_of x.mwh cs n i inside other in (
            w.takers-is ∙ inv.0 ∙ ap (λ (ks : List ℕ). length ks) (sym kws),
            omega (arith, w.takers-is, inv.1),
            w.has_kw-is ∙ inv.2 ∙ ap (above 0) (sym kws),
            w.has_mwh-is ∙ inv.3 ∙ ap (above 0) (sym mwhs),
          )
    ]

pub loop-index-preserved : goal.loop-index-preserved
loop-index-preserved c =
    let longest = c.args.longest in
    let cs = c.args.couplings.now in
    let xs = c.args.systems.now in
    let i = c.loop-index.index in
    let x = at_index xs i in
    let inv = c.loop-coupling.invariant in
    let whole = take_all c.loop-coupling.coupling-index cs c.loop-coupling-test.false in
    let count = inv.0 ∙ ap (λ (ds : List Coupling). length (kws_of ds (i + 1) x)) whole in
    let kws = inv.2 ∙ ap (λ (ds : List Coupling). above 0 (kws_of ds (i + 1) x)) whole in
    let mwhs = inv.3 ∙ ap (λ (ds : List Coupling). above 0 (mwhs_of ds (i + 1) x)) whole in
    let way = way_by_flags longest cs (i + 1) x c.loop-coupling.has_kw c.loop-coupling.has_mwh (omega (arith, inv.1)) kws mwhs in
    search_free longest cs xs i c.loop-index-test.true (sym c.if-is_some.ensures) (way ∙ cond-false _ (Some (refuse NoWeight (i + 1))) None (sym c.if-lacks_weight.ensures)) ∙ c.loop-index.invariant

pub returns-then-takers-longest : goal.returns-then-takers-longest
returns-then-takers-longest c =
    let longest = c.args.longest in
    let cs = c.args.couplings.now in
    let xs = c.args.systems.now in
    let i = c.loop-index.index in
    let stuck = too_many longest cs (i + 1) c.loop-coupling.coupling-index c.loop-coupling.takers (at_index xs i) c.loop-coupling-test.true c.if-coupling-number.true c.loop-coupling.invariant.0 c.if-takers-longest.true in
    ap (λ (r : Refusal). Some r) c.at.ensures ∙ search_found longest cs xs i (refuse ListTooLong (i + 1)) c.loop-index-test.true (sym c.if-is_some.ensures) stuck ∙ c.loop-index.invariant

pub returns-then-lacks_weight : goal.returns-then-lacks_weight
returns-then-lacks_weight c =
    let longest = c.args.longest in
    let cs = c.args.couplings.now in
    let xs = c.args.systems.now in
    let i = c.loop-index.index in
    let x = at_index xs i in
    let inv = c.loop-coupling.invariant in
    let whole = take_all c.loop-coupling.coupling-index cs c.loop-coupling-test.false in
    let count = inv.0 ∙ ap (λ (ds : List Coupling). length (kws_of ds (i + 1) x)) whole in
    let kws = inv.2 ∙ ap (λ (ds : List Coupling). above 0 (kws_of ds (i + 1) x)) whole in
    let mwhs = inv.3 ∙ ap (λ (ds : List Coupling). above 0 (mwhs_of ds (i + 1) x)) whole in
    let way = way_by_flags longest cs (i + 1) x c.loop-coupling.has_kw c.loop-coupling.has_mwh (omega (arith, inv.1)) kws mwhs in
    let stuck = way ∙ cond-true _ (Some (refuse NoWeight (i + 1))) None (sym c.if-lacks_weight.ensures) in
    ap (λ (r : Refusal). Some r) c.at-then-lacks_weight.ensures ∙ search_found longest cs xs i (refuse NoWeight (i + 1)) c.loop-index-test.true (sym c.if-is_some.ensures) stuck ∙ c.loop-index.invariant

pub returns-after-loop-index : goal.returns-after-loop-index
returns-after-loop-index c =
    search_end c.args.longest c.args.couplings.now c.args.systems.now c.loop-index.index c.loop-index-test.false ∙ c.loop-index.invariant
