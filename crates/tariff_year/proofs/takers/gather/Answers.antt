use Rattle.std.proofs.Common.{rules, tests, ◌≡◌, ℕ, List, ◌∷◌, map, sym, ap, ◌∙◌}
use Rattle.std.proofs.lemmas.Iterator.Consumers.{YieldsList-end}
use Rattle.std.proofs.lemmas.Simd.{map-map}
use Rattle.year_model.specs.declared.tables.Coupling.{Coupling}
use Rattle.tariff_year.specs.Takings.{leading_down}
use Rattle.tariff_year.proofs.Gathering.{below_yielded}
use Rattle.tariff_year.proofs.takers.gather.Goals as goal

-- The figures of the couplings that were yielded are those of all that lead down.
all_gathered : (c : goal.In-None) (f : Coupling → ℕ) → map (λ x. f x.now) c.loop-coupling.yielded ≡ map f (leading_down c.args.couplings.now c.args.upper)
all_gathered c f =
    let all =
    YieldsList-end (below_yielded c.args.couplings.now c.args.upper (cc) (cc) c.filter-below.ensures.closure (λ x r q k. search (rules, tests)))
    c.loop-coupling.yielded c.loop-coupling.coupling-iterator c.loop-coupling.yielded_by c.next.result c.next.new.self c.in-None.is c.next.ensures.steps in
    sym (map-map f (λ x. x.now) c.loop-coupling.yielded) ∙ ap (map f) all.0

pub returns-clause-kws : goal.returns-clause-kws
returns-clause-kws c = c.loop-coupling.invariant.0 ∙ ap (λ (ks : List ℕ). c.args.kw ∷ ks) (all_gathered c (λ x. x.kw))

pub returns-clause-mwhs : goal.returns-clause-mwhs
returns-clause-mwhs c = c.loop-coupling.invariant.1 ∙ ap (λ (ks : List ℕ). c.args.mwh ∷ ks) (all_gathered c (λ x. x.mwh))
