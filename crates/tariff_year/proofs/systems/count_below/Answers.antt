use Rattle.std.proofs.Common.{ℕ, cond, nat_eq, arith, rules, tests}
use Rattle.std.proofs.lemmas.Iterator.{YieldsList-from_map, YieldsList-from_slice}
use Rattle.std.proofs.lemmas.Iterator.Consumers.{YieldsList-at, fits_by_from_yields_list}
use Rattle.std.proofs.lemmas.List.Sums.{count_by-le-length}
use Rattle.year_model.specs.declared.tables.Coupling.{Coupling}
use Rattle.tariff_year.proofs.systems.count_below.Goals as goal

pub sum-requires-clause-fits : goal.sum-requires-clause-fits
sum-requires-clause-fits c =
    let cs = c.args.couplings.now in
    let told : Coupling → ℕ = λ x. cond (nat_eq x.upper c.args.upper) 1 0 in
    fits_by_from_yields_list told cs c.map.result _ (YieldsList-from_map _ told (YieldsList-at c.map.ensures.source (YieldsList-from_slice cs cc)) c.map.ensures.closure (λ x r q k. search (rules, tests)))
    (omega (arith, count_by-le-length (λ (x : Coupling). nat_eq x.upper c.args.upper) cs))
