use Rattle.std.proofs.Common.{ℕ, ◌*◌, ◌/◌, arith, rules, tests}
use Rattle.std.proofs.lemmas.Iterator.{YieldsList-from_map, YieldsList-from_slice}
use Rattle.std.proofs.lemmas.Iterator.Adapters.{serves_from_places}
use Rattle.std.proofs.lemmas.Iterator.Consumers.{YieldsList-at, fits_by_from_yields_list}
use Rattle.std.proofs.lemmas.List.Sums.{get_or-le-sum_by}
use Rattle.sharing.proofs.Counted.{parts_within}
use Rattle.sharing.proofs.admitted.Admitted.rounded_parts.Goals as goal

pub sum-requires-clause-can : goal.sum-requires-clause-can
sum-requires-clause-can c =
    let ws = c.args.self.now.weights.now in
    (tt, serves_from_places (YieldsList-from_slice ws cc) (λ x q k. search (rules, tests)) (λ x k h e. let within = get_or-le-sum_by (λ x. x) ws k x.now h in search (rules, tests)))

pub sum-requires-clause-fits : goal.sum-requires-clause-fits
sum-requires-clause-fits c =
    let asked = c.args.self.now in
    let ws = asked.weights.now in
    let part : ℕ → ℕ = λ w. asked.amount * w / asked.total in
    let within = parts_within asked.amount ws asked.total asked.whole asked.some in
    fits_by_from_yields_list part ws c.map.result _ (YieldsList-from_map _ part (YieldsList-at c.map.ensures.source (YieldsList-from_slice ws cc)) c.map.ensures.closure (λ x r q k. search (rules, tests))) (omega arith)
