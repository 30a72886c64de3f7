use Rattle.std.proofs.Common.{ℕ, ◌*◌, ◌%◌, Bool, map, ◌∙◌, of_calls, rules, tests}
use Rattle.std.specs.List.{enumerate_from}
use Rattle.std.proofs.lemmas.Iterator.{YieldsList-from_map, YieldsList-from_slice}
use Rattle.std.proofs.lemmas.Iterator.Adapters.{serves_from_places}
use Rattle.std.proofs.lemmas.Iterator.Consumers.{YieldsList-at, YieldsList-from_enumerate, YieldsList-from_filter, count_from_yields_List}
use Rattle.std.proofs.lemmas.List.Sums.{get_or-le-sum_by, length-filter}
use Rattle.sharing.specs.Greatest.{ahead, remainder}
use Rattle.sharing.proofs.Counted.{ranks_counted}
use Rattle.sharing.proofs.admitted.Admitted.rank.Goals as goal

pub count-requires-clause-can : goal.count-requires-clause-can
count-requires-clause-can c =
    let ws = c.args.self.now.weights.now in
    (((tt, serves_from_places (YieldsList-from_slice ws cc) (λ x q k. search (rules, tests)) (λ x k h e. let within = get_or-le-sum_by (λ x. x) ws k x.now h in search (rules, tests))), tt, search (rules, of_calls)), tt, search of_calls)

pub returns : goal.returns
returns c =
    let asked = c.args.self.now in
    let ws = asked.weights.now in
    let rest : ℕ → ℕ = λ w. asked.amount * w % asked.total in
    let test : ℕ × ℕ → Bool = λ p. ahead p.1 p.0 (remainder asked.amount ws asked.position) asked.position in
    count_from_yields_List c.filter.result _ c.count.ensures.ran
    (YieldsList-from_filter _ test (YieldsList-at c.filter.ensures.source (YieldsList-from_enumerate (YieldsList-at c.enumerate.ensures.source (YieldsList-from_map _ rest (YieldsList-at c.map.ensures.source (YieldsList-from_slice ws cc)) c.map.ensures.closure (λ x r q k. search (rules, tests)))) (cc))) c.filter.ensures.closure (λ x r q k. search (rules, tests)))
    ∙ length-filter test (enumerate_from 0 (map rest ws))
    ∙ ranks_counted asked.amount ws asked.total asked.whole asked.position
