use Rattle.std.proofs.Common.{rules}
use Rattle.std.proofs.iter.runs.Made.{chains}
use Rattle.std.proofs.lemmas.List.Sums.{sum_by-take-le}
use Rattle.sharing.proofs.admitted.Admitted.total_before.Goals as goal

pub sum-requires-clause-fits : goal.sum-requires-clause-fits
sum-requires-clause-fits c = let within = sum_by-take-le (λ x. x) c.args.self.now.weights.now c.args.end in search (rules, chains)

pub returns-clause-within : goal.returns-clause-within
returns-clause-within c = let within = sum_by-take-le (λ x. x) c.args.self.now.weights.now c.args.end in search (rules, chains)
