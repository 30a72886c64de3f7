use Rattle.std.proofs.Common.{rules}
use Rattle.std.proofs.iter.runs.Made.{chains}
use Rattle.billing.proofs.FixingLaws.{some_unfit}
use Rattle.billing.proofs.fixings.are_volumes_unfit.Goals as goal

pub returns : goal.returns
returns c = some_unfit c.any.result c.args.percentages.now c.args.volumes.now (λ none i h. search (rules, chains)) (λ some. search (rules, chains))
