use Rattle.std.proofs.Common.{Ok, ap}
use Rattle.passing.proofs.Parts.{empty_column}
use Rattle.passing.proofs.columns.share_column.Goals as goal

pub returns-then-factor-eq0 : goal.returns-then-factor-eq0
returns-then-factor-eq0 g c =
    ap Ok (empty_column (g.R.SharingRule.share c.args.rule.now) c.args.factor c.args.part c.args.weights.now c.if-factor-eq0.true c.requires.room)
