use Rattle.std.proofs.Common.{◌<◌, sum, arith}
use Rattle.sharing.specs.RunningLaw.{part_rises}
use Rattle.sharing.proofs.running_rule.RunningSharingRule.share.Goals as goal

pub overflow_sub-result : goal.overflow_sub-result
overflow_sub-result c =
    let asked = c.in_ok-asked.asked in
    let some : 0 < sum asked.weights.now = omega (arith, asked.some, asked.whole) in
    omega (arith, part_rises asked.amount asked.weights.now some asked.position asked.within)
