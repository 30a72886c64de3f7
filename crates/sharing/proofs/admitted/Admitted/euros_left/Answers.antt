use Rattle.std.proofs.Common.{◌-◌, ap, ◌∙◌, arith}
use Rattle.sharing.proofs.Counted.{parts_counted, parts_within}
use Rattle.sharing.proofs.admitted.Admitted.euros_left.Goals as goal

pub overflow_sub-result : goal.overflow_sub-result
overflow_sub-result c =
    let asked = c.args.self.now in
    omega (arith, parts_within asked.amount asked.weights.now asked.total asked.whole asked.some)

pub returns : goal.returns
returns c =
    let asked = c.args.self.now in
    ap (λ n. asked.amount - n) (c.rounded_parts.ensures ∙ parts_counted asked.amount asked.weights.now asked.total asked.whole)
