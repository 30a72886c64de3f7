use Rattle.std.proofs.Common.{ltb, ◌∙◌, rules, tests}
use Rattle.std.proofs.lemmas.Iterator.{YieldsList-from_slice}
use Rattle.std.proofs.lemmas.Iterator.Search.{any_from_yields_List}
use Rattle.sharing.proofs.Above.{above_any}
use Rattle.sharing.proofs.limits.any_above.Goals as goal

pub returns : goal.returns
returns c =
    any_from_yields_List (λ x. ltb c.args.limit x) _ _ _ c.any.ensures.ran (YieldsList-from_slice c.args.numbers.now cc) (λ x b q k. search (rules, tests))
    ∙ above_any c.args.limit c.args.numbers.now
