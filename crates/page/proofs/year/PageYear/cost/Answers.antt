use Rattle.year_model.specs.Calls.{call_cost}
use Rattle.page.proofs.Reaching.{call_kept}
use Rattle.page.proofs.year.PageYear.cost.Goals as goal

pub invariant_of-self : goal.invariant_of-self
invariant_of-self c = call_kept _ _ (call_cost c.args.system c.args.euros) _ _ c.cost.ensures.kept c.cost.ensures.did.state c.self.invariant
