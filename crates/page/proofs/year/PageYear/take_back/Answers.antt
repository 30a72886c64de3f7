use Rattle.year_model.specs.Calls.{call_take_back}
use Rattle.page.proofs.Reaching.{call_kept}
use Rattle.page.proofs.year.PageYear.take_back.Goals as goal

pub invariant_of-self : goal.invariant_of-self
invariant_of-self c = call_kept _ _ (call_take_back c.args.system c.args.euros) _ _ c.take_back.ensures.kept c.take_back.ensures.did.state c.self.invariant
