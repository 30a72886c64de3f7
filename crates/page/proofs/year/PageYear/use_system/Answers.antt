use Rattle.year_model.specs.Calls.{call_use}
use Rattle.page.proofs.Reaching.{call_kept}
use Rattle.page.proofs.year.PageYear.use_system.Goals as goal

pub invariant_of-self : goal.invariant_of-self
invariant_of-self c = call_kept _ _ (call_use c.args.system c.args.kw c.args.mwh c.args.permille) _ _ c.use_system.ensures.kept c.use_system.ensures.did.state c.self.invariant
