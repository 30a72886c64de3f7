use Rattle.year_model.specs.Calls.{call_open}
use Rattle.page.proofs.Reaching.{call_kept}
use Rattle.page.proofs.year.PageYear.open.Goals as goal

pub invariant_of-self : goal.invariant_of-self
invariant_of-self c = call_kept _ _ (call_open c.args.level c.args.category) _ _ c.«open».ensures.kept c.«open».ensures.did.state c.self.invariant
