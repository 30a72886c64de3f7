use Rattle.year_model.specs.Calls.{call_couple}
use Rattle.page.proofs.Reaching.{call_kept}
use Rattle.page.proofs.year.PageYear.couple.Goals as goal

pub invariant_of-self : goal.invariant_of-self
invariant_of-self c = call_kept _ _ (call_couple c.args.upper c.args.lower c.args.kw c.args.mwh) _ _ c.couple.ensures.kept c.couple.ensures.did.state c.self.invariant
