use Rattle.year_model.proofs.Accounts.{costs_are_accounted_for}
use Rattle.year_model.proofs.laws.costs_are_accounted_for.Goals as goal

pub returns : goal.returns
returns c = costs_are_accounted_for
