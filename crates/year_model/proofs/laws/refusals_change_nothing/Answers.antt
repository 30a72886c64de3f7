use Rattle.year_model.proofs.Refused.{refusals_change_nothing}
use Rattle.year_model.proofs.laws.refusals_change_nothing.Goals as goal

pub returns : goal.returns
returns c = refusals_change_nothing
