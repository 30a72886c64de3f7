use Rattle.page.proofs.Fitting.{answers_fit}
use Rattle.page.proofs.laws.answers_fit.Goals as goal

pub returns : goal.returns
returns c = answers_fit
