use Rattle.year_model.proofs.EurosConserved.{categories_are_known}
use Rattle.year_model.proofs.laws.categories_are_known.Goals as goal

pub returns : goal.returns
returns c = categories_are_known
