use Rattle.rows.proofs.Spaced.{spaced}
use Rattle.rows.proofs.laws.fields_are_spaces_then_digits.Goals as goal

pub returns : goal.returns
returns c = spaced
