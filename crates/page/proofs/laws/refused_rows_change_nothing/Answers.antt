use Rattle.page.proofs.Refusing.{refused_rows_change_nothing}
use Rattle.page.proofs.laws.refused_rows_change_nothing.Goals as goal

pub returns : goal.returns
returns c = refused_rows_change_nothing
