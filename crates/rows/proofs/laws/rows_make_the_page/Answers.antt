use Rattle.rows.proofs.Paged.{rows_joined, rows_ended}
use Rattle.rows.proofs.laws.rows_make_the_page.Goals as goal

pub returns : goal.returns
returns c = λ page. (rows_joined page, rows_ended page)
