use Rattle.rows.proofs.Requested.{read_written, row_of_read, same_from_row}
use Rattle.rows.proofs.request.RequestRow.no_other_row_is_read.Goals as goal

pub returns : goal.returns
returns c = record { back = read_written; only = row_of_read; apart = same_from_row }
