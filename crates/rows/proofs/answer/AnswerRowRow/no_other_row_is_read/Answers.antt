use Rattle.rows.proofs.Answered.{answer_written, row_of_answer, same_from_answer_row}
use Rattle.rows.proofs.answer.AnswerRowRow.no_other_row_is_read.Goals as goal

pub returns : goal.returns
returns c = record { back = answer_written; only = row_of_answer; apart = same_from_answer_row }
