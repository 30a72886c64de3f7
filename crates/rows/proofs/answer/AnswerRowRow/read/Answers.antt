use Rattle.std.proofs.Common.{◌≡◌, rules}
use Rattle.rows.specs.Told.{answer_read}
use Rattle.rows.proofs.Answered.{answers_exactly}
use Rattle.rows.proofs.answer.AnswerRowRow.read.Goals as goal

pub returns-in-A : goal.returns-in-A
unfolding answer_read
returns-in-A c =
    let row = c.args.row.now in
    let e : c.map.result ≡ answer_read row = search rules in
    record { answer = e; exactly = answers_exactly row _ e }

pub returns-in-R : goal.returns-in-R
unfolding answer_read
returns-in-R c =
    let row = c.args.row.now in
    let e : c.read_refused.result ≡ answer_read row = search rules in
    record { answer = e; exactly = answers_exactly row _ e }
