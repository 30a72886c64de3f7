use Rattle.std.proofs.Common.{◌≡◌, rules}
use Rattle.rows.specs.Requests.{read_answer}
use Rattle.rows.proofs.Requested.{reads_exactly}
use Rattle.rows.proofs.request.RequestRow.read.Goals as goal

pub returns : goal.returns
unfolding read_answer
returns c =
    let row = c.args.row.now in
    let e : c.read_call.result ≡ read_answer row = search rules in
    record { answer = e; exactly = reads_exactly row _ e }
