use Rattle.rows.proofs.Faulted.{letters_told, lengths_told, fields_told}
use Rattle.rows.proofs.laws.faults_say_what_is_wrong.Goals as goal

pub returns : goal.returns
returns c = record { letters = letters_told; lengths = lengths_told; fields = fields_told }
