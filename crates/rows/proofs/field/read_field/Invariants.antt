use Rattle.rows.proofs.Columns.{Read}
use Rattle.rows.proofs.field.read_field.Given as goal

abbrev pub invariant-loop-i : goal.invariant-loop-i
invariant-loop-i l = Read 10 l.columns l.i l.value
