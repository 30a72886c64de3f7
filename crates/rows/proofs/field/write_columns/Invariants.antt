use Rattle.rows.proofs.Columns.{Written}
use Rattle.rows.proofs.field.write_columns.Given as goal

abbrev pub invariant-loop-i : goal.invariant-loop-i
invariant-loop-i l = Written l.out l.value l.i l.rest
