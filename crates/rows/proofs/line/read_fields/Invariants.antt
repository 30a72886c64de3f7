use Rattle.std.proofs.Common.{◌≡◌, length}
use Rattle.rows.proofs.Numbers.{ReadTo}
use Rattle.rows.proofs.line.read_fields.Given as goal

abbrev pub invariant-loop-i : goal.invariant-loop-i
invariant-loop-i g l = (length l.number-items ≡ length l.initial.number-items) × ReadTo l.row 0 l.number-items l.i
