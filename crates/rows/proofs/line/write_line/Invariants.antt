use Rattle.std.proofs.Common.{◌≡◌}
use Rattle.rows.proofs.Lined.{wrote}
use Rattle.rows.proofs.line.write_line.Given as goal

abbrev pub invariant-loop-i : goal.invariant-loop-i
invariant-loop-i l = l.buffer ≡ wrote l.letter l.numbers l.initial.buffer l.i
