use Rattle.std.proofs.Common.{◌≤◌, vec_len}
use Rattle.number_lines.proofs.read.read_numbers.Given as goal

abbrev pub invariant-loop-index : goal.invariant-loop-index
invariant-loop-index l = vec_len l.numbers ≤ l.most
