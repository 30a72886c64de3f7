use Rattle.std.proofs.Common.{◌-◌, length}
use Rattle.page_input.proofs.Filling.{Filled}
use Rattle.page_input.proofs.fill.Given as goal

abbrev pub invariant-loop-filled : goal.invariant-loop-filled
invariant-loop-filled g l = Filled (g.R.Read.remaining l.initial.input) (g.R.Read.remaining l.input) (length l.initial.page) l.page l.filled

abbrev pub decreases-loop-filled : goal.decreases-loop-filled
decreases-loop-filled g l = length l.initial.page - l.filled
