use Rattle.std.proofs.Common.{rules}
use Rattle.page_input.proofs.Filling.{filled_at_first, filled_on, filled_to_end, filled_whole}
use Rattle.page_input.proofs.fill.Goals as goal

pub loop-filled-init : goal.loop-filled-init
loop-filled-init g c = filled_at_first (g.R.Read.remaining c.args.input.now) c.args.page.now

pub loop-filled-preserved : goal.loop-filled-preserved
loop-filled-preserved g c =
    let read = c.in_ok-count.ensures in
    filled_on _ _ _ _ c.loop-filled.page _ _ _ c.loop-filled.invariant (search rules) read.front read.fits read.came

pub returns-after-loop-filled-clause-within : goal.returns-after-loop-filled-clause-within
returns-after-loop-filled-clause-within g c = c.loop-filled.invariant.within

pub returns-after-loop-filled-clause-first : goal.returns-after-loop-filled-clause-first
returns-after-loop-filled-clause-first g c = filled_whole _ _ _ _ _ c.loop-filled.invariant (search rules)

pub returns-then-count-eq0-clause-first : goal.returns-then-count-eq0-clause-first
returns-then-count-eq0-clause-first g c =
    let read = c.in_ok-count.ensures in
    filled_to_end _ _ _ _ c.loop-filled.page _ _ _ c.loop-filled.invariant (search rules) read.front read.fits read.came c.if-count-eq0.true (read.end c.if-count-eq0.true)
