use Rattle.where_it_goes.proofs.fraction.common_divisor.Given as goal

abbrev pub decreases-loop-smaller : goal.decreases-loop-smaller
decreases-loop-smaller l = l.smaller
