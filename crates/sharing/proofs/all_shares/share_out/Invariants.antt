use Rattle.std.proofs.Common.{◌≡◌, ◌-◌, ◌<◌, ◌++◌, length, map, replicate}
use Rattle.std.specs.List.{range_with_len}
use Rattle.sharing.specs.Sharing.{Sharable}
use Rattle.sharing.proofs.all_shares.share_out.Given as goal

abbrev pub invariant-loop-position : goal.invariant-loop-position
invariant-loop-position g l =
    (l.share-items ≡ map (g.R.SharingRule.share l.rule l.amount l.weights) (range_with_len 0 l.position) ++ replicate (length l.weights - l.position) 0)
    × (0 < l.position → Sharable g.R.SharingRule.LONGEST l.amount l.weights)
