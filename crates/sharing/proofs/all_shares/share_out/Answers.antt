use Rattle.std.proofs.Common.{◌≡◌, ◌-◌, ◌<◌, ◌++◌, drop, length, replicate, Ok, sum, ap, ◌∙◌, arith}
use Rattle.std.proofs.lemmas.Bool.Decides.{nat_tests}
use Rattle.sharing.specs.Sharing.{all_shares}
use Rattle.sharing.specs.ShareOut.{in_places}
use Rattle.sharing.proofs.Answering.{sharable_from_ok, share_from_ok, shared_out_from_sharable}
use Rattle.sharing.proofs.Placing.{length-front, placed_all, placed_more, sum_placed}
use Rattle.sharing.proofs.SharingLaws.{shares_add_up}
use Rattle.sharing.proofs.all_shares.share_out.Goals as goal

pub loop-position-preserved : goal.loop-position-preserved
loop-position-preserved g c =
    let longest = g.R.SharingRule.LONGEST in
    let share = g.R.SharingRule.share c.args.rule.now in
    let ws = c.args.weights.now in
    let i = c.loop-position.position in
    let front = length-front g.row.N (length ws) (omega arith) in
    let told = c.in_ok-share.ensures in
    let value = share_from_ok longest c.args.amount ws _ share _ told in
    (placed_more (share c.args.amount ws) (length ws) i _ _ (omega arith) c.loop-position.invariant.0 (omega arith), λ _. sharable_from_ok longest c.args.amount ws _ share _ told)

pub returns : goal.returns
returns g c =
    let longest = g.R.SharingRule.LONGEST in
    let share = g.R.SharingRule.share c.args.rule.now in
    let law = g.met.R.SharingRule.sharing c.args.rule.now in
    let amount = c.args.amount in
    let ws = c.args.weights.now in
    let front = length-front g.row.N (length ws) (omega arith) in
    let end : c.loop-position.position ≡ length ws = omega arith in
    let some : 0 < length ws = grind (arith, nat_tests) in
    let sharable = c.loop-position.invariant.1 (omega arith) in
    let filled : c.loop-position.share-items ++ drop (length ws) (replicate g.row.N 0) ≡ in_places g.row.N (all_shares share amount ws) =
    placed_all (share amount ws) g.row.N (length ws) c.loop-position.position c.loop-position.share-items end c.loop-position.invariant.0 in
    let whole = sum_placed (all_shares share amount ws) (g.row.N - length (all_shares share amount ws)) in
    record {
      pinned = ap Ok filled ∙ shared_out_from_sharable g.row.N longest amount ws share sharable some (omega arith);
      whole = ap sum filled ∙ whole ∙ shares_add_up longest share law amount ws sharable;
    }
