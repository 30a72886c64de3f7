use Rattle.sharing.proofs.SharingLaws.{shares_add_up, no_weight_no_share, no_share_above_the_amount}
use Rattle.sharing.proofs.laws.sharing_laws_hold.Goals as goal

pub returns : goal.returns
returns g c =
    let longest = g.R.SharingRule.LONGEST in
    let share = g.R.SharingRule.share c.args.rule.now in
    let law = g.met.R.SharingRule.sharing c.args.rule.now in
    record {
      shares_add_up = shares_add_up longest share law;
      no_weight_no_share = no_weight_no_share longest share law;
      no_share_above_the_amount = no_share_above_the_amount longest share law;
    }
