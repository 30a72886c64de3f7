use Rattle.std.proofs.Common.{◌≡◌, false, length, sym, ◌∙◌, rules}
use Rattle.passing.specs.Passing.{nothing_to_go_by, out_of_bounds, received, too_many_takers}
use Rattle.passing.proofs.Passes.{passable, received_adds_up, received_near, worked_out_from_tests}
use Rattle.passing.proofs.Places.{placed_at, sum_in_places}
use Rattle.passing.proofs.work_out.work_out_pass.Goals as goal

pub returns : goal.returns
returns g c =
    let longest = g.R.SharingRule.LONGEST in
    let share = g.R.SharingRule.share c.args.rule.now in
    let law = g.met.R.SharingRule.sharing c.args.rule.now in
    let twelve = g.met.R.SharingRule.twelve in
    let amount = c.args.figures.now.amount in
    let permille = c.args.figures.now.permille in
    let kws = c.args.figures.now.kws.now in
    let mwhs = c.args.figures.now.mwhs.now in
    let bounds : out_of_bounds amount permille kws mwhs ≡ false = search rules in
    let few : too_many_takers longest (length kws) ≡ false = search rules in
    let weight : nothing_to_go_by permille kws mwhs ≡ false = search rules in
    let able = passable longest amount permille kws mwhs bounds few weight in
    let whole = sum_in_places (received share amount permille kws mwhs) 32 (length kws) ∙ received_adds_up longest share law twelve amount permille kws mwhs able in
    record {
      pinned = c.divide.ensures ∙ sym (worked_out_from_tests longest share amount permille kws mwhs bounds few weight);
      nothing_is_lost = rw c.divide.ensures whole;
      near_the_proportion = rw c.divide.ensures (λ taker h. rw (placed_at (received share amount permille kws mwhs) 32 (length kws) taker h) (received_near longest share law twelve amount permille kws mwhs able taker h));
    }
