use Rattle.std.proofs.Common.{◌≡◌, false, length, rules}
use Rattle.billing.specs.declared.fixings.Fixing.{Fixing}
use Rattle.billing.specs.Fixings.{fixed_out, fixing_out_of_bounds, volumes_unfit}
use Rattle.billing.proofs.FixingLaws.{fixed_whole, used_volumes, within_bounds}
use Rattle.billing.proofs.fixings.work_out_fixing.Goals as goal

pub price_all-requires-clause-fit : goal.price_all-requires-clause-fit
price_all-requires-clause-fit g c =
    let fit : volumes_unfit c.args.percentages.now c.args.volumes.now ≡ false = search rules in
    used_volumes c.args.percentages.now c.args.volumes.now fit

pub returns-clause-landed_euros_come_back : goal.returns-clause-landed_euros_come_back
returns-clause-landed_euros_come_back g c =
    let share = g.R.SharingRule.share c.args.rule.now in
    let law = g.met.R.SharingRule.sharing c.args.rule.now in
    let twelve = g.met.R.SharingRule.twelve in
    let landed = c.args.landed in
    let percentages = c.args.percentages.now in
    let volumes = c.args.volumes.now in
    let bounds : fixing_out_of_bounds landed percentages volumes ≡ false = search rules in
    let fit : volumes_unfit percentages volumes ≡ false = search rules in
    let four : length percentages ≡ 4 = search rules in
    let within = within_bounds landed percentages volumes bounds in
    let fixing : Fixing = record { volumes = volumes; allotments = c.in_ok-allotments.allotments; tariffs = c.price_all.result.0; remainders = c.price_all.result.1 } in
    let told : fixing ≡ fixed_out share landed percentages volumes = search rules in
    rw told (fixed_whole _ share law twelve landed percentages volumes within.0 four within.1 fit)
