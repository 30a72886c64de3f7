use Rattle.std.proofs.Common.{ℕ, List, Ok, Result, ap, ◌∙◌}
use Rattle.std.specs.Result.{result_map_both}
use Rattle.refusal.specs.declared.refusal.Refusal.{Refusal}
use Rattle.billing.specs.Charges.{equal_months}
use Rattle.sharing.specs.Sharing.{all_shares}
use Rattle.year_model.specs.declared.tables.Contract.{Contract}
use Rattle.year_model.specs.State.{view}
use Rattle.year_model.proofs.SoundFact.{sound_from_fact}
use Rattle.tariff_year.proofs.AskedContracts.{asked_held}
use Rattle.tariff_year.proofs.year.TariffYear.portions.Goals as goal

pub portions_of-requires : goal.portions_of-requires
portions_of-requires g c =
    let s = view c.args.self.now.tables in
    let held = asked_held s (sound_from_fact s c.args.self.now.sound) c.args.number c.in_ok-contract.contract c.in_ok-contract.ensures in
    held.charge.3

pub returns : goal.returns
returns g c =
    let share = g.R.SharingRule.share c.args.self.now.basis.rule in
    ap (λ (xs : List ℕ). Ok xs) c.portions_of.ensures
    ∙ ap (λ (r : Result Contract Refusal). result_map_both (λ k. all_shares share k.yearly equal_months) (λ e. e) r) c.in_ok-contract.ensures
