use Rattle.std.proofs.Common.{ℕ, List, is_ok, Result, sym, ap, ◌∙◌}
use Rattle.refusal.specs.declared.refusal.Refusal.{Refusal}
use Rattle.tariff_year.specs.Years.{makings}
use Rattle.tariff_year.proofs.Making.{lawful}
use Rattle.tariff_year.proofs.MonthShares.{month_shared_out, month_told}
use Rattle.tariff_year.proofs.year.TariffYear.shared_month.Goals as goal

pub unwrap-cents-requires : goal.unwrap-cents-requires
unwrap-cents-requires g c =
    let old = c.args.self.now in
    let m = makings g.E.Edition g.R.SharingRule old.basis in
    let law = lawful g.E.Edition g.R.SharingRule old.basis g.met.R.SharingRule.twelve (g.met.R.SharingRule.sharing old.basis.rule) (g.met.E.Edition.hundred old.basis.edition) in
    let shared = month_shared_out m law c.args.contract c.args.month c.requires c.month_to_share-portion.result.0 c.month_to_share-portion.result.1 c.month_to_share-portion.ensures.portion c.month_to_share-portion.ensures.days in
    ap (λ (r : Result (List ℕ) Refusal). is_ok r) (c.share_out.ensures.pinned ∙ shared)

pub returns : goal.returns
returns g c =
    let old = c.args.self.now in
    let m = makings g.E.Edition g.R.SharingRule old.basis in
    let law = lawful g.E.Edition g.R.SharingRule old.basis g.met.R.SharingRule.twelve (g.met.R.SharingRule.sharing old.basis.rule) (g.met.E.Edition.hundred old.basis.edition) in
    month_told m law c.args.contract c.args.month c.requires c.month_to_share-portion.result.0 c.month_to_share-portion.result.1 c.unwrap-cents.result c.month_to_share-portion.ensures.portion c.month_to_share-portion.ensures.days (sym c.share_out.ensures.pinned ∙ c.unwrap-cents.ensures)
