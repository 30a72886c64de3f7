use Rattle.year_model.proofs.DraftsSpent.{drafts_stay_spendable, spendable_drafts_are_accepted}
use Rattle.year_model.proofs.laws.drafts_are_spent_once.Goals as goal

pub returns : goal.returns
returns c = record { accepted = spendable_drafts_are_accepted; stay = drafts_stay_spendable }
