use Rattle.year_model.proofs.DatedCalls.{dated_after, dated_state_after}
use Rattle.year_model.proofs.laws.calls_keep_terms_in_the_year.Goals as goal

pub returns : goal.returns
returns c = record { kept = dated_after; every_state = dated_state_after }
