use Rattle.refusal.proofs.Numbering.{numbers_name_grounds}
use Rattle.refusal.proofs.ground.numbers_name_grounds.Goals as goal

pub returns : goal.returns
returns c = numbers_name_grounds
