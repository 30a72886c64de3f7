use Rattle.year_model.proofs.SoundCalls.{sound_after, sound_state_after}
use Rattle.year_model.proofs.laws.calls_keep_the_year_sound.Goals as goal

pub returns : goal.returns
returns c = record { kept = sound_after; every_state = sound_state_after }
