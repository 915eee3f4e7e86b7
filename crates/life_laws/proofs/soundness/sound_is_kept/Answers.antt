use Rattle.life_laws.proofs.soundness.sound_is_kept.Goals as goal
use Rattle.life_laws.proofs.Laws.{sound-step, sound-reached}

pub returns : goal.returns
returns c = record { step = sound-step; always = sound-reached }
