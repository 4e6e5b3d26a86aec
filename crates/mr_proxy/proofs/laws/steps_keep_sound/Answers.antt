use Rattle.mr_proxy.proofs.SoundLemmas.{steps_keep_sound_lem}
use Rattle.mr_proxy.proofs.laws.steps_keep_sound.Goals as goal

pub returns : goal.returns
returns c = steps_keep_sound_lem
