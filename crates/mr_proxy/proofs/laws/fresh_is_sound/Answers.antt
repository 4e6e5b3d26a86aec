use Rattle.mr_proxy.proofs.SoundLemmas.{fresh_sound}
use Rattle.mr_proxy.proofs.laws.fresh_is_sound.Goals as goal

pub returns : goal.returns
returns c = fresh_sound
