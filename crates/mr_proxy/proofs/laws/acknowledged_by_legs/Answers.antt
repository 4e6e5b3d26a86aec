use Rattle.mr_proxy.proofs.SoundLemmas.{acknowledged_by_legs_lem}
use Rattle.mr_proxy.proofs.laws.acknowledged_by_legs.Goals as goal

pub returns : goal.returns
returns c = acknowledged_by_legs_lem c.acknowledged_by_all.ensures
