use Rattle.mr_world.proofs.GroundLemmas.{stands}
use Rattle.mr_world.proofs.laws.secured_fleets_show_ground.Goals as goal

pub returns : goal.returns
returns c = stands (record { before_start = c.deletes_stay_before_start.ensures; before_middle = c.reads_stay_before_middle.ensures })
