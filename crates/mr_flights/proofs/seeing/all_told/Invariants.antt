use Rattle.std.proofs.Common.{take}
use Rattle.mr_flights.specs.Scene.{scene_of}
use Rattle.mr_flights.specs.Seeing.{AreTold}
use Rattle.mr_flights.proofs.seeing.all_told.Given as goal

abbrev pub invariant-loop-one : goal.invariant-loop-one
invariant-loop-one l = AreTold (scene_of l.scene) l.canary.notebook.keys (take l.one-index l.found) l.all.items
