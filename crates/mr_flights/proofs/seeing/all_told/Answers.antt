use Rattle.mr_flights.proofs.SeeingLemmas.{told_more}
use Rattle.mr_flights.specs.Scene.{scene_of}
use Rattle.mr_flights.proofs.seeing.all_told.Goals as goal

pub loop-one-preserved : goal.loop-one-preserved
loop-one-preserved c =
    told_more (scene_of c.args.scene.now) _ c.args.found.now _ _ c.loop-one.one-index _ c.told_of.result c.loop-one-test.true c.loop-one.invariant
    c.told_of.ensures c.in_ok-push.ensures.items
