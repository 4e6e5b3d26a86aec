use Rattle.mr_canary.specs.steps.Watched.{fresh_watched}
use Rattle.mr_canary.proofs.KeysLemmas.{replicate_more}
use Rattle.mr_canary.proofs.judge.fresh_keys.Goals as goal

pub loop-preserved : goal.loop-preserved
loop-preserved c =
    rw (c.in_ok-push.ensures.items, c.loop.invariant, c.new.ensures) (replicate_more c.loop.counter fresh_watched)
