use Rattle.std.proofs.Common.{◌≡◌, replicate}
use Rattle.mr_canary.specs.steps.Watched.{fresh_watched}
use Rattle.mr_canary.proofs.judge.fresh_keys.Given as goal

abbrev pub invariant-loop : goal.invariant-loop
invariant-loop l = l.fresh.items ≡ replicate l.counter fresh_watched
