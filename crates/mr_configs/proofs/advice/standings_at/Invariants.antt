use Rattle.std.proofs.Common.{◌≡◌, map, take}
use Rattle.mr_configs.specs.Timeline.{standing_at}
use Rattle.mr_configs.proofs.advice.standings_at.Given as goal

abbrev pub invariant-loop-reading : goal.invariant-loop-reading
invariant-loop-reading l = l.standings.items ≡ map (standing_at l.schedule) (take l.reading-index l.readings)
