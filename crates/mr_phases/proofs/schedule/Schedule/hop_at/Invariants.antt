use Rattle.std.proofs.Common.{◌≡◌, ◌<◌, ◌-◌, length, drop}
use Rattle.mr_phases.specs.Schedule.{standing_of}
use Rattle.mr_phases.proofs.WalkLemmas.{standing_past}
use Rattle.mr_phases.proofs.schedule.Schedule.hop_at.Given as goal

abbrev pub invariant-loop-number : goal.invariant-loop-number
invariant-loop-number l = (l.number < length l.self) × (standing_past l.number (drop l.number l.self) l.now ≡ standing_of l.self l.now)

abbrev pub decreases-loop-number : goal.decreases-loop-number
decreases-loop-number l = length l.self - l.number
