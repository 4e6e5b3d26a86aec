use Rattle.std.proofs.Common.{◌≡◌, ◌+◌, ◌*◌, ◌^◌, ◌≤◌, drop, sum}
use Rattle.mr_sightings.proofs.percentile.answers_in.Given as goal

-- those so far and those that are left are all
abbrev pub invariant-loop-count : goal.invariant-loop-count
invariant-loop-count l = record {
  all : l.answers + sum (drop l.count-index l.counts) ≡ sum l.counts;
  bound : l.answers ≤ l.count-index * 2 ^ 64;
}
