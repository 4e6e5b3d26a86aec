use Rattle.std.proofs.Common.{◌≡◌, drop}
use Rattle.std.specs.Prelude.{slice_get}
use Rattle.mr_sightings.specs.Percentile.{each_place}
use Rattle.mr_sightings.proofs.percentile.place_behind.Given as goal

-- the answer lies in what is left, behind so many
abbrev pub invariant-loop-count : goal.invariant-loop-count
invariant-loop-count l = record {
  place : l.place ≡ l.count-index;
  answer : slice_get (each_place l.place (drop l.count-index l.counts)) l.left ≡ slice_get (each_place 0 l.counts) l.before;
}
