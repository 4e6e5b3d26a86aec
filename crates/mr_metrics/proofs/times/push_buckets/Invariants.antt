use Rattle.std.proofs.Common.{◌≡◌, ◌++◌, drop}
use Rattle.mr_metrics.specs.Times.{bucket_samples, counted}
use Rattle.mr_metrics.proofs.times.push_buckets.Given as goal

abbrev pub invariant-loop-bucket : goal.invariant-loop-bucket
invariant-loop-bucket l =
    (l.text.items ++ bucket_samples l.name l.count (drop l.bucket-index l.buckets) ≡ l.initial.text.items ++ bucket_samples l.name 0 l.buckets)
    × (counted l.count (drop l.bucket-index l.buckets) ≡ counted 0 l.buckets)
