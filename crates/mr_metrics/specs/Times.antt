-- How long something took, as a histogram.
use Rattle.std.specs.Prelude.{ℕ, List, [], ◌∷◌, ◌++◌, ◌+◌, ◌-◌, ◌^◌, min, codes}
use Rattle.mr_metrics.specs.Exposition.{family_head, labelled_sample, shown_sample}
use Rattle.mr_metrics.specs.declared.exposition.Kind.TheVariants.{Histogram}
use Rattle.mr_metrics.specs.declared.number.Number.TheVariants.{Whole, Micros}
use Rattle.mr_metrics.specs.declared.times.Bucket.{Bucket}
use Rattle.mr_metrics.specs.declared.times.Times.{Times}

-- so many and these, as far as 64 bits count
abbrev pub with_count : ℕ → ℕ → ℕ
with_count so_far count = min (so_far + count) (2 ^ 64 - 1)

-- how often it took no longer than a bound
abbrev pub bucket_sample : List ℕ → List ℕ → ℕ → List ℕ
bucket_sample name bound count = labelled_sample (name ++ codes "_bucket") (codes "le") bound (Whole count)

-- the sample of each bound, by rising bounds, where it took no longer than the bounds before so often
-- (from: Prometheus's text exposition format 0.0.4)
abbrev pub bucket_samples : List ℕ → ℕ → List Bucket → List ℕ
bucket_samples name so_far [] = []
bucket_samples name so_far (bucket ∷ buckets) =
    bucket_sample name bucket.bound.now (with_count so_far bucket.count) ++ bucket_samples name (with_count so_far bucket.count) buckets

-- how often it was in all
abbrev pub counted : ℕ → List Bucket → ℕ
counted so_far [] = so_far
counted so_far (bucket ∷ buckets) = counted (with_count so_far bucket.count) buckets

-- the histogram: how often it took no longer than each bound, how long it took in all, and how often it was
-- (from: Prometheus's text exposition format 0.0.4)
abbrev pub histogram : List ℕ → List ℕ → Times → List ℕ
histogram name help times =
    family_head name help Histogram
    ++ (bucket_samples name 0 times.buckets.now
    ++ (shown_sample (name ++ codes "_sum") [] (Micros times.micros)
    ++ shown_sample (name ++ codes "_count") [] (Whole (counted 0 times.buckets.now))))
