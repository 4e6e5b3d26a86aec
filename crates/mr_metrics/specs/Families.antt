-- Families of one number, and of one text.
use Rattle.std.specs.Prelude.{ℕ, List, [], ◌++◌, Option, Some, None}
use Rattle.mr_metrics.specs.Exposition.{family_head, shown_sample, labelled_sample}
use Rattle.mr_metrics.specs.declared.exposition.Kind.{Kind}
use Rattle.mr_metrics.specs.declared.exposition.Kind.TheVariants.{Counter, Gauge}
use Rattle.mr_metrics.specs.declared.number.Number.TheVariants.{Whole}

-- a family of one number, without labels
abbrev pub one_number : List ℕ → List ℕ → Kind → ℕ → List ℕ
one_number name help kind number = family_head name help kind ++ shown_sample name [] (Whole number)

-- a family of one number that rises and falls; without a sample where there is no number
abbrev pub perhaps_number : List ℕ → List ℕ → Option ℕ → List ℕ
perhaps_number name help (Some number) = one_number name help Gauge number
perhaps_number name help None = family_head name help Gauge

-- a family that tells a text: its one sample has the text in a label, and is always 1
abbrev pub info : List ℕ → List ℕ → List ℕ → List ℕ → List ℕ
info name help label value = family_head name help Gauge ++ labelled_sample name label value (Whole 1)

-- a counter of two counts, each at a value of a label
abbrev pub two_counts : List ℕ → List ℕ → List ℕ → List ℕ → ℕ → List ℕ → ℕ → List ℕ
two_counts name help label first a second b =
    family_head name help Counter ++ (labelled_sample name label first (Whole a) ++ labelled_sample name label second (Whole b))
