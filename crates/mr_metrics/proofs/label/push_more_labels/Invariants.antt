use Rattle.std.proofs.Common.{◌≡◌, ◌++◌, drop}
use Rattle.mr_metrics.specs.Exposition.{more_labels}
use Rattle.mr_metrics.proofs.label.push_more_labels.Given as goal

abbrev pub invariant-loop-label : goal.invariant-loop-label
invariant-loop-label l = l.text.items ++ more_labels (drop l.label-index l.labels) ≡ l.initial.text.items ++ more_labels l.labels
