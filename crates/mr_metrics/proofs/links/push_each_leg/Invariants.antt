use Rattle.std.proofs.Common.{◌≡◌, ◌++◌, drop}
use Rattle.mr_metrics.specs.Links.{leg_samples}
use Rattle.mr_metrics.proofs.links.push_each_leg.Given as goal

abbrev pub invariant-loop-row : goal.invariant-loop-row
invariant-loop-row l = l.text.items ++ leg_samples l.name (drop l.row-index l.rows) ≡ l.initial.text.items ++ leg_samples l.name l.rows
