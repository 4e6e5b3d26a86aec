use Rattle.std.proofs.Common.{◌≡◌, ◌++◌, drop}
use Rattle.mr_metrics.specs.Links.{link_samples}
use Rattle.mr_metrics.proofs.links.push_each_link.Given as goal

abbrev pub invariant-loop-row : goal.invariant-loop-row
invariant-loop-row l = l.text.items ++ link_samples l.name l.fact (drop l.row-index l.rows) ≡ l.initial.text.items ++ link_samples l.name l.fact l.rows
