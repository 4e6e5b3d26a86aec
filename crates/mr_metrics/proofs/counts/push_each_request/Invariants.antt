use Rattle.std.proofs.Common.{◌≡◌, ◌++◌, drop}
use Rattle.mr_metrics.specs.Counts.{request_samples}
use Rattle.mr_metrics.proofs.counts.push_each_request.Given as goal

abbrev pub invariant-loop-row : goal.invariant-loop-row
invariant-loop-row l = l.text.items ++ request_samples l.name (drop l.row-index l.rows) ≡ l.initial.text.items ++ request_samples l.name l.rows
