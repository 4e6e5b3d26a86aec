use Rattle.std.proofs.Common.{◌≡◌, ◌++◌, drop}
use Rattle.mr_looks.specs.WatchText.{unreached_lines}
use Rattle.mr_looks.proofs.last_lines.push_all_unreached.Given as goal

abbrev pub invariant-loop-service : goal.invariant-loop-service
invariant-loop-service l =
    l.text.items ++ unreached_lines (drop l.service-index l.services)
    ≡ l.initial.text.items ++ unreached_lines l.services
