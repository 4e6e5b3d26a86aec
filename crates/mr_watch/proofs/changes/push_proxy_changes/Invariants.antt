use Rattle.std.proofs.Common.{◌≡◌, ◌++◌, drop}
use Rattle.mr_watch.specs.Changes.{proxy_changes}
use Rattle.mr_watch.proofs.changes.push_proxy_changes.Given as goal

abbrev pub invariant-loop-proxy : goal.invariant-loop-proxy
invariant-loop-proxy l =
    l.text.items ++ proxy_changes l.at l.earlier (drop l.proxy-index l.proxies) ≡ l.initial.text.items ++ proxy_changes l.at l.earlier l.proxies
