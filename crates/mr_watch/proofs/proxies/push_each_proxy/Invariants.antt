use Rattle.std.proofs.Common.{◌≡◌, ◌++◌, drop}
use Rattle.mr_watch.specs.Proxies.{proxy_lines}
use Rattle.mr_watch.proofs.proxies.push_each_proxy.Given as goal

abbrev pub invariant-loop-proxy : goal.invariant-loop-proxy
invariant-loop-proxy l =
    l.text.items ++ proxy_lines l.colours l.at l.moment l.earlier (drop l.proxy-index l.proxies)
    ≡ l.initial.text.items ++ proxy_lines l.colours l.at l.moment l.earlier l.proxies
