use Rattle.std.proofs.Common.{◌≡◌, ◌++◌, map, drop}
use Rattle.serde_json.specs.View.{view}
use Rattle.mr_watch.specs.Json.{proxy_json}
use Rattle.mr_watch.proofs.json.proxies_value.Given as goal

abbrev pub invariant-loop-proxy : goal.invariant-loop-proxy
invariant-loop-proxy l = map view l.values.items ++ map (proxy_json l.earlier) (drop l.proxy-index l.proxies) ≡ map (proxy_json l.earlier) l.proxies
