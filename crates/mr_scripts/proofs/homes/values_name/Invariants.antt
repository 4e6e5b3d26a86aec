use Rattle.std.proofs.Common.{◌≡◌, map, drop}
use Rattle.serde_json.specs.View.{view}
use Rattle.mr_scripts.specs.Homes.{values_name}
use Rattle.mr_scripts.proofs.homes.values_name.Given as goal

abbrev pub invariant-loop-proxy : goal.invariant-loop-proxy
invariant-loop-proxy l =
    values_name (view l.common) (map view l.proxies) l.name ≡ values_name (view l.common) (map view (drop l.proxy-index l.proxies)) l.name
