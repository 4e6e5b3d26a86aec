use Rattle.std.proofs.Common.{◌≡◌, ◌||◌, map, drop, true}
use Rattle.serde_json.specs.View.{view}
use Rattle.mr_configs.specs.Fields.{Text}
use Rattle.mr_scripts.specs.Homes.{pools_at, values_name}
use Rattle.mr_scripts.specs.steps.HomeIndex.{has_name}
use Rattle.mr_scripts.specs.Setups.{pools_name}
use Rattle.mr_scripts.proofs.homes.index_of_nodes.Given as goal

abbrev pub invariant-loop-proxy : goal.invariant-loop-proxy
invariant-loop-proxy l =
    ((name : Text) →
    values_name (view l.common) (map view l.proxies) name
    ≡ (values_name (view l.common) (map view (drop l.proxy-index l.proxies)) name || has_name l.index name))
    × (l.has_common ≡ true → (name : Text) →
    (pools_name (pools_at (view l.common)) name || has_name l.index name) ≡ has_name l.index name)
