use Rattle.std.proofs.Common.{◌≡◌, map, arith, refl}
use Rattle.std.proofs.lemmas.Grind.{common_steps}
use Rattle.serde_json.proofs.Views.{view-Array}
use Rattle.serde_json.specs.View.{view}
use Rattle.mr_watch.specs.Json.{proxy_json}
use Rattle.mr_watch.proofs.json.proxies_value.Goals as goal

pub returns : goal.returns
returns c =
    let all : map view c.loop-proxy.values.items ≡ map (proxy_json c.args.earlier.now) c.args.proxies.now = grind (arith, common_steps, c.loop-proxy.invariant) in
    rw (view-Array, all) refl
