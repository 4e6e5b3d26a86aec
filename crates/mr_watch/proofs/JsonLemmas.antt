-- There is no float in a look as JSON.
use Rattle.std.proofs.Common.{◌≡◌, ℕ, List, [], ◌∷◌, Option, Some, None, false, map, refl}
use Rattle.serde_json.specs.View.{items_of}
use Rattle.serde_json.specs.Written.{has_float, items_have_float}
use Rattle.mr_watch.specs.Json.{perhaps_json, unreached_json, reached_json, told_json, proxy_json, node_json, premises_json, next_at_json, next_json, apart_json, spread_json, look_json}
use Rattle.mr_watch.specs.Next.{next_of}
use Rattle.mr_watch.specs.Rate.{rate_of}
use Rattle.mr_watch.specs.Spread.{all_ahead, spread_in}
use Rattle.mr_watch.specs.declared.finding.Findings.{Findings}
use Rattle.mr_watch.specs.declared.look.NodeSeen.{NodeSeen}
use Rattle.mr_watch.specs.declared.look.ProxySeen.{ProxySeen}
use Rattle.mr_watch.specs.declared.next.Next.{Next}
use Rattle.mr_watch.specs.declared.spread.Spread.{Spread}
use Rattle.mr_watch.specs.declared.told.ProxyTold.{ProxyTold}
use Rattle.mr_watch.specs.declared.view.View.{View}

perhaps_no_float : (count : Option ℕ) → has_float (perhaps_json count) ≡ false
perhaps_no_float None = refl
perhaps_no_float (Some n) = refl

unreached_no_float : (address : List ℕ) → has_float (unreached_json address) ≡ false
unfolding unreached_json
unreached_no_float address = refl

reached_no_float : (address : List ℕ) (rate : Option ℕ) (told : ProxyTold) → has_float (reached_json address rate told) ≡ false
unfolding reached_json
reached_no_float address rate told = rw (perhaps_no_float told.clock, perhaps_no_float told.traffic.held_back, perhaps_no_float rate) refl

told_no_float : (address : List ℕ) (rate : Option ℕ) (told : Option ProxyTold) → has_float (told_json address rate told) ≡ false
told_no_float address rate None = unreached_no_float address
told_no_float address rate (Some told) = reached_no_float address rate told

proxies_no_float : (earlier proxies : List ProxySeen) → items_have_float (items_of (map (proxy_json earlier) proxies)) ≡ false
proxies_no_float earlier [] = refl
proxies_no_float earlier (proxy ∷ proxies) =
    rw (told_no_float proxy.address.now (rate_of earlier proxy) proxy.told, proxies_no_float earlier proxies) refl

node_no_float : (node : NodeSeen) → has_float (node_json node) ≡ false
unfolding node_json
node_no_float node = rw (perhaps_no_float node.hits, perhaps_no_float node.items) refl

nodes_no_float : (nodes : List NodeSeen) → items_have_float (items_of (map node_json nodes)) ≡ false
nodes_no_float [] = refl
nodes_no_float (node ∷ nodes) = rw (node_no_float node, nodes_no_float nodes) refl

premises_no_float : (findings : Findings) → has_float (premises_json findings) ≡ false
unfolding premises_json
premises_no_float findings = refl

next_at_no_float : (next : Next) → has_float (next_at_json next) ≡ false
unfolding next_at_json
next_at_no_float next = refl

next_no_float : (next : Option Next) → has_float (next_json next) ≡ false
next_no_float None = refl
next_no_float (Some next) = next_at_no_float next

apart_no_float : (spread : Spread) → has_float (apart_json spread) ≡ false
unfolding apart_json
apart_no_float spread = refl

spread_no_float : (spread : Option Spread) → has_float (spread_json spread) ≡ false
spread_no_float None = refl
spread_no_float (Some spread) = apart_no_float spread

pub look_no_float : (view : View) → has_float (look_json view) ≡ false
unfolding look_json
look_no_float view = rw (
  next_no_float (next_of view.schedule view.at),
  nodes_no_float view.look.nodes.now,
  premises_no_float view.findings,
  proxies_no_float view.earlier.now view.look.proxies.now,
  spread_no_float (spread_in (all_ahead view.look.proxies.now)),
) refl
