use Rattle.std.proofs.Common.{◌≡◌, ℕ, List, take}
use Rattle.std.specs.List.{list_any}
use Rattle.mr_world.specs.Terms.{is_moved_to, is_among}
use Rattle.mr_world.proofs.terms.names_moved_to.Given as goal

-- the names that the proxies so far move to are there
abbrev pub invariant-loop-proxy : goal.invariant-loop-proxy
invariant-loop-proxy l = (name : List ℕ) → is_among l.names name ≡ list_any (λ proxy. is_moved_to proxy.routing.pools name) (take l.proxy-index l.proxies)
