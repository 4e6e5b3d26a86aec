-- The services that ran, as contracts see them.
use Rattle.std.specs.Prelude.{ℕ, Option}
use Rattle.mr_pools.specs.Routing.{RoutingView}
use Rattle.mr_proxy.specs.ProxyView.{ProxyView}
use Rattle.mr_sockets.specs.SeededNode.{SeededView}

-- what each connection is served by
pub data Serving : Type 0 where
  -- a node as it was at first, where that is known, with the most reads of a connection
  NodeServing : (node : Option SeededView) (turns : ℕ) → Serving
  -- a proxy as it was at first, where that is known, the routing that its carriers are made of, and the most reads
  ProxyServing : (proxy : Option ProxyView) (routing : RoutingView) (turns : ℕ) → Serving

-- a service that ran
pub record Run : Type 0 where
  pub serving : Serving
  -- how many connections were asked for
  pub clients : ℕ

-- a run of so many clients
abbrev pub run : Serving → ℕ → Run
run serving clients = record { serving = serving; clients = clients }
