-- The services on loops that ran, as contracts see them.
use Rattle.std.specs.Prelude.{List}
use Rattle.mr_driver.specs.declared.serving.DriverBounds.{DriverBounds}
use Rattle.mr_loop.specs.LoopView.{LoopView}
use Rattle.mr_servers.specs.declared.driven_node.NodeLoops.{NodeLoops}
use Rattle.mr_sockets.specs.SeededNode.{SeededView}

-- a service on loops that ran, with how many clients it served, in all and at a time, and how long it waited for who is silent
pub data Drive : Type 0 where
  -- a proxy, with its loops as they were at first
  ProxyDrive : (loops : List LoopView) (bounds : DriverBounds) → Drive
  -- a node as it was at first, with the loops that share it
  NodeDrive : (node : SeededView) (loops : NodeLoops) (bounds : DriverBounds) → Drive
