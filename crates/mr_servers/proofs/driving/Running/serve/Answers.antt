use denote.Param.Send.{sendable}
use Rattle.std.proofs.Crossing.{crosses}
use Rattle.mr_driver.proofs.SendLemmas.{loop_send, node_send}
use Rattle.mr_driver.proofs.shared_cache.CacheDesk.TheSendSync as of_desk
use Rattle.mr_servers.proofs.driving.Running.serve.Goals as goal

pub serve-requires-send-M : goal.serve-requires-send-M
serve-requires-send-M g c κs within = search (loop_send, crosses, sendable) depth 20

pub serve-requires-in-Node-send-M : goal.serve-requires-in-Node-send-M
serve-requires-in-Node-send-M g c κs within = search (c.type_bounds.sync-R, node_send, of_desk.the_send, crosses, sendable) depth 40
