use denote.Param.Send.{param_send, sendable}
use Rattle.std.proofs.Crossing.{crosses}
use Rattle.std.specs.contracts.rt.LibcRuntime as host
use Rattle.mr_driver.proofs.SendLemmas.{node_send}
use Rattle.mr_driver.proofs.shared_cache.CacheDesk.TheSendSync as of_desk
use Rattle.mr_test_driver.proofs.fn.main.«scope+2».Goals as goal

pub serve-requires-send-M : goal.serve-requires-send-M
serve-requires-send-M = search (node_send, of_desk.the_send, crosses, sendable) depth 40
