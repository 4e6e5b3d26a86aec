use denote.Param.Send.{sendable}
use Rattle.std.proofs.Crossing.{crosses}
use Rattle.mr_driver.proofs.SendLemmas.{loop_send}
use Rattle.mr_test_driver.proofs.fn.main.scope.Goals as goal

pub serve-requires-send-M : goal.serve-requires-send-M
serve-requires-send-M = search (loop_send, crosses, sendable) depth 20
