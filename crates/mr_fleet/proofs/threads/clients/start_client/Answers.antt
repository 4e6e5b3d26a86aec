use denote.Param.Send.{sendable}
use Rattle.std.proofs.Crossing.{crosses}
use Rattle.mr_fleet.proofs.SendLemmas.{finished_send}
use Rattle.mr_fleet.proofs.threads.clients.start_client.Goals as goal

pub spawn-requires-send-T : goal.spawn-requires-send-T
spawn-requires-send-T g c κs within = search (finished_send, crosses, sendable) depth 20
