-- What a client's thread hands over may cross threads. Its parts are found one by one, since a search that goes down through all of
-- them takes too long.
use denote.RattleType.{RattleType}
use denote.Param.Send.{IsSend, sendable}
use Rattle.std.proofs.Crossing.{crosses}
use Rattle.mr_clock.specs.declared.clock.Clock as clock
use Rattle.mr_desks.specs.declared.carrier.Carrier as carrier
use Rattle.mr_text.specs.declared.devices.sink.Sink as sink
use Rattle.mr_text.specs.declared.devices.source.Source as source
use Rattle.mr_proxy.specs.contracts.answer.Answer as answer
use Rattle.mr_proxy.proofs.answer.Answer.TheSendSync as of_answer
use Rattle.mr_fleet.specs.contracts.client_end.ClientEnd as client_end
use Rattle.mr_fleet.specs.contracts.finished_client.FinishedClient as finished_client

-- an answer, as its own crate shows it
answer_send : IsSend answer.the_field.row
answer_send = of_answer.the_send

-- a client's end, and what is handed over
module _ (C K S W : RattleType) (c : carrier.Ghosts C.Denot) (k : clock.Ghosts K.Denot) (s : source.Ghosts S.Denot) (w : sink.Ghosts W.Denot)
    (may_c : IsSend C) (may_k : IsSend K) (may_s : IsSend S) (may_w : IsSend W) where
  end_send : IsSend (client_end.the_field C K S W c k s w).row
  end_send = search (crosses, sendable) depth 20

  pub finished_send : IsSend (finished_client.the_row C K S W c k s w)
  finished_send = search (end_send, answer_send, crosses, sendable) depth 20
