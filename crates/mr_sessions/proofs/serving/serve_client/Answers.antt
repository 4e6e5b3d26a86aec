use Rattle.mr_sessions.proofs.SumLemmas.{adds_up_first, session_sum}
use Rattle.mr_sessions.proofs.serving.serve_client.Goals as goal

pub returns-clause-share : goal.returns-clause-share
returns-clause-share g c =
    (session_sum g.K.Clock.reads g.K.Clock.failures g.C.Carrier.gave g.D.Desk.recorded (g.L.Carriers.told c.args.carriers.now)
    _ _ _ _ _ c.serve_until_end-ended.ensures.session (adds_up_first g.D.Desk.recorded _ c.share-share.ensures c.new-answers.ensures.items)).share

pub returns-clause-no_book : goal.returns-clause-no_book
returns-clause-no_book g c =
    (session_sum g.K.Clock.reads g.K.Clock.failures g.C.Carrier.gave g.D.Desk.recorded (g.L.Carriers.told c.args.carriers.now)
    _ _ _ _ _ c.serve_until_end-ended.ensures.session (adds_up_first g.D.Desk.recorded _ c.share-share.ensures c.new-answers.ensures.items)).no_book

pub returns-clause-given_up : goal.returns-clause-given_up
returns-clause-given_up g c =
    (session_sum g.K.Clock.reads g.K.Clock.failures g.C.Carrier.gave g.D.Desk.recorded (g.L.Carriers.told c.args.carriers.now)
    _ _ _ _ _ c.serve_until_end-ended.ensures.session (adds_up_first g.D.Desk.recorded _ c.share-share.ensures c.new-answers.ensures.items)).given_up
