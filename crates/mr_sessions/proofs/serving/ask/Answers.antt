use Rattle.std.proofs.Common.{◌∙◌, Bool, ap}
use Rattle.mr_sessions.specs.Account.{kept_with}
use Rattle.mr_sessions.proofs.AskLemmas.{answered_so, refused_so}
use Rattle.mr_sessions.proofs.serving.ask.Goals as goal

pub returns-in-Err : goal.returns-in-Err
returns-in-Err g c =
    refused_so g.K.Clock.reads g.K.Clock.failures g.C.Carrier.gave g.D.Desk.recorded c.args.clock.now c.issue.new.clock c.args.log.now.share c.issue.new.share
    _ _ _ _ _ _ c.in-Err.refusal c.in-Err.ensures.refused c.in-Err.ensures.share c.write_refusal.ensures

pub returns-in-Some : goal.returns-in-Some
returns-in-Some g c =
    answered_so g.K.Clock.reads g.K.Clock.failures g.C.Carrier.gave g.D.Desk.recorded c.args.clock.now c.issue.new.clock c.args.log.now.share c.keep.new.self.share
    _ _ _ _ _ _ _ _ c.in-Ok.issued.op c.in-Ok.issued.legs.items c.in-Some.answer c.in-Ok.ensures.issued
    (c.keep.ensures.share ∙ c.carry_request.ensures.share ∙ c.in-Ok.ensures.share)
    c.in-Some.ensures.own c.in-Some.ensures.stands c.in-Some.ensures.carried
    (c.keep.ensures.answers
    ∙ ap (λ (b : Bool). kept_with b c.carry_request.new.log.answers.items c.in-Some.answer) c.is_recorded.ensures
    ∙ ap (λ l. kept_with g.D.Desk.recorded l.items c.in-Some.answer) c.carry_request.ensures.answers)
    c.write_unless_silent-written.ensures
