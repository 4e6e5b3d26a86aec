use Rattle.std.proofs.Common.{◌∙◌, Ok, ap, subst}
use Rattle.mr_node.proofs.ServiceLemmas.{served_unless_quit}
use Rattle.mr_node.specs.Session.{station}
use Rattle.mr_node.specs.declared.session.SessionStep.TheVariants.{Served}
use Rattle.mr_sessions.specs.Account.{Account, account}
use Rattle.mr_sessions.specs.Asking.{desk_rules}
use Rattle.mr_sessions.specs.steps.ClientStep.{ClientRequestIs}
use Rattle.mr_sessions.specs.steps.Standing.{standing}
use Rattle.mr_sessions.proofs.StepLemmas.{asked_well}
use Rattle.mr_sessions.proofs.serving.answer_request.Goals as goal

pub returns : goal.returns
returns g c =
    subst (λ (before : Account). ClientRequestIs (desk_rules g.K.Clock.reads g.K.Clock.failures g.C.Carrier.gave g.D.Desk.recorded)
    (station c.args.clock.now before (g.W.Sink.told c.args.writer.now))
    (standing c.ask.new.clock c.ask.new.log (g.L.Carriers.told c.ask.new.carriers) (g.W.Sink.told c.ask.new.writer))
    c.args.request.now (Ok Served))
    (ap (λ n. account n c.make_room.new.self.answers.items (g.L.Carriers.told c.args.carriers.now)) c.make_room.ensures.share
    ∙ ap (λ answers. account c.args.log.now.share answers (g.L.Carriers.told c.args.carriers.now)) c.make_room.ensures.answers)
    (asked_well (desk_rules g.K.Clock.reads g.K.Clock.failures g.C.Carrier.gave g.D.Desk.recorded)
    (station c.args.clock.now (account c.make_room.new.self.share c.make_room.new.self.answers.items (g.L.Carriers.told c.args.carriers.now))
    (g.W.Sink.told c.args.writer.now))
    (standing c.ask.new.clock c.ask.new.log (g.L.Carriers.told c.ask.new.carriers) (g.W.Sink.told c.ask.new.writer))
    c.args.request.now
    c.in_ok-ask.field-0 (served_unless_quit c.args.request.now c.in_default.not-Quit) c.in_ok-ask.ensures)
