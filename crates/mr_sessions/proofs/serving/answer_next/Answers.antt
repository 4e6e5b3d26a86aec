use Rattle.std.proofs.Common.{◌∙◌, Option, Some, None, Result, Ok, Err, refl, ap, subst}
use Rattle.mr_text.specs.Requests.{SpellsRequest, RefusesRequest, SkipsLine, is_quit}
use Rattle.mr_text.specs.Stream.{NextIs}
use Rattle.mr_text.specs.declared.error.TextError.{TextError}
use Rattle.mr_text.specs.declared.request.Request.{Request}
use Rattle.mr_sessions.specs.Account.{account}
use Rattle.mr_sessions.specs.Asking.{desk_rules}
use Rattle.mr_sessions.specs.steps.Standing.{standing}
use Rattle.mr_sessions.proofs.StepLemmas.{client_step, client_refusal}
use Rattle.mr_sessions.proofs.serving.answer_next.Goals as goal

pub returns-in-Ok-None : goal.returns-in-Ok-None
returns-in-Ok-None g c rest stands =
    let next : NextIs SpellsRequest RefusesRequest SkipsLine is_quit c.args.requests.now c.next.new.self rest (Ok None) =
    subst (λ (r : Result (Option Request) TextError). NextIs SpellsRequest RefusesRequest SkipsLine is_quit c.args.requests.now c.next.new.self rest r)
    (c.in-Ok-None.is ∙ ap (λ (o : Option Request). Ok o) c.in-Ok-None.field-0-is) (c.next.ensures.answer rest stands) in
    (refl, next.1, next.2, next.3)

pub returns-in-Ok-Some : goal.returns-in-Ok-Some
returns-in-Ok-Some g c rest stands =
    let next : NextIs SpellsRequest RefusesRequest SkipsLine is_quit c.args.requests.now c.next.new.self rest (Ok (Some c.in-Ok-Some.request)) =
    subst (λ (r : Result (Option Request) TextError). NextIs SpellsRequest RefusesRequest SkipsLine is_quit c.args.requests.now c.next.new.self rest r)
    (c.in-Ok-Some.is ∙ ap (λ (o : Option Request). Ok o) c.in-Ok-Some.field-0-is) (c.next.ensures.answer rest stands) in
    client_step (desk_rules g.K.Clock.reads g.K.Clock.failures g.C.Carrier.gave g.D.Desk.recorded)
    rest c.args.requests.now c.next.new.self
    (standing c.args.clock.now c.args.log.now (g.L.Carriers.told c.args.carriers.now) (g.W.Sink.told c.args.writer.now))
    (standing c.answer_request.new.clock c.answer_request.new.log (g.L.Carriers.told c.answer_request.new.carriers) (g.W.Sink.told c.answer_request.new.writer))
    c.in-Ok-Some.request c.answer_request.result next c.answer_request.ensures

pub returns-in-Err : goal.returns-in-Err
returns-in-Err g c rest stands =
    let next : NextIs SpellsRequest RefusesRequest SkipsLine is_quit c.args.requests.now c.next.new.self rest (Err c.in-Err.refusal) =
    subst (λ (r : Result (Option Request) TextError). NextIs SpellsRequest RefusesRequest SkipsLine is_quit c.args.requests.now c.next.new.self rest r)
    c.in-Err.is (c.next.ensures.answer rest stands) in
    client_refusal (desk_rules g.K.Clock.reads g.K.Clock.failures g.C.Carrier.gave g.D.Desk.recorded)
    rest c.args.requests.now c.next.new.self c.args.clock.now
    (account c.args.log.now.share c.args.log.now.answers.items (g.L.Carriers.told c.args.carriers.now))
    (g.W.Sink.told c.args.writer.now) (g.W.Sink.told c.refuse.new.writer) c.in-Err.refusal c.refuse.result c.requires next c.refuse.ensures
