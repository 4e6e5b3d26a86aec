use Rattle.std.proofs.Common.{◌∙◌, Option, Some, None, Result, Ok, Err, refl, ap, subst}
use Rattle.mr_text.specs.Requests.{SpellsRequest, RefusesRequest, SkipsLine, is_quit}
use Rattle.mr_text.specs.Stream.{NextIs}
use Rattle.mr_text.specs.declared.error.TextError.{TextError}
use Rattle.mr_text.specs.declared.request.Request.{Request}
use Rattle.mr_node.specs.Outcome.{Outcome}
use Rattle.mr_node.specs.Session.{station}
use Rattle.mr_node.proofs.ServiceLemmas.{step_of_request, step_of_refusal}
use Rattle.mr_node.proofs.service.serve_next.Goals as goal

pub returns-in-Ok-None : goal.returns-in-Ok-None
returns-in-Ok-None g c rest stands =
    let next : NextIs SpellsRequest RefusesRequest SkipsLine is_quit c.args.requests.now c.next.new.self rest (Ok None) =
    subst (λ (r : Result (Option Request) TextError). NextIs SpellsRequest RefusesRequest SkipsLine is_quit c.args.requests.now c.next.new.self rest r)
    (c.in-Ok-None.is ∙ ap (λ (o : Option Request). Ok o) c.in-Ok-None.field-0-is) (c.next.ensures.answer rest stands) in
    (refl, next.1, next.2, next.3)

pub returns-in-Ok-Some : goal.returns-in-Ok-Some
returns-in-Ok-Some g c rest stands =
    let next : NextIs SpellsRequest RefusesRequest SkipsLine is_quit c.args.requests.now c.next.new.self rest (Ok (Some c.in-Ok-Some.request)) =
    subst (λ (r : Result (Option Request) TextError). NextIs SpellsRequest RefusesRequest SkipsLine is_quit c.args.requests.now c.next.new.self rest r)
    (c.in-Ok-Some.is ∙ ap (λ (o : Option Request). Ok o) c.in-Ok-Some.field-0-is) (c.next.ensures.answer rest stands) in
    step_of_request (Outcome g.C.Clock.reads g.C.Clock.failures g.P.Perform.did g.P.Perform.refused) rest c.args.requests.now c.next.new.self
    (station c.args.clock.now c.args.node.now (g.W.Sink.told c.args.writer.now))
    (station c.serve_request.new.clock c.serve_request.new.node (g.W.Sink.told c.serve_request.new.writer))
    c.in-Ok-Some.request c.serve_request.result next c.serve_request.ensures

pub returns-in-Err : goal.returns-in-Err
returns-in-Err g c rest stands =
    let next : NextIs SpellsRequest RefusesRequest SkipsLine is_quit c.args.requests.now c.next.new.self rest (Err c.in-Err.refusal) =
    subst (λ (r : Result (Option Request) TextError). NextIs SpellsRequest RefusesRequest SkipsLine is_quit c.args.requests.now c.next.new.self rest r)
    c.in-Err.is (c.next.ensures.answer rest stands) in
    step_of_refusal (Outcome g.C.Clock.reads g.C.Clock.failures g.P.Perform.did g.P.Perform.refused) rest c.args.requests.now c.next.new.self
    c.args.clock.now c.args.node.now (g.W.Sink.told c.args.writer.now) (g.W.Sink.told c.answer_refusal.new.writer)
    c.in-Err.refusal c.answer_refusal.result c.requires next c.answer_refusal.ensures
