-- What one step of a client's session does.
use Rattle.std.proofs.Common.{◌≡◌, ◌≢◌, ℕ, List, Bool, false, Some, Result, Ok, Err, refl, subst, inl, inr}
use Rattle.mr_text.specs.Requests.{SpellsRequest, RefusesRequest, SkipsLine, is_quit}
use Rattle.mr_text.specs.Sink.{SinkView}
use Rattle.mr_text.specs.Source.{SourceView}
use Rattle.mr_text.specs.Stream.{ReaderView, NextIs}
use Rattle.mr_text.specs.declared.error.TextError.{TextError}
use Rattle.mr_text.specs.declared.reply.Reply.{Reply}
use Rattle.mr_text.specs.declared.request.Request.{Request}
use Rattle.mr_node.specs.Output.{IsServed}
use Rattle.mr_node.specs.Session.{Station, station, SessionIs, AnswersRefusal}
use Rattle.mr_node.specs.declared.session.SessionFault.{SessionFault}
use Rattle.mr_node.specs.declared.session.SessionFault.TheVariants as fault
use Rattle.mr_node.specs.declared.session.SessionStep.{SessionStep}
use Rattle.mr_node.specs.declared.session.SessionStep.TheVariants.{Served}
use Rattle.mr_node.proofs.ServiceLemmas.{some_bytes, step_of_request, step_of_refusal}
use Rattle.mr_node.proofs.SessionLemmas.{UnderWay, stepped, step_fails}
use Rattle.mr_desks.specs.declared.error.WorkerError.{WorkerError}
use Rattle.mr_desks.specs.declared.error.WorkerError.TheVariants.{LinkBroken, Mismatch, BookDiffers, ReadFault, WriteFault, TurnsSpent, OutOfMemory, NoThread}
use Rattle.mr_sessions.specs.ClientSession.{ClientRules, ClientSessionIs, worker_error_of}
use Rattle.mr_sessions.specs.steps.ClientStep.{AnsweredSo, AskedSo, ClientRefusalIs, ClientRequestIs, ClientStepIs}

-- a fault in the answer to a refusal
pub refused_told : (refusal : TextError) (f : SessionFault) (old new : SinkView) → AnswersRefusal refusal old (Err f) new
    → ClientRefusalIs refusal old (Err (worker_error_of f)) new
refused_told refusal fault.WriteFault old new is = is
refused_told refusal fault.OutOfMemory old new is = is
refused_told refusal fault.ReadFault old new (inl is) = (let a = is.1 in cc)
refused_told refusal fault.ReadFault old new (inr is) = (let a = is.0 in cc)
refused_told refusal fault.TurnsSpent old new (inl is) = (let a = is.1 in cc)
refused_told refusal fault.TurnsSpent old new (inr is) = (let a = is.0 in cc)

module _ {C P : Type 0} (rules : ClientRules C P) where
  module _ (before after : Station C P) (request : Request) where
    told_outcome : (result : Result (Unit {0}) WorkerError) (outcome : Reply) → IsServed request
        → rules.Answered before.clock before.node request outcome after.clock after.node
        → AnsweredSo request outcome before.writer after.writer result
        → (e : WorkerError) → result ≡ Err e → ClientRequestIs rules before after request (Err e)
    told_outcome (Ok done) outcome served does answered e is = cc
    told_outcome (Err f) outcome served does answered e is =
        let same : WriteFault ≡ e = (let a = answered.0 in let b = is in cc) in
        subst (λ (x : WorkerError). ClientRequestIs rules before after request (Err x)) same (refl, served, outcome, does, answered.1)

    -- a request that was asked for is served, or why it isn't
    pub asked : IsServed request → (e : WorkerError) → AskedSo rules before after request (Err e)
        → ClientRequestIs rules before after request (Err e)
    asked served e (inl told) = told_outcome (Err e) told.0 served told.1 told.2 e refl
    asked served e (inr vain) =
        let same : BookDiffers ≡ e = (let a = vain.0 in cc) in
        subst (λ (x : WorkerError). ClientRequestIs rules before after request (Err x)) same (served, vain.1, vain.2)

    pub asked_well : (done : Unit {0}) → IsServed request → AskedSo rules before after request (Ok done)
        → ClientRequestIs rules before after request (Ok Served)
    asked_well done served (inl told) = (served, told.0, told.1, told.2)
    asked_well done served (inr vain) = (let a = vain.0 in cc)

  module _ (rest : List ℕ) (old new : ReaderView) (before after : Station C P) where
    -- a request that was read is served
    pub client_step : (request : Request) (result : Result SessionStep WorkerError)
        → NextIs SpellsRequest RefusesRequest SkipsLine is_quit old new rest (Ok (Some request))
        → ClientRequestIs rules before after request result
        → ClientStepIs rules before after old.ended rest new result
    client_step request (Ok step) next is = step_of_request rules.Answered rest old new before after request (Ok step) next is
    client_step request (Err WriteFault) next is = step_of_request rules.Answered rest old new before after request (Err fault.WriteFault) next is
    client_step request (Err OutOfMemory) next is = inl (refl, is, some_bytes rest next.1 request next.2)
    client_step request (Err BookDiffers) next is =
        (request, next.2.spelling, next.1, next.2.splits, next.2.spells, is.0, is.1, is.2)
    client_step request (Err LinkBroken) next is = absurd is
    client_step request (Err Mismatch) next is = absurd is
    client_step request (Err ReadFault) next is = absurd is
    client_step request (Err TurnsSpent) next is = absurd is
    client_step request (Err NoThread) next is = absurd is

  -- a refusal is answered
  pub client_refusal : (rest : List ℕ) (old new : ReaderView) (clock : C) (node : P) (written written' : SinkView) (refusal : TextError)
      (result : Result SessionStep WorkerError) → old.closed ≡ false
      → NextIs SpellsRequest RefusesRequest SkipsLine is_quit old new rest (Err refusal)
      → ClientRefusalIs refusal written result written'
      → ClientStepIs rules (station clock node written) (station clock node written') old.ended rest new result
  client_refusal rest old new clock node written written' refusal (Ok step) going next is =
      step_of_refusal rules.Answered rest old new clock node written written' refusal (Ok step) going next is
  client_refusal rest old new clock node written written' refusal (Err WriteFault) going next is =
      step_of_refusal rules.Answered rest old new clock node written written' refusal (Err fault.WriteFault) going next is
  client_refusal rest old new clock node written written' refusal (Err OutOfMemory) going next is =
      step_of_refusal rules.Answered rest old new clock node written written' refusal (Err fault.OutOfMemory) going next is
  client_refusal rest old new clock node written written' refusal (Err BookDiffers) going next is = absurd is
  client_refusal rest old new clock node written written' refusal (Err LinkBroken) going next is = absurd is
  client_refusal rest old new clock node written written' refusal (Err Mismatch) going next is = absurd is
  client_refusal rest old new clock node written written' refusal (Err ReadFault) going next is = absurd is
  client_refusal rest old new clock node written written' refusal (Err TurnsSpent) going next is = absurd is
  client_refusal rest old new clock node written written' refusal (Err NoThread) going next is = absurd is

  module _ (reader : SourceView) (old : Station C P) (reader' : SourceView) (now new : Station C P) (requests requests' : ReaderView) (ended : Bool)
      (so : UnderWay rules.Answered reader old reader' now requests ended) where
    -- a step that fails ends the session
    pub fails_so : (e : WorkerError) → ClientStepIs rules now new requests.ended so.rest requests' (Err e)
        → ClientSessionIs rules reader reader' old new (Err e)
    fails_so WriteFault is =
        step_fails rules.Answered reader old reader' now new requests requests' ended so fault.WriteFault
        (stepped rules.Answered reader old reader' now new requests requests' ended so (Err fault.WriteFault) (Err fault.WriteFault) refl is)
    fails_so OutOfMemory is =
        step_fails rules.Answered reader old reader' now new requests requests' ended so fault.OutOfMemory
        (stepped rules.Answered reader old reader' now new requests requests' ended so (Err fault.OutOfMemory) (Err fault.OutOfMemory) refl is)
    fails_so BookDiffers is = (so.rest, now, so.serves, is)
    fails_so LinkBroken is = absurd is
    fails_so Mismatch is = absurd is
    fails_so ReadFault is = absurd is
    fails_so TurnsSpent is = absurd is
    fails_so NoThread is = absurd is

    -- a step that fails is no fault of the reader
    pub reads_well : (e : WorkerError) → ClientStepIs rules now new requests.ended so.rest requests' (Err e) → e ≢ ReadFault
    reads_well ReadFault is same = absurd is
    reads_well WriteFault is same = cc
    reads_well OutOfMemory is same = cc
    reads_well BookDiffers is same = cc
    reads_well LinkBroken is same = cc
    reads_well Mismatch is same = cc
    reads_well TurnsSpent is same = cc
    reads_well NoThread is same = cc

    pub not_spent : (e : WorkerError) → ClientStepIs rules now new requests.ended so.rest requests' (Err e) → e ≢ TurnsSpent
    not_spent TurnsSpent is same = absurd is
    not_spent WriteFault is same = cc
    not_spent OutOfMemory is same = cc
    not_spent BookDiffers is same = cc
    not_spent LinkBroken is same = cc
    not_spent Mismatch is same = cc
    not_spent ReadFault is same = cc
    not_spent NoThread is same = cc

  pub client_told : (reader reader' : SourceView) (old new : Station C P) (f : SessionFault) → SessionIs rules.Answered reader reader' old new (Err f)
      → ClientSessionIs rules reader reader' old new (Err (worker_error_of f))
  client_told reader reader' old new fault.ReadFault is = is
  client_told reader reader' old new fault.WriteFault is = is
  client_told reader reader' old new fault.TurnsSpent is = is
  client_told reader reader' old new fault.OutOfMemory is = is
