-- What was done for a request.
use Rattle.std.proofs.Common.{◌≡◌, ◌<◌, inl, inr, List, [], ◌∷◌, Bool, Option, None, Result, Ok, Err, length, refl, sym, ap, ◌∙◌, subst}
use Rattle.mr_text.specs.declared.cause.Cause.TheVariants as cause
use Rattle.mr_text.specs.declared.reply.Reply.{Reply}
use Rattle.mr_text.specs.declared.error.TextError.{TextError}
use Rattle.mr_text.specs.declared.request.Request.{Request}
use Rattle.mr_text.specs.declared.request.Request.TheVariants.{Quit}
use Rattle.mr_pools.specs.Routing.{RoutingView}
use Rattle.mr_history.specs.declared.op_id.OpId.{OpId}
use Rattle.mr_proxy.specs.Issue.{next_op, refusal_of, sheets_of}
use Rattle.mr_proxy.specs.declared.sheet.LegSheet.{LegSheet}
use Rattle.mr_proxy.specs.declared.step.Step.TheVariants.{Issue}
use Rattle.mr_loop.specs.declared.asker.Asker.{Asker}
use Rattle.mr_loop.specs.declared.front.Begun.TheVariants.{Told}
use Rattle.mr_loop.specs.declared.asking.Pause.{Pause}
use Rattle.mr_loop.specs.declared.inbox.Input.{Input}
use Rattle.mr_loop.specs.declared.inbox.Input.TheVariants as input
use Rattle.mr_loop.specs.declared.link.Link.{Link}
use Rattle.mr_loop.specs.Asking.{IsDoneFor, IsClear, tells, denial, fails, given_up_unless}
use Rattle.mr_loop.specs.Events.{FrontView, Event, after_event, after_all}
use Rattle.mr_loop.specs.Links.{all_sent, all_up}
use Rattle.mr_loop.specs.steps.Asking.{IssuesSo, IsSentOff, RefusesSo, AnswersSo, PausesFor}

-- a request was issued, and its legs were sent off
pub begun_so : (asker : Asker) (request : Request) (front : FrontView) (links : List Link) (issued : FrontView) (op : OpId) (legs : List LegSheet) (denied : Option Reply)
    (front' : FrontView) (links' : List Link)
    → refusal_of front.core ≡ None → asker.client < length front.clients
    → issued ≡ after_event (Event.Does asker.client (Issue asker.reading request)) front → op ≡ next_op front.core
    → legs ≡ sheets_of front.core asker.reading request → denied ≡ denial request cause.OutOfMemory
    → IsSentOff asker issued.core.routing op legs denied issued links front' links'
    → IsDoneFor asker front links (input.Asks request) front' links'
begun_so asker request front links issued op legs denied front' links' none within e o l d (inl sent) =
    let now : FrontView = after_event (Event.Does asker.client (Issue asker.reading request)) front in
    inl (record {
      accepted = none;
      went = sent.0 ∙ ap (λ (f : FrontView). all_sent asker f.core.routing legs links) e
          ∙ ap (λ x. all_sent asker front.core.routing x links) l;
      happens = sent.1
          ∙ ap (λ (f : FrontView). after_all (given_up_unless (all_up f.core.routing legs links) asker.client op) f) e
          ∙ ap (λ x. after_all (given_up_unless (all_up front.core.routing x links) asker.client op) now) l
          ∙ ap (λ x. after_all (given_up_unless (all_up front.core.routing (sheets_of front.core asker.reading request) links) asker.client x) now) o;
    })
begun_so asker request front links issued op legs denied front' links' none within e o l d (inr kept) =
    inr (inr (inr (
      record {
        accepted = none;
        before = fails asker request front.core;
        either = inr refl;
        happens = kept.1 asker.reading request front within o e
            ∙ ap (λ x. after_all (Event.Denies cause.OutOfMemory ∷ tells asker.client x) (after_all (fails asker request front.core) front)) d;
      },
      kept.0,
    )))

-- a client was told why its request isn't issued
pub told_done : (asker : Asker) (request : Request) (front front' : FrontView) (links : List Link) → IssuesSo asker request front Told front'
    → IsDoneFor asker front links (input.Asks request) front' links
told_done asker request front front' links (inl spent) = inr (inr (inl (record { spent = spent.0; happens = spent.1 }, refl)))
told_done asker request front front' links (inr none) =
    inr (inr (inr (record { accepted = none.0; before = []; either = inl refl; happens = none.1 }, refl)))

-- legs were sent off over the links that are up
pub off_all : (asker : Asker) (routing known : RoutingView) (op : OpId) (legs : List LegSheet) (denied : Option Reply) (old new : FrontView) (links links' : List Link) (all : Bool)
    → known ≡ routing → all ≡ all_up known legs links → links' ≡ all_sent asker known legs links
    → new ≡ after_all (given_up_unless all asker.client op) old → IsSentOff asker routing op legs denied old links new links'
off_all asker routing known op legs denied old new links links' all same up sent h =
    inl (
      sent ∙ ap (λ r. all_sent asker r legs links) same,
      h ∙ ap (λ b. after_all (given_up_unless b asker.client op) old) (up ∙ ap (λ r. all_up r legs links) same),
    )

-- a quit asks nothing
pub quit_done : (asker : Asker) (request : Request) (front : FrontView) (links : List Link) → request ≡ Quit
    → IsClear asker front links (input.Asks request) × IsDoneFor asker front links (input.Asks request) front links
quit_done asker request front links e =
    let P : Request → Type 0 = λ r. IsClear asker front links (input.Asks r) × IsDoneFor asker front links (input.Asks r) front links in
    subst P (sym e) (refl, inr (inl (record { quits = refl; unchanged = refl }, refl)))

-- what became of a text that is refused
pub refused_so : (asker : Asker) (refusal : TextError) (old new : FrontView) (links : List Link) (result : Result (Unit {0}) (Pause × Input))
    → RefusesSo asker refusal old result new → AnswersSo asker old links (input.Refused refusal) result new links
refused_so asker refusal old new links (Ok x) h = (tt, (h, refl))
refused_so asker refusal old new links (Err e) h =
    let P : Pause → Type 0 = λ p. PausesFor asker old links (input.Refused refusal) p in
    (h.1, h.2, refl, subst P (sym h.0) tt)
