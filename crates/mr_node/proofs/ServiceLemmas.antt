-- What one step of a service does.
use Rattle.std.proofs.Common.{◌≡◌, ◌≢◌, ◌∙◌, ℕ, ◌≤◌, List, [], ◌∷◌, ◌++◌, length, Bool, true, false, cond, Option, Some, None, Result, Ok, Err, refl, sym, ap, subst, inl, inr, arith, length-append}
use Rattle.mr_text.specs.Text.{IsLine}
use Rattle.mr_text.specs.Requests.{SpellsRequest, RefusesRequest, SkipsLine, is_quit, block_end}
use Rattle.mr_text.specs.Stream.{ReaderView, BeginsWith, Becomes, NextIs, FaultAt, skips_line}
use Rattle.mr_text.specs.TextError.{number_of_refusal}
use Rattle.mr_text.specs.declared.error.TextError.{TextError}
use Rattle.mr_text.specs.declared.error.TextError.TheVariants.{LineTooLong, BadKey, BadNumber, WrongWords, DataTooLong, BadDataEnd, UnknownCommand, Truncated, Closed, OutOfMemory}
use Rattle.mr_text.specs.declared.reply.Reply.{Reply}
use Rattle.mr_text.specs.declared.request.Request.{Request}
use Rattle.mr_text.specs.declared.request.Request.TheVariants.{Get, Set, Delete, Quit}
use Rattle.mr_node.specs.declared.ended.Ended.{Ended}
use Rattle.mr_node.specs.declared.ended.Ended.TheVariants as how
use Rattle.mr_node.specs.declared.session.SessionFault.{SessionFault}
use Rattle.mr_node.specs.declared.session.SessionStep.{SessionStep}
use Rattle.mr_node.specs.declared.session.SessionStep.TheVariants.{Served, Waits, Ends}
use Rattle.mr_text.specs.Sink.{SinkView}
use Rattle.mr_node.specs.Output.{IsServed, is_silent, answer_to}
use Rattle.mr_node.specs.Session.{Station, station, Answers, AnswersRefusal}
use Rattle.mr_node.specs.Output.Exchange.{Asked, Unknown}
use Rattle.mr_node.specs.steps.Step.{RequestIs, StepIs, EndIs}
use Rattle.mr_node.specs.Outcome.{Outcomes}

pub line_not_empty : (bytes line : List ℕ) → IsLine bytes line → 1 ≤ length bytes
line_not_empty bytes line is = omega (arith, length-append is.raw (10 ∷ []), ap length is.ends)

pub spelling_not_empty : (bytes : List ℕ) (request : Request) → SpellsRequest bytes request → 1 ≤ length bytes
spelling_not_empty bytes (Get keys) is = line_not_empty bytes is.is_line.line is.is_line.is_line
spelling_not_empty bytes (Set key flags exptime block noreply) is =
    omega (arith, length-append is.line (block ++ block_end), length-append block block_end, ap length is.follows)
spelling_not_empty bytes (Delete key false) is = line_not_empty bytes is.is_line.line is.is_line.is_line
spelling_not_empty bytes (Delete key true) is = line_not_empty bytes is.is_line.line is.is_line.is_line
spelling_not_empty bytes Quit is = line_not_empty bytes is.is_line.line is.is_line.is_line

-- bytes that begin with a request are some
pub some_bytes : (bytes after : List ℕ) (request : Request) → BeginsWith SpellsRequest bytes request after → 1 ≤ length bytes
some_bytes bytes after request is =
    let some = spelling_not_empty is.spelling request is.spells in
    omega (arith, length-append is.spelling after, ap length is.splits)

pub served_unless_quit : (request : Request) → request ≢ Quit → IsServed request
served_unless_quit (Get keys) other = tt
served_unless_quit (Set key flags exptime block noreply) other = tt
served_unless_quit (Delete key noreply) other = tt
served_unless_quit Quit other = absurd (other refl)

pub served_is_not_quit : (request : Request) → IsServed request → is_quit request ≡ false
served_is_not_quit (Get keys) is = refl
served_is_not_quit (Set key flags exptime block noreply) is = refl
served_is_not_quit (Delete key noreply) is = refl
served_is_not_quit Quit is = absurd is

-- what is written is the answer of the exchange
pub answers_exchange : (request : Request) (outcome : Reply) (silent : Bool) (answer : Option Reply) (old new : SinkView) → Answers answer old new
    → answer ≡ cond silent None (Some outcome) → silent ≡ is_silent request → Answers (answer_to (Asked request outcome)) old new
answers_exchange request outcome silent answer old new answers is quiet =
    subst (λ (a : Option Reply). Answers a old new) (is ∙ ap (λ b. cond b None (Some outcome)) quiet) answers

module _ {C P : Type 0} (Does : Outcomes C P) (rest : List ℕ) (old new : ReaderView) where
  -- a request that was read is served
  pub step_of_request : (before after : Station C P) (request : Request) (result : Result SessionStep SessionFault)
      → NextIs SpellsRequest RefusesRequest SkipsLine is_quit old new rest (Ok (Some request))
      → RequestIs Does before after request result
      → StepIs Does before after old.ended rest new result
  step_of_request before after request (Ok Served) next is = (
    Asked request is.1,
    next.2.spelling,
    next.1,
    spelling_not_empty next.2.spelling request next.2.spells,
    next.2.splits,
    (next.2.spells, is.0),
    is.2,
    is.3,
    subst (Becomes new next.1 old.ended) (served_is_not_quit request is.0) next.3,
  )
  step_of_request before after request (Ok Waits) next is = absurd is
  step_of_request before after request (Ok (Ends stop)) next is =
      subst (λ (e : Ended). EndIs Does before after old.ended rest new e) (sym is.1)
      (is.2, (next.1, subst (λ (q : Request). BeginsWith SpellsRequest rest q next.1) is.0 next.2))
  step_of_request before after request (Err e) next is = inr (
    is.0,
    inl (Asked request is.2, next.2.spelling, next.1, next.2.splits, (next.2.spells, is.1), is.3, is.4),
  )

  module _ (clock : C) (node : P) (written written' : SinkView) where
    -- a refusal that closes the reader ends the service
    ends_refused : (refusal : TextError) (result : Result SessionStep SessionFault) → FaultAt SpellsRequest RefusesRequest refusal rest
        → skips_line refusal ≡ false → (refusal ≡ Truncated → old.ended ≡ true) → refusal ≢ OutOfMemory
        → AnswersRefusal refusal written result written'
        → StepIs Does (station clock node written) (station clock node written') old.ended rest new result
    ends_refused refusal (Ok step) fault closes cut other is =
        let ends : step ≡ Ends (how.Refused (number_of_refusal refusal)) =
        is.1 ∙ ap (λ (b : Bool). cond b Served (Ends (how.Refused (number_of_refusal refusal)))) closes in
        subst (λ (s : SessionStep). StepIs Does (station clock node written) (station clock node written') old.ended rest new (Ok s)) (sym ends)
        (refl, refl, refusal, fault, closes, cut, refl, is.2)
    ends_refused refusal (Err e) fault closes cut other (inl is) = absurd (other is.0)
    ends_refused refusal (Err e) fault closes cut other (inr is) = inr (is.0, inr (refusal, fault, closes, refl, refl, is.1))

    skips_unknown : (result : Result SessionStep SessionFault) (after : List ℕ) → SkipsLine rest after → Becomes new after old.ended false
        → AnswersRefusal (UnknownCommand false) written result written'
        → StepIs Does (station clock node written) (station clock node written') old.ended rest new result
    skips_unknown (Ok step) after skips becomes is =
        subst (λ (s : SessionStep). StepIs Does (station clock node written) (station clock node written') old.ended rest new (Ok s)) (sym is.1) (
          Unknown,
          skips.line,
          after,
          line_not_empty skips.line skips.is_line.line skips.is_line.is_line,
          skips.splits,
          (skips.words, skips.is_line, skips.unknown),
          (refl, refl),
          is.2,
          becomes,
        )
    skips_unknown (Err e) after skips becomes (inl is) = cc
    skips_unknown (Err e) after skips becomes (inr is) = inr (
      is.0,
      inl (Unknown, skips.line, after, skips.splits, (skips.words, skips.is_line, skips.unknown), (refl, refl), is.1),
    )

    lacks_memory : (result : Result SessionStep SessionFault) → 1 ≤ length rest → AnswersRefusal OutOfMemory written result written'
        → StepIs Does (station clock node written) (station clock node written') old.ended rest new result
    lacks_memory (Ok step) some is = absurd (is.0 refl)
    lacks_memory (Err e) some (inl is) = inl (is.1, ap (station clock node) is.2, some)
    lacks_memory (Err e) some (inr is) = absurd is.1

    -- a refusal is answered
    pub step_of_refusal : (refusal : TextError) (result : Result SessionStep SessionFault) → old.closed ≡ false
        → NextIs SpellsRequest RefusesRequest SkipsLine is_quit old new rest (Err refusal)
        → AnswersRefusal refusal written result written'
        → StepIs Does (station clock node written) (station clock node written') old.ended rest new result
    step_of_refusal LineTooLong result going next is = ends_refused LineTooLong result next.1 refl (λ e. cc) (λ e. cc) is
    step_of_refusal BadKey result going next is = ends_refused BadKey result next.1 refl (λ e. cc) (λ e. cc) is
    step_of_refusal BadNumber result going next is = ends_refused BadNumber result next.1 refl (λ e. cc) (λ e. cc) is
    step_of_refusal WrongWords result going next is = ends_refused WrongWords result next.1 refl (λ e. cc) (λ e. cc) is
    step_of_refusal DataTooLong result going next is = ends_refused DataTooLong result next.1 refl (λ e. cc) (λ e. cc) is
    step_of_refusal BadDataEnd result going next is = ends_refused BadDataEnd result next.1 refl (λ e. cc) (λ e. cc) is
    step_of_refusal (UnknownCommand true) result going next is = ends_refused (UnknownCommand true) result next.1 refl (λ e. cc) (λ e. cc) is
    step_of_refusal (UnknownCommand false) result going next is = skips_unknown result next.1 next.2 next.3 is
    step_of_refusal Truncated result going next is = ends_refused Truncated result next.2 refl (λ e. next.1) (λ e. cc) is
    step_of_refusal Closed result going next is = (let shut = next.0 in let both : true ≡ false = sym shut ∙ going in cc)
    step_of_refusal OutOfMemory result going next is = lacks_memory result (some_bytes rest next.2 next.1 next.3) is
