-- What one step of a service reads, does and writes.
use Rattle.std.specs.Prelude.{◌≡◌, ℕ, ◌≤◌, ◌⊎◌, List, ◌++◌, length, [], Bool, true, false, Result, Ok, Err}
use Rattle.mr_text.specs.Requests.{SpellsRequest, RefusesRequest}
use Rattle.mr_text.specs.Stream.{ReaderView, BeginsWith, IsUnfinished, FaultAt, Becomes, skips_line}
use Rattle.mr_text.specs.TextError.{number_of_refusal}
use Rattle.mr_text.specs.declared.error.TextError.{TextError}
use Rattle.mr_text.specs.declared.error.TextError.TheVariants.{Truncated}
use Rattle.mr_text.specs.declared.reply.Reply.{Reply}
use Rattle.mr_text.specs.declared.request.Request.{Request}
use Rattle.mr_text.specs.declared.request.Request.TheVariants.{Quit}
use Rattle.mr_node.specs.declared.ended.Ended.{Ended}
use Rattle.mr_node.specs.declared.ended.Ended.TheVariants as how
use Rattle.mr_node.specs.declared.session.SessionFault.{SessionFault}
use Rattle.mr_node.specs.declared.session.SessionFault.TheVariants.{OutOfMemory, WriteFault}
use Rattle.mr_node.specs.declared.session.SessionStep.{SessionStep}
use Rattle.mr_node.specs.declared.session.SessionStep.TheVariants.{Served, Waits, Ends}
use Rattle.mr_node.specs.Output.Exchange.{Asked}
use Rattle.mr_node.specs.Output.{Exchange, IsServed, SpellsExchange, answer_to, reply_to_refusal}
use Rattle.mr_node.specs.Session.{Station, Answers, StopsAnswering, DoesExchange, LeavesUnanswered}
use Rattle.mr_node.specs.Outcome.{Outcomes}

module _ {C P : Type 0} (Does : Outcomes C P) (old new : Station C P) where
  -- a quit ends the service; any other request is served and answered, or served and the writer fails
  abbrev pub RequestIs : Request → Result SessionStep SessionFault → Type 0
  RequestIs request (Ok Served) =
      IsServed request × (outcome : Reply) × Does old.clock old.node request outcome new.clock new.node
      × Answers (answer_to (Asked request outcome)) old.writer new.writer
  RequestIs request (Ok Waits) = ⊥
  RequestIs request (Ok (Ends ended)) = (request ≡ Quit) × (ended ≡ how.Quit) × (new ≡ old)
  RequestIs request (Err fault) =
      (fault ≡ WriteFault) × IsServed request × (outcome : Reply) × Does old.clock old.node request outcome new.clock new.node
      × StopsAnswering (answer_to (Asked request outcome)) old.writer new.writer

  module _ (ended : Bool) (rest : List ℕ) (requests : ReaderView) where
    abbrev pub EndIs : Ended → Type 0
    EndIs how.Quit = (new ≡ old) × ((after : List ℕ) × BeginsWith SpellsRequest rest Quit after)
    EndIs how.Ended = ⊥
    EndIs (how.Refused number) =
        (new.clock ≡ old.clock) × (new.node ≡ old.node) × (refusal : TextError) × FaultAt SpellsRequest RefusesRequest refusal rest
        × (skips_line refusal ≡ false) × (refusal ≡ Truncated → ended ≡ true) × (number ≡ number_of_refusal refusal)
        × Answers (reply_to_refusal refusal) old.writer new.writer

    -- one request that is whole is served, or none is whole, or the service ends
    abbrev pub StepIs : Result SessionStep SessionFault → Type 0
    StepIs (Ok Served) =
        (exchange : Exchange) × (spelling : List ℕ) × (after : List ℕ) × (1 ≤ length spelling) × (rest ≡ spelling ++ after) × SpellsExchange spelling exchange
        × DoesExchange Does old exchange new × Answers (answer_to exchange) old.writer new.writer × Becomes requests after ended false
    StepIs (Ok Waits) =
        (new ≡ old) × IsUnfinished SpellsRequest RefusesRequest rest × (ended ≡ true → rest ≡ []) × Becomes requests rest ended false
    StepIs (Ok (Ends how)) = EndIs how
    StepIs (Err fault) = ((fault ≡ OutOfMemory) × (new ≡ old) × (1 ≤ length rest)) ⊎ ((fault ≡ WriteFault) × LeavesUnanswered Does rest old new)
