-- What one step of a client's session reads, does and writes.
use Rattle.std.specs.Prelude.{◌≡◌, ℕ, List, ◌⊎◌, Bool, Some, Result, Ok, Err}
use Rattle.mr_text.specs.Sink.{SinkView}
use Rattle.mr_text.specs.Stream.{ReaderView}
use Rattle.mr_text.specs.declared.cause.Cause.{Cause}
use Rattle.mr_text.specs.declared.error.TextError.{TextError}
use Rattle.mr_text.specs.declared.reply.Reply.{Reply}
use Rattle.mr_text.specs.declared.reply.Reply.TheVariants.{ServerError}
use Rattle.mr_text.specs.declared.request.Request.{Request}
use Rattle.mr_node.specs.Output.{IsServed, answer_to}
use Rattle.mr_node.specs.Output.Exchange.{Asked}
use Rattle.mr_node.specs.Session.{Station, Answers, StopsAnswering, AnswersRefusal}
use Rattle.mr_node.specs.declared.session.SessionFault.TheVariants as fault
use Rattle.mr_node.specs.declared.session.SessionStep.{SessionStep}
use Rattle.mr_node.specs.steps.Step.{RequestIs, StepIs}
use Rattle.mr_desks.specs.DeskError.{cause_of_refusal}
use Rattle.mr_desks.specs.declared.desk_error.DeskError.{DeskError}
use Rattle.mr_desks.specs.declared.error.WorkerError.{WorkerError}
use Rattle.mr_desks.specs.declared.error.WorkerError.TheVariants.{LinkBroken, Mismatch, BookDiffers, ReadFault, WriteFault, TurnsSpent, OutOfMemory, NoThread}
use Rattle.mr_sessions.specs.ClientSession.{ClientRules, IsInVain}

-- the client is told the outcome, unless it wants no answer; or the writer fails
abbrev pub AnsweredSo : Request → Reply → SinkView → SinkView → Result (Unit {0}) WorkerError → Type 0
AnsweredSo request outcome old new (Ok _) = Answers (answer_to (Asked request outcome)) old new
AnsweredSo request outcome old new (Err fault) = (fault ≡ WriteFault) × StopsAnswering (answer_to (Asked request outcome)) old new

-- the client is told why its request was refused, unless it wants no answer; or the writer fails
abbrev pub RefusalToldSo : Request → DeskError → SinkView → SinkView → Result (Unit {0}) WorkerError → Type 0
RefusalToldSo request refusal old new result =
    (cause : Cause) × (cause_of_refusal refusal ≡ Some cause) × AnsweredSo request (ServerError cause) old new result

-- a refusal is answered as in any session
abbrev pub ClientRefusalIs : TextError → SinkView → Result SessionStep WorkerError → SinkView → Type 0
ClientRefusalIs refusal old (Ok step) new = AnswersRefusal refusal old (Ok step) new
ClientRefusalIs refusal old (Err WriteFault) new = AnswersRefusal refusal old (Err fault.WriteFault) new
ClientRefusalIs refusal old (Err OutOfMemory) new = AnswersRefusal refusal old (Err fault.OutOfMemory) new
ClientRefusalIs refusal old (Err LinkBroken) new = ⊥
ClientRefusalIs refusal old (Err Mismatch) new = ⊥
ClientRefusalIs refusal old (Err BookDiffers) new = ⊥
ClientRefusalIs refusal old (Err ReadFault) new = ⊥
ClientRefusalIs refusal old (Err TurnsSpent) new = ⊥
ClientRefusalIs refusal old (Err NoThread) new = ⊥

module _ {C P : Type 0} (rules : ClientRules C P) (old new : Station C P) where
  -- the request came to an outcome that the client is told, or to none
  abbrev pub AskedSo : Request → Result (Unit {0}) WorkerError → Type 0
  AskedSo request result =
      ((outcome : Reply) × rules.Answered old.clock old.node request outcome new.clock new.node × AnsweredSo request outcome old.writer new.writer result) ⊎
      ((result ≡ Err BookDiffers) × rules.InVain old.clock old.node request new.clock new.node × (new.writer ≡ old.writer))

  -- a request is served and answered, or served and the writer fails, or lacks the room for its answer, or has none
  abbrev pub ClientRequestIs : Request → Result SessionStep WorkerError → Type 0
  ClientRequestIs request (Ok step) = RequestIs rules.Answered old new request (Ok step)
  ClientRequestIs request (Err WriteFault) = RequestIs rules.Answered old new request (Err fault.WriteFault)
  ClientRequestIs request (Err OutOfMemory) = new ≡ old
  ClientRequestIs request (Err BookDiffers) =
      IsServed request × rules.InVain old.clock old.node request new.clock new.node × (new.writer ≡ old.writer)
  ClientRequestIs request (Err LinkBroken) = ⊥
  ClientRequestIs request (Err Mismatch) = ⊥
  ClientRequestIs request (Err ReadFault) = ⊥
  ClientRequestIs request (Err TurnsSpent) = ⊥
  ClientRequestIs request (Err NoThread) = ⊥

  module _ (ended : Bool) (rest : List ℕ) (requests : ReaderView) where
    -- one request that is whole is served, or none is whole, or the session ends
    abbrev pub ClientStepIs : Result SessionStep WorkerError → Type 0
    ClientStepIs (Ok step) = StepIs rules.Answered old new ended rest requests (Ok step)
    ClientStepIs (Err WriteFault) = StepIs rules.Answered old new ended rest requests (Err fault.WriteFault)
    ClientStepIs (Err OutOfMemory) = StepIs rules.Answered old new ended rest requests (Err fault.OutOfMemory)
    ClientStepIs (Err BookDiffers) = IsInVain rules rest old new
    ClientStepIs (Err LinkBroken) = ⊥
    ClientStepIs (Err Mismatch) = ⊥
    ClientStepIs (Err ReadFault) = ⊥
    ClientStepIs (Err TurnsSpent) = ⊥
    ClientStepIs (Err NoThread) = ⊥
