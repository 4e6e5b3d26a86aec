-- What ties the bytes of a client and the history: what it sent, what was issued of it, and what it was told.
use Rattle.std.specs.Prelude.{◌≡◌, ℕ, Bool, true, false, List, [], ◌∷◌, ◌++◌, map, flat_map, option_to_list}
use Rattle.mr_text.specs.Requests.{SpellsRequest, RefusesRequest, SkipsLine}
use Rattle.mr_text.specs.Stream.{skips_line}
use Rattle.mr_text.specs.declared.cause.Cause.{Cause}
use Rattle.mr_text.specs.declared.error.TextError.{TextError}
use Rattle.mr_text.specs.declared.error.TextError.TheVariants.{UnknownCommand}
use Rattle.mr_text.specs.declared.request.Request.{Request}
use Rattle.mr_history.specs.History.{IsIssued}
use Rattle.mr_history.specs.Places.{At}
use Rattle.mr_history.specs.declared.entry.Entry.{Entry}
use Rattle.mr_history.specs.declared.entry.Entry.TheVariants as entry
use Rattle.mr_history.specs.declared.op_id.OpId.{OpId}
use Rattle.mr_node.specs.Output.{is_silent, reply_to_refusal}
use Rattle.mr_proxy.specs.Answer.{AnswerView, reply_of}
use Rattle.mr_loop.specs.Asking.{denial}
use Rattle.mr_loop.specs.LoopView.{LoopView}
use Rattle.mr_loop.specs.Runs.{Due, due_of_turn, told_text}
use Rattle.mr_loop.specs.declared.client.Client.{Client}
use Rattle.mr_loop.specs.declared.turns.Turn.TheVariants.{Waits, Answered}
use Rattle.mr_world.specs.Lists.{Has}
use Rattle.mr_streams.specs.StreamsView.{StreamsView, Visit}

-- the bytes, all of them, were refused so; of a line whose command isn't known only that line
abbrev pub IsRefused : List ℕ → TextError → Type 0
IsRefused bytes (UnknownCommand false) = SkipsLine bytes []
IsRefused bytes refusal = RefusesRequest refusal bytes

-- What a client is to be told of texts that it sent, in order: the answer to an issued request; why one isn't begun, unless it wants
-- no answer; what a refused text is answered, where such texts are. Nothing is read behind a refused text but a line whose command
-- isn't known.
pub data AreDue (history : List Entry) : Bool → List ℕ → List Due → Type 0 where
  begins : AreDue history true [] []
  issued : {bytes : List ℕ} {dues : List Due} (text : List ℕ) (request : Request) (op : OpId) (place : ℕ) → AreDue history true bytes dues
      → SpellsRequest text request → IsIssued history op request place → AreDue history true (bytes ++ text) (dues ++ Due.Op op ∷ [])
  denied : {bytes : List ℕ} {dues : List Due} (text : List ℕ) (request : Request) (cause : Cause) → AreDue history true bytes dues
      → SpellsRequest text request → AreDue history true (bytes ++ text) (dues ++ map Due.Line (option_to_list (denial request cause)))
  refused : {bytes : List ℕ} {dues : List Due} (text : List ℕ) (refusal : TextError) → AreDue history true bytes dues
      → IsRefused text refusal → AreDue history (skips_line refusal) (bytes ++ text) (dues ++ map Due.Line (option_to_list (reply_to_refusal refusal)))

-- an answer is to the request that was issued by its name, and stands in the history, unless its client wants none
pub record IsAnswered (history : List Entry) (answer : AnswerView) : Type 0 where
  pub issue : ℕ
  pub issued : IsIssued history answer.op answer.request issue
  pub told : is_silent answer.request ≡ false → Has history (entry.Answered answer.op (reply_of answer))

-- What a client sent begins with requests and refused texts. What it was told, and is to be told next, is the texts of the answers
-- to the first of them in their order: none is passed over while it is under way, and each is an answer of the history.
pub record IsServed (history : List Entry) (visit : Visit) (client : Client) : Type 0 where
  pub bytes : List ℕ
  pub rest : List ℕ
  pub sent : visit.sent ≡ bytes ++ rest
  pub reads_on : Bool
  pub due : AreDue history reads_on bytes (map due_of_turn (visit.put ++ client.turns))
  pub heard : visit.heard ++ client.out ≡ flat_map told_text visit.put
  pub none_waits : (place : ℕ) (op : OpId) → ¬ At visit.put place (Waits op)
  pub answered : (place : ℕ) (answer : AnswerView) → At visit.put place (Answered answer) → IsAnswered history answer

-- so it is with each client
abbrev pub AreServed : StreamsView → Type 0
AreServed s = (proxy place : ℕ) (loop : LoopView) (client : Client) → At s.loops proxy loop → At loop.front.clients place client
    → (visits : List Visit) × (visit : Visit) × At s.visits proxy visits × At visits place visit × IsServed s.history visit client
