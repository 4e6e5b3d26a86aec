-- Runs of a fleet in which one proxy takes replies and gives requests up.
use Rattle.std.specs.Prelude.{◌≡◌, ℕ, false, List, [], ◌∷◌, ◌++◌, slice_set, Some}
use Rattle.mr_text.specs.declared.reply.Reply.{Reply}
use Rattle.mr_history.specs.Places.{At}
use Rattle.mr_history.specs.declared.entry.Entry.{Entry}
use Rattle.mr_history.specs.declared.entry.Entry.TheVariants as entry
use Rattle.mr_history.specs.declared.op_id.OpId.{OpId}
use Rattle.mr_node.specs.Output.{is_silent}
use Rattle.mr_proxy.specs.Answer.{AnswerView, reply_of}
use Rattle.mr_proxy.specs.ProxyView.{ProxyView}
use Rattle.mr_proxy.specs.Replay.{after, answer_at}
use Rattle.mr_proxy.specs.declared.step.Step.{Step}
use Rattle.mr_loop.specs.Events.{FrontView}
use Rattle.mr_loop.specs.declared.client.Client.{Client}
use Rattle.mr_loop.specs.declared.turns.Turn.{Turn}
use Rattle.mr_loop.specs.declared.turns.Turn.TheVariants.{Answered}
use Rattle.mr_world.specs.Lists.{Has}
use Rattle.mr_world.specs.WorldView.{WorldView}
use Rattle.mr_streams.specs.Fleet.{FleetEvent, FleetRun, ticks_of}

-- the new history has the old one in front, and behind it answers alone
pub data GainsAnswers (old : List Entry) : List Entry → Type 0 where
  same : GainsAnswers old old
  more : {new : List Entry} (op : OpId) (reply : Reply) → GainsAnswers old new → GainsAnswers old (new ++ entry.Answered op reply ∷ [])

-- the same proxy: of the same number, routing and schedule
pub record IsKin (old new : ProxyView) : Type 0 where
  pub number : new.number ≡ old.number
  pub routing : new.routing ≡ old.routing
  pub schedule : new.schedule ≡ old.schedule

-- the proxy of this number is so in the end, and nothing else changes but the answers
pub record RunsSo (w : WorldView) (number : ℕ) (core : ProxyView) : Type 0 where
  pub world : WorldView
  pub events : List FleetEvent
  pub run : FleetRun w events world
  pub proxies : world.proxies ≡ slice_set w.proxies number core
  pub sent : world.sent ≡ w.sent
  pub replies : world.replies ≡ w.replies
  pub nodes : world.nodes ≡ w.nodes
  pub readings : world.readings ≡ w.readings
  pub gains : GainsAnswers w.history world.history
  pub ticks : ticks_of events ≡ []
  pub kin : (old : ProxyView) → At w.proxies number old → IsKin old core

-- the proxy made this step, and the answer that it gave, if its client wants one, stands in the history
pub record StepsSo (w : WorldView) (number : ℕ) (core : ProxyView) (step : Step) : Type 0 where
  pub run : RunsSo w number (after core step)
  pub gives : (answer : AnswerView) → answer_at core step ≡ Some answer → is_silent answer.request ≡ false
      → Has run.world.history (entry.Answered answer.op (reply_of answer))

-- each answer that stands at a turn stands in the history, if its client wants one
abbrev pub KnowsTurns : List Entry → List Turn → Type 0
KnowsTurns history turns = (place : ℕ) (answer : AnswerView) → At turns place (Answered answer) → is_silent answer.request ≡ false
    → Has history (entry.Answered answer.op (reply_of answer))

-- so it is with the turns of each client
abbrev pub AreKnown : List Entry → List Client → Type 0
AreKnown history clients = (place : ℕ) (client : Client) → At clients place client → KnowsTurns history client.turns

-- a core with its clients is so in the end, and nothing else changes but the answers
pub record FrontRuns (w : WorldView) (number : ℕ) (front front' : FrontView) : Type 0 where
  pub so : RunsSo w number front'.core
  pub known : AreKnown w.history front.clients → AreKnown so.world.history front'.clients
