-- What the headline over bytes says of a canary.
use Rattle.std.specs.Prelude.{◌≡◌, ℕ, ℤ, Bool, All, List}
use Rattle.mr_text.specs.declared.request.Request.TheVariants.{Set}
use Rattle.mr_clock.specs.Readings.{Tick}
use Rattle.mr_history.specs.History.{IsIssued}
use Rattle.mr_history.specs.declared.entry.Entry.{Entry}
use Rattle.mr_history.specs.declared.op_id.OpId.{OpId}
use Rattle.mr_canary.specs.Notes.{IsConvicted}
use Rattle.mr_canary.specs.Views.{ArePerformedOnce, IsView, Names}
use Rattle.mr_canary.specs.declared.note.Note.{Note}
use Rattle.mr_canary.specs.declared.note.Probe.{Probe}
use Rattle.mr_world.specs.Headline.{IsPlan}
use Rattle.mr_world.specs.Setup.{SetupView}
use Rattle.mr_streams.specs.Headline.{HasText, PremisesHold, Starts}
use Rattle.mr_streams.specs.Steps.{StreamsRun}
use Rattle.mr_streams.specs.StreamsView.{StreamsView}

-- at this place a set of the key to the value is issued
pub record SetsTo (names : Names) (history : List Entry) (key value place : ℕ) : Type 0 where
  pub set : OpId
  pub flags : ℕ
  pub exptime : ℤ
  pub noreply : Bool
  pub issued : IsIssued history set (Set (names.key key) flags exptime (names.block key value) noreply) place

-- each value is that of one set
abbrev pub AreUnlike : Names → List Entry → Type 0
AreUnlike names history = (key value one other : ℕ) → SetsTo names history key value one → SetsTo names history key value other → one ≡ other

-- Whatever happens to streams while the four premises hold: nothing stores a set's value once the set was answered with STORED, where each
-- value is that of one set.
abbrev pub SetsArePerformedOnce : Type 0
SetsArePerformedOnce =
    (setup : SetupView) (first last : StreamsView) (ticks : List Tick)
    → All (λ proxy. IsPlan proxy.routing proxy.schedule) setup.proxies → All HasText setup.held
    → Starts setup first → StreamsRun first ticks last → PremisesHold setup ticks
    → (names : Names) → AreUnlike names last.history → ArePerformedOnce names last.history

-- Whatever happens to streams while the four premises hold: no hit convicts in what clients note of them, where each value is that of one
-- set.
abbrev pub NoCanaryConvicts : Type 0
NoCanaryConvicts =
    (setup : SetupView) (first last : StreamsView) (ticks : List Tick)
    → All (λ proxy. IsPlan proxy.routing proxy.schedule) setup.proxies → All HasText setup.held
    → Starts setup first → StreamsRun first ticks last → PremisesHold setup ticks
    → (names : Names) (notes : List Note) (seen : ℕ → ℕ) → IsView names last.history notes seen → AreUnlike names last.history
    → (get : Probe) → ¬ IsConvicted notes get
