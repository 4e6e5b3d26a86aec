-- When requests are issued: by what makes them due.
use Rattle.std.specs.Prelude.{◌≡◌, ℕ, ◌⊎◌, List, [], ◌++◌, map}
use Rattle.std.specs.List.{AllByRecursion}
use Rattle.mr_clock.specs.Readings.{Tick}
use Rattle.mr_history.specs.History.{WasIssued}
use Rattle.mr_history.specs.Places.{At}
use Rattle.mr_history.specs.declared.entry.Entry.{Entry}
use Rattle.mr_loop.specs.LoopView.{LoopView}
use Rattle.mr_loop.specs.Runs.{Due, due_of_turn}
use Rattle.mr_loop.specs.declared.client.Client.{Client}
use Rattle.mr_world.specs.Setup.{SetupView}
use Rattle.mr_streams.specs.Headline.{Starts}
use Rattle.mr_streams.specs.Steps.{StreamsRun, StreamsStep}
use Rattle.mr_streams.specs.StreamsView.{StreamsView, Visit}

-- these entries issue a request that is due; a line is of no request
abbrev pub IsIssuedBy : List Entry → Due → Type 0
IsIssuedBy gains (Due.Op op) = WasIssued gains op
IsIssuedBy gains (Due.Line reply) = Unit {0}

-- what a client was told, and is to be told, in order
abbrev pub all_due : Visit → Client → List Due
all_due visit client = map due_of_turn (visit.put ++ client.turns)

-- what is due to the client of a place grew, by requests that these entries issue
pub record BecomesDue (loop : LoopView) (visits : List Visit) (gains : List Entry) (place : ℕ) (visit : Visit) (client : Client) : Type 0 where
  pub was : Client
  pub before : Visit
  pub there : At loop.front.clients place was
  pub visited : At visits place before
  pub more : List Due
  pub grows : all_due visit client ≡ all_due before was ++ more
  pub own : AllByRecursion (IsIssuedBy gains) more

-- Whatever happens to streams: a request that becomes due to a client by it is issued by it, or the client's place begins anew. So one
-- that comes once an acknowledgement was told is issued behind that.
abbrev pub RequestsAreIssuedAsTheyCome : Type 0
RequestsAreIssuedAsTheyCome =
    (setup : SetupView) (first old new : StreamsView) (before ticks : List Tick) → Starts setup first → StreamsRun first before old → StreamsStep old ticks new
    → (gains : List Entry) × (new.history ≡ old.history ++ gains)
    × ((proxy place : ℕ) (loop' : LoopView) (client : Client) (visits' : List Visit) (visit : Visit)
    → At new.loops proxy loop' → At loop'.front.clients place client → At new.visits proxy visits' → At visits' place visit
    → (all_due visit client ≡ [])
    ⊎ ((loop : LoopView) × (visits : List Visit) × At old.loops proxy loop × At old.visits proxy visits × BecomesDue loop visits gains place visit client))
