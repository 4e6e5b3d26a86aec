-- The two halves of the headline over bytes.
use Rattle.std.specs.Prelude.{All, List}
use Rattle.mr_clock.specs.Readings.{Tick}
use Rattle.mr_history.specs.History.{IsSafe}
use Rattle.mr_world.specs.Headline.{IsPlan}
use Rattle.mr_world.specs.Setup.{SetupView}
use Rattle.mr_streams.specs.Headline.{Starts, HasText, PremisesHold}
use Rattle.mr_streams.specs.Served.{AreServed}
use Rattle.mr_streams.specs.Steps.{StreamsRun}
use Rattle.mr_streams.specs.StreamsView.{StreamsView}

-- Whatever pieces bytes travel in, whenever connections break, nodes and proxies restart and memory is refused: each hit is fresh.
abbrev pub BytesAreSafe : Type 0
BytesAreSafe =
    (setup : SetupView) (first last : StreamsView) (ticks : List Tick)
    → All (λ proxy. IsPlan proxy.routing proxy.schedule) setup.proxies → All HasText setup.held
    → Starts setup first → StreamsRun first ticks last → PremisesHold setup ticks → IsSafe last.history

-- Whatever happens, each client was told the answers of the history to its requests, in their order.
abbrev pub ClientsAreServed : Type 0
ClientsAreServed = (setup : SetupView) (first last : StreamsView) (ticks : List Tick) → Starts setup first → StreamsRun first ticks last → AreServed last
