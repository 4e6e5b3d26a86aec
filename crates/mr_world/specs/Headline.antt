-- The headline: where the four premises hold, acknowledged deletes hold.
use Rattle.std.specs.Prelude.{ℕ, IsTrue, All, List, map}
use Rattle.mr_clock.specs.Clocks.{NeverGoesBack, StayWithin}
use Rattle.mr_history.specs.History.{IsSafe}
use Rattle.mr_history.specs.Places.{At}
use Rattle.mr_phases.specs.Schedule.{Hop, IsSchedule}
use Rattle.mr_pools.specs.Routing.{RoutingView, IsRouting}
use Rattle.mr_proxy.specs.ProxyView.{ProxyView}
use Rattle.mr_proxy.specs.Sheets.{HaveAsManyHops}
use Rattle.mr_world.specs.declared.event.Event.{Event}
use Rattle.mr_world.specs.declared.premises.Premises.{Premises}
use Rattle.mr_world.specs.Ground.{IsGround}
use Rattle.mr_world.specs.Premises.{premises_of, ticks_of}
use Rattle.mr_world.specs.Setup.{SetupView, AllAlike, IsNewPoolEmpty, least_interval_of, Begins}
use Rattle.mr_world.specs.Steps.{WorldRun}
use Rattle.mr_world.specs.WorldView.{WorldView}

-- all four hold
pub record AllHold (premises : Premises) : Type 0 where
  pub same : IsTrue premises.same
  pub new_empty : IsTrue premises.new_empty
  pub forward : IsTrue premises.forward
  pub near : IsTrue premises.near

-- each item that was answered is fresh, where the premises hold so far
abbrev pub DeletesHold : WorldView → Type 0
DeletesHold w = AllHold (premises_of w) → IsSafe w.history

-- what that rests on, where the premises hold so far
abbrev pub StandsOnGround : WorldView → Type 0
StandsOnGround w = AllHold (premises_of w) → (number : ℕ) (proxy : ProxyView) → At w.proxies number proxy → IsGround proxy.routing proxy.schedule w

-- what the routing and the schedule of a proxy are: a chain of migrations, each with its two pools
pub record IsPlan (routing : RoutingView) (hops : List Hop) : Type 0 where
  pub sound : IsRouting routing
  pub schedule : IsSchedule hops
  pub chain : HaveAsManyHops routing hops

-- the premises, of a setup and the events that follow: no flag and no fleet is asked
pub record PremisesHold (setup : SetupView) (events : List Event) : Type 0 where
  pub same : AllAlike setup.proxies
  pub new_empty : IsNewPoolEmpty setup
  pub forward : NeverGoesBack (map (λ proxy. proxy.reading) setup.proxies) (ticks_of events)
  pub near : StayWithin (least_interval_of setup.proxies) (map (λ proxy. proxy.reading) setup.proxies) (ticks_of events)

-- after every list of events each hit is fresh
abbrev pub Headline : Type 0
Headline =
    (setup : SetupView) (first last : WorldView) (events : List Event) → All (λ proxy. IsPlan proxy.routing proxy.schedule) setup.proxies
    → Begins setup first → WorldRun first events last → PremisesHold setup events → IsSafe last.history
