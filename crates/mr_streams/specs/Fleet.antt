-- The world with one more kind of step: a node answers a leg with an error, or its reply is lost to one. What streams refine.
use Rattle.std.specs.Prelude.{◌≡◌, List, [], ◌∷◌, ◌++◌, slice_set, flat_map}
use Rattle.mr_text.specs.declared.cause.Cause.{Cause}
use Rattle.mr_history.specs.Places.{At}
use Rattle.mr_clock.specs.Readings.{Tick}
use Rattle.mr_join.specs.declared.leg_reply.LegReply.TheVariants.{Failed}
use Rattle.mr_proxy.specs.ProxyView.{ProxyView}
use Rattle.mr_proxy.specs.Transitions.{taken_of, after_take}
use Rattle.mr_proxy.specs.declared.sheet.LegId.{LegId}
use Rattle.mr_world.specs.Premises.{ticks_in as world_ticks_in}
use Rattle.mr_world.specs.Steps.{WorldStep, answered_by}
use Rattle.mr_world.specs.WorldView.{WorldView}
use Rattle.mr_world.specs.declared.event.Event.{Event}
use Rattle.mr_world.specs.declared.note.Note.{Note}

-- a proxy takes an error as the reply of a leg; no node changes
pub record Fails (old : WorldView) (id : LegId) (cause : Cause) (new : WorldView) : Type 0 where
  pub proxy : ProxyView
  pub home : At old.proxies id.op.proxy proxy
  pub becomes :
      new ≡ record old {
        proxies = slice_set old.proxies id.op.proxy (after_take proxy id (Failed cause));
        history = old.history ++ answered_by (taken_of proxy id (Failed cause));
      }

-- an event of the world, or a leg that fails
pub data FleetEvent : Type 0 where
  Happens : (event : Event) → FleetEvent
  LegFails : (id : LegId) (cause : Cause) → FleetEvent

-- what it does
abbrev pub FleetStep : WorldView → FleetEvent → WorldView → Type 0
FleetStep old (FleetEvent.Happens event) new = (note : Note) × WorldStep old event note new
FleetStep old (FleetEvent.LegFails id cause) new = Fails old id cause new

-- events, one after the other
abbrev pub FleetRun : WorldView → List FleetEvent → WorldView → Type 0
FleetRun old [] new = new ≡ old
FleetRun old (event ∷ events) new = (middle : WorldView) × FleetStep old event middle × FleetRun middle events new

-- a leg that fails changes no reading
abbrev pub ticks_in : FleetEvent → List Tick
ticks_in (FleetEvent.Happens event) = world_ticks_in event
ticks_in (FleetEvent.LegFails id cause) = []

-- the ticks among events, in order
abbrev pub ticks_of : List FleetEvent → List Tick
ticks_of events = flat_map ticks_in events
