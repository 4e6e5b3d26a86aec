-- The premises of a run: of the setup, of the first readings and of the events.
use Rattle.std.specs.Prelude.{◌≡◌, ◌↔◌, not, nat_le, IsTrue, List, [], ◌∷◌, map, flat_map}
use Rattle.mr_clock.specs.Clocks.{NeverGoesBack, StayWithin}
use Rattle.mr_clock.specs.Readings.{AreWithin, Tick}
use Rattle.mr_world.specs.declared.event.Event.{Event}
use Rattle.mr_world.specs.declared.event.Event.TheVariants.{Clock, Client, Deliver, Return, GiveUp, NodeRestart, ProxyRestart}
use Rattle.mr_world.specs.declared.premises.Premises.{Premises}
use Rattle.mr_world.specs.Setup.{SetupView, AllAlike, IsNewPoolEmpty, least_interval_of}
use Rattle.mr_world.specs.WorldView.{WorldView}

-- only a Clock event changes a reading
abbrev pub ticks_in : Event → List Tick
ticks_in (Clock proxy reading) = record { proxy = proxy; reading = reading } ∷ []
ticks_in (Client proxy request) = []
ticks_in (Deliver message now) = []
ticks_in (Return reply) = []
ticks_in (GiveUp op) = []
ticks_in (NodeRestart node) = []
ticks_in (ProxyRestart proxy) = []

-- the ticks among events, in order
abbrev pub ticks_of : List Event → List Tick
ticks_of events = flat_map ticks_in events

-- which of the four premises hold of a fleet: by its setup, and by all readings so far
abbrev pub premises_of : WorldView → Premises
premises_of w =
    record {
      same = w.terms.same;
      new_empty = w.terms.new_empty;
      forward = not w.readings.went_back;
      near = nat_le w.readings.spread w.terms.least;
    }

-- of a fleet at the beginning: forward is true
pub record PremisesAtFirst (setup : SetupView) (premises : Premises) : Type 0 where
  pub same : IsTrue premises.same ↔ AllAlike setup.proxies
  pub new_empty : IsTrue premises.new_empty ↔ IsNewPoolEmpty setup
  pub forward : IsTrue premises.forward
  pub near : IsTrue premises.near ↔ AreWithin (least_interval_of setup.proxies) (map (λ proxy. proxy.reading) setup.proxies)

-- after accepted events: those of the clocks hold as far as they did and the events keep them
pub record PremisesAfter (old : WorldView) (events : List Event) (new : Premises) : Type 0 where
  pub same : new.same ≡ (premises_of old).same
  pub new_empty : new.new_empty ≡ (premises_of old).new_empty
  pub forward : IsTrue new.forward ↔ (IsTrue (premises_of old).forward × NeverGoesBack old.readings.standing (ticks_of events))
  pub near : IsTrue new.near ↔ (IsTrue (premises_of old).near × StayWithin old.terms.least old.readings.standing (ticks_of events))
