-- Where the premises hold, the history of streams is safe.
use Rattle.std.proofs.Common.{◌≡◌, ℕ, ◌+◌, true, All, List, [], ◌∷◌, map, refl, sym, ap, ◌∙◌, subst}
use Rattle.mr_clock.specs.Clocks.{NeverGoesBack, StayWithin}
use Rattle.mr_clock.specs.Readings.{Tick, readings_at_first}
use Rattle.mr_history.specs.History.{IsSafe}
use Rattle.mr_history.specs.Places.{At}
use Rattle.mr_proxy.specs.ProxyView.{fresh_proxy}
use Rattle.mr_world.specs.Headline.{Headline, IsPlan}
use Rattle.mr_world.specs.Setup.{SetupView, Begins, AllAlike, IsNewPoolEmpty, least_interval_of, proxies_from, nodes_at_first, held_entry}
use Rattle.mr_world.specs.Steps.{WorldRun}
use Rattle.mr_world.specs.WorldView.{WorldView}
use Rattle.mr_world.specs.declared.setup.ProxySetup.{ProxySetup}
use Rattle.mr_streams.specs.Fleet.{FleetEvent, FleetRun, ticks_of}
use Rattle.mr_streams.specs.Headline.{Starts, HasText, PremisesHold}
use Rattle.mr_streams.specs.Refines.{Tells, RefinesWorld}
use Rattle.mr_streams.specs.Steps.{StreamsRun}
use Rattle.mr_streams.specs.StreamsView.{StreamsView}
use Rattle.mr_streams.proofs.Lists.{at_nothing}
use Rattle.mr_streams.proofs.Telling.{told_safe}
use Rattle.mr_streams.proofs.Thinning.{thin, thin_world, thin_run}

pub thin_from : (number : ℕ) (proxies : List ProxySetup) → map thin (proxies_from number proxies) ≡ proxies_from number proxies
thin_from number [] = refl
thin_from number (proxy ∷ proxies) = ap (λ l. fresh_proxy number 0 proxy.routing proxy.schedule proxy.room ∷ l) (thin_from (number + 1) proxies)

-- a fleet in which legs fail is safe where the world is
fleet_safe : Headline → (setup : SetupView) (start last : WorldView) (events : List FleetEvent) → All (λ (proxy : ProxySetup). IsPlan proxy.routing proxy.schedule) setup.proxies
    → Begins setup start → FleetRun start events last → AllAlike setup.proxies → IsNewPoolEmpty setup
    → NeverGoesBack (map (λ (proxy : ProxySetup). proxy.reading) setup.proxies) (ticks_of events)
    → StayWithin (least_interval_of setup.proxies) (map (λ (proxy : ProxySetup). proxy.reading) setup.proxies) (ticks_of events)
    → IsSafe last.history
fleet_safe headline setup start last events plans begins run same new_empty forward near =
    let is = thin_run events start last start.history (λ number delivery there. absurd (at_nothing (subst (λ r. At r number delivery) begins.replies there))) (Tells.begins start.history) run in
    let proxies : map thin start.proxies ≡ start.proxies = ap (λ p. map thin p) begins.proxies ∙ thin_from 0 setup.proxies ∙ sym begins.proxies in
    let whole : thin_world start start.history ≡ start = ap (λ p. record start { proxies = p }) proxies in
    let readings : List ℕ = map (λ (proxy : ProxySetup). proxy.reading) setup.proxies in
    let safe : IsSafe is.later = headline setup start (thin_world last is.later) is.events plans begins (subst (λ w. WorldRun w is.events (thin_world last is.later)) whole is.run) (record {
      same = same;
      new_empty = new_empty;
      forward = subst (λ t. NeverGoesBack readings t) (sym is.ticks_are) forward;
      near = subst (λ t. StayWithin (least_interval_of setup.proxies) readings t) (sym is.ticks_are) near;
    }) in
    told_safe is.later last.history is.tells safe

-- the world of a setup of which two premises hold
pub begun_world : SetupView → WorldView
begun_world setup = record {
  readings = readings_at_first (map (λ (proxy : ProxySetup). proxy.reading) setup.proxies);
  proxies = proxies_from 0 setup.proxies;
  nodes = nodes_at_first setup;
  sent = [];
  replies = [];
  history = map held_entry setup.held;
  terms = record { same = true; new_empty = true; least = least_interval_of setup.proxies };
}

pub world_begins : (setup : SetupView) → AllAlike setup.proxies → IsNewPoolEmpty setup → Begins setup (begun_world setup)
unfolding begun_world
world_begins setup same new_empty = record {
  readings = refl;
  proxies = refl;
  nodes = refl;
  sent = refl;
  replies = refl;
  history = refl;
  same = (λ _. same, λ _. refl);
  new_empty = (λ _. new_empty, λ _. refl);
  least = refl;
}

pub bytes_safe : Headline → RefinesWorld → (setup : SetupView) (first last : StreamsView) (ticks : List Tick)
    → All (λ (proxy : ProxySetup). IsPlan proxy.routing proxy.schedule) setup.proxies → All HasText setup.held
    → Starts setup first → StreamsRun first ticks last → PremisesHold setup ticks → IsSafe last.history
bytes_safe headline refines setup first last ticks plans texts starts run premises =
    let start : WorldView = begun_world setup in
    let begins : Begins setup start = world_begins setup premises.same premises.new_empty in
    let is = refines setup first last start ticks plans texts starts begins run in
    let readings : List ℕ = map (λ (proxy : ProxySetup). proxy.reading) setup.proxies in
    let safe : IsSafe is.world.history = fleet_safe headline setup start is.world is.happened plans begins is.run premises.same premises.new_empty
    (subst (λ t. NeverGoesBack readings t) (sym is.same_ticks) premises.forward)
    (subst (λ t. StayWithin (least_interval_of setup.proxies) readings t) (sym is.same_ticks) premises.near) in
    told_safe is.world.history last.history is.history safe
