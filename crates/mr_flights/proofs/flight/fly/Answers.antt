use Rattle.std.proofs.Common.{◌∙◌, ap, refl}
use Rattle.mr_flights.proofs.FlightLemmas.{flown_out, never_flown, never_had, never_made, never_opened, went_on}
use Rattle.mr_flights.specs.Flight.{HasBegun}
use Rattle.mr_flights.specs.Scene.{scene_of}
use Rattle.mr_flights.specs.Showing.{manner_of}
use Rattle.mr_flights.specs.declared.scene.Scene.{Scene}
use Rattle.mr_flights.proofs.flight.fly.Goals as goal

pub returns-in_err-make_canary : goal.returns-in_err-make_canary
returns-in_err-make_canary g c =
    never_made c.args.values.now c.args.servers.now.screen c.args.config.now (g.O.Sink.told c.args.output.now) _ c.in_err-make_canary.field-0.0 _
    c.from_residual.ensures.1 c.in_err-make_canary.ensures

pub returns-in_err-addresses : goal.returns-in_err-addresses
returns-in_err-addresses g c =
    never_had c.args.values.now c.args.servers.now.screen c.args.config.now (g.O.Sink.told c.args.output.now) _
    c.from_residual-in_err-addresses.ensures.1

pub returns-in_err-solo : goal.returns-in_err-solo
returns-in_err-solo g c =
    never_opened c.args.values.now c.args.servers.now.screen c.args.config.now (g.O.Sink.told c.args.output.now) c.in_err-solo.field-0.0 _
    c.from_residual-in_err-solo.ensures.1

pub returns-in_err-reach : goal.returns-in_err-reach
returns-in_err-reach g c =
    never_flown c.args.values.now c.args.servers.now.screen c.args.config.now (g.O.Sink.told c.args.output.now) c.in_err-reach.field-0.0 _
    c.from_residual-in_err-reach.ensures.1 (rw c.in_err-reach.ensures.fault tt)

pub returns : goal.returns
returns g c =
    let scene : Scene = record { proxies = c.proxies-2.result; schedule = c.schedule.result; begun = c.saturating_sub.result } in
    let begun : HasBegun c.args.values.now c.args.config.now c.reach.new.solo.machine = record {
      run = _;
      made = c.in_ok-make_canary.field-0;
      is_made = c.in_ok-make_canary.ensures;
      reaches = went_on _ _ _ (rw (← c.new-flock.ensures) c.in_ok-solo.ensures.machine) c.reach.ensures.canary;
    } in
    flown_out c.args.values.now c.args.servers.now.screen c.args.config.now c.manner_of-manner.result (scene_of scene) c.reach.new.solo.machine
    (g.O.Sink.told c.args.output.now) (g.O.Sink.told c.fly_out.new.output) c.fly_out.result
    (c.manner_of-manner.ensures ∙ ap (manner_of c.args.values.now.json) c.screen.ensures)
    (rw (c.proxies-2.ensures, c.schedule.ensures.schedule) refl)
    begun c.fly_out.ensures
