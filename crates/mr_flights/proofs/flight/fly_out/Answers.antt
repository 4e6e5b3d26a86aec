use Rattle.mr_flights.proofs.FlightLemmas.{clean_failed, seconds_failed}
use Rattle.mr_flights.specs.Scene.{scene_of}
use Rattle.mr_flights.proofs.flight.fly_out.Goals as goal

pub returns-in_err-fly_seconds : goal.returns-in_err-fly_seconds
returns-in_err-fly_seconds g c =
    seconds_failed c.args.manner c.args.span (scene_of c.args.scene.now) c.args.solo.now.machine c.fly_seconds.new.log c.fly_seconds.new.solo.machine
    (g.O.Sink.told c.args.output.now) (g.O.Sink.told c.fly_seconds.new.output) c.in_err-fly_seconds.field-0.0 _ c.from_residual.ensures.1
    c.in_err-fly_seconds.ensures

pub returns-in_err-clean : goal.returns-in_err-clean
returns-in_err-clean g c =
    clean_failed c.args.manner c.args.span (scene_of c.args.scene.now) c.args.solo.now.machine _ c.fly_seconds.new.solo.machine
    (g.O.Sink.told c.args.output.now) (g.O.Sink.told c.fly_seconds.new.output) c.in_err-clean.field-0.0 _ c.from_residual-in_err-clean.ensures.1
    c.in_err-clean.ensures.fault c.in_ok-fly_seconds.ensures

pub returns : goal.returns
returns g c =
    c.end_flight.ensures c.args.solo.now.machine c.fly_seconds.new.solo.machine (g.O.Sink.told c.args.output.now) c.in_ok-fly_seconds.ensures
    (rw (c.canary_mut-canary.ensures.canary, c.machine_mut.ensures.machine) c.clean.ensures.canary)
