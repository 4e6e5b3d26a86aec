use Rattle.mr_flights.proofs.FlightLemmas.{flight_ended, last_failed}
use Rattle.mr_flights.specs.Scene.{scene_of}
use Rattle.mr_flights.proofs.flight.end_flight.Goals as goal

pub returns : goal.returns
returns g c = λ first before begin flown went.
    flight_ended c.args.manner c.args.span (scene_of c.args.scene.now) first c.args.log.now before begin (g.O.Sink.told c.args.output.now) flown _ _ _
    c.args.at c.args.canary.now _ went c.in_ok-write_second.ensures c.write_ending.result c.write_ending.ensures

pub returns-in_err-write_second : goal.returns-in_err-write_second
returns-in_err-write_second g c = λ first before begin flown went.
    last_failed c.args.manner c.args.span (scene_of c.args.scene.now) first c.args.log.now before begin (g.O.Sink.told c.args.output.now) flown
    c.write_second.new.log (g.O.Sink.told c.write_second.new.output) c.args.at c.args.canary.now c.write_second.new.canary
    c.in_err-write_second.field-0.0 _ c.from_residual.ensures.1 c.in_err-write_second.ensures
