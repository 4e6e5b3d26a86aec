use Rattle.std.proofs.Common.{◌≡◌, ◌∙◌, arith, sym}
use Rattle.mr_flights.proofs.FlightLemmas.{drive_failed, flown_all, flown_early, second_failed, underway_at_first, underway_more}
use Rattle.mr_flights.specs.Flight.{most_of}
use Rattle.mr_flights.specs.Scene.{scene_of}
use Rattle.mr_flights.proofs.flight.fly_seconds.Goals as goal

pub loop-number-init : goal.loop-number-init
loop-number-init g c =
    underway_at_first c.args.manner c.args.span (scene_of c.args.scene.now) c.args.solo.now.machine c.args.log.now (g.O.Sink.told c.args.output.now) c.requires

pub returns-in_err-drive : goal.returns-in_err-drive
returns-in_err-drive g c =
    drive_failed c.args.manner c.args.span (scene_of c.args.scene.now) c.args.solo.now.machine c.loop-number.log _ c.loop-number.solo.machine _
    (g.O.Sink.told c.args.output.now) (g.O.Sink.told c.loop-number.output) c.loop-number.number c.in_err-drive.field-0.0 _ c.from_residual.ensures.1
    c.in_err-drive.ensures.fault c.loop-number.invariant

pub returns-in_err-write_second : goal.returns-in_err-write_second
returns-in_err-write_second g c =
    second_failed c.args.manner c.args.span (scene_of c.args.scene.now) c.args.solo.now.machine c.loop-number.log c.write_second.new.log
    c.write_second.new.log c.loop-number.solo.machine _ (g.O.Sink.told c.args.output.now) (g.O.Sink.told c.loop-number.output)
    (g.O.Sink.told c.write_second.new.output) c.loop-number.number c.second.result c.canary_mut-canary.result.now c.write_second.new.canary
    c.in_err-write_second.field-0.0 _ c.from_residual-in_err-write_second.ensures.1 c.loop-number.invariant c.in_err-write_second.ensures

pub returns-then-is_over : goal.returns-then-is_over
returns-then-is_over g c =
    flown_early c.args.manner c.args.span (scene_of c.args.scene.now) c.args.solo.now.machine c.loop-number.log c.write_second.new.log
    c.loop-number.solo.machine (g.O.Sink.told c.args.output.now) (g.O.Sink.told c.loop-number.output) (g.O.Sink.told c.write_second.new.output)
    c.loop-number.number _ _ _ c.loop-number.invariant
    (rw (c.canary_mut-canary.ensures.canary, c.machine_mut.ensures.machine) c.drive.ensures.canary) c.in_ok-write_second.ensures (sym c.is_over.ensures ∙ c.if-is_over.true)

pub loop-number-preserved : goal.loop-number-preserved
loop-number-preserved g c =
    underway_more c.args.manner c.args.span (scene_of c.args.scene.now) c.args.solo.now.machine c.loop-number.log c.write_second.new.log
    c.loop-number.solo.machine (g.O.Sink.told c.args.output.now) (g.O.Sink.told c.loop-number.output) (g.O.Sink.told c.write_second.new.output)
    c.loop-number.number _ _ _ c.loop-number.invariant
    (rw (c.canary_mut-canary.ensures.canary, c.machine_mut.ensures.machine) c.drive.ensures.canary) c.in_ok-write_second.ensures (sym c.is_over.ensures ∙ c.if-is_over.false)

pub returns : goal.returns
returns g c =
    let most = c.most_of-number-end.ensures in
    let all : c.loop-number.number ≡ most_of c.args.span = omega (arith, most) in
    flown_all c.args.manner c.args.span (scene_of c.args.scene.now) c.args.solo.now.machine c.loop-number.log c.loop-number.solo.machine
    (g.O.Sink.told c.args.output.now) (g.O.Sink.told c.loop-number.output) c.loop-number.number c.loop-number.invariant all
