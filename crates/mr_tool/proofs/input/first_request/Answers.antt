use Rattle.std.proofs.Common.{Ok, Err, arith}
use Rattle.mr_tool.proofs.FaultLemmas.{faulted}
use Rattle.mr_tool.proofs.RequestLemmas.{fed_nothing, fed_more, fed_completes, fed_spent}
use Rattle.mr_tool.specs.Input.{ReadsRequest}
use Rattle.mr_tool.proofs.input.first_request.Goals as goal

pub loop-turn-init : goal.loop-turn-init
loop-turn-init g c = fed_nothing (g.I.Source.told c.args.input.now) c.new-reader.result c.new-reader.ensures.stands

pub returns-in-Some-clause-request : goal.returns-in-Some-clause-request
returns-in-Some-clause-request g c =
    let i = c.loop-turn.invariant in
    let got = (rw c.in-Some.is at c.in_ok-request.ensures) i.fed i.stands in
    fed_completes (g.I.Source.told c.args.input.now) (g.I.Source.told c.loop-turn.input) (g.I.Source.told c.read.new.self) c.loop-turn.reader c.loop-turn.turn
    c.in_ok-count.count c.read.new.buffer (Ok c.in-Some.request) i c.in_ok-count.ensures got

pub returns-in_err-request-clause-request : goal.returns-in_err-request-clause-request
returns-in_err-request-clause-request g c =
    let i = c.loop-turn.invariant in
    faulted (ReadsRequest (g.I.Source.told c.args.input.now) (g.I.Source.told c.read.new.self)) c.from_residual-in_err-request.result
    c.in_err-request.field-0.0 c.from_residual-in_err-request.ensures.1
    (fed_completes (g.I.Source.told c.args.input.now) (g.I.Source.told c.loop-turn.input) (g.I.Source.told c.read.new.self) c.loop-turn.reader c.loop-turn.turn
    c.in_ok-count.count c.read.new.buffer (Err c.in_err-request.field-0.0) i c.in_ok-count.ensures (c.in_err-request.ensures i.fed i.stands))

pub loop-turn-preserved : goal.loop-turn-preserved
loop-turn-preserved g c =
    let i = c.loop-turn.invariant in
    let got = (rw c.in_default.is at c.in_ok-request.ensures) i.fed i.stands in
    let some = c.if-count-eq0.false in
    fed_more (g.I.Source.told c.args.input.now) (g.I.Source.told c.loop-turn.input) (g.I.Source.told c.read.new.self) c.loop-turn.reader c.next_with.new.reader
    c.loop-turn.turn c.in_ok-count.count c.read.new.buffer i c.in_ok-count.ensures (omega arith) got

pub unreachable-requires : goal.unreachable-requires
unreachable-requires g c =
    fed_spent (g.I.Source.told c.args.input.now) (g.I.Source.told c.loop-turn.input) c.loop-turn.reader c.loop-turn.turn c.loop-turn.invariant c.loop-turn-test.false
