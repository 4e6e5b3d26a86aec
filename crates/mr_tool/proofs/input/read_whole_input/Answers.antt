use Rattle.std.proofs.Common.{arith, ◌<◌, length}
use Rattle.mr_tool.proofs.InputLemmas.{input_added, input_ended, input_failed}
use Rattle.mr_tool.specs.Input.{most_taken}
use Rattle.mr_tool.proofs.input.read_whole_input.Goals as goal

pub returns-in_err-add_piece-clause-fails : goal.returns-in_err-add_piece-clause-fails
returns-in_err-add_piece-clause-fails g c =
    let i = c.loop-bytes.invariant in
    let room_left : length c.loop-bytes.bytes.items < most_taken = omega (arith, c.loop-bytes-test.true, c.len.ensures, c.loop-bytes.bytes.ok.0) in
    input_failed _ _ _ c.loop-bytes.bytes.items _ i.takes i.steady c.from_residual.result _ c.from_residual.ensures.1 c.in_err-add_piece.ensures room_left

pub returns-then-branch-clause-whole : goal.returns-then-branch-clause-whole
returns-then-branch-clause-whole g c =
    let i = c.loop-bytes.invariant in
    let room_left : length c.loop-bytes.bytes.items < most_taken = omega (arith, c.loop-bytes-test.true, c.len.ensures, c.loop-bytes.bytes.ok.0) in
    input_ended _ _ _ c.loop-bytes.bytes.items _ i.takes i.steady _ c.if-branch.true c.in_ok-add_piece.ensures room_left

pub loop-bytes-preserved : goal.loop-bytes-preserved
loop-bytes-preserved g c =
    let i = c.loop-bytes.invariant in
    let added = input_added _ _ _ c.loop-bytes.bytes.items _ i.takes i.steady _ c.if-branch.false c.in_ok-add_piece.ensures in
    record { takes = added.0; steady = added.1 }
