use Rattle.std.proofs.Common.{◌≡◌, [], slice_get, slice_index_or, Some, ap, subst, length, arith}
use Rattle.std.specs.Vec.Iter.{into_iter_items}
use Rattle.mr_world.specs.Network.{HasNumber}
use Rattle.mr_world.proofs.NetworkLemmas.{sent_more, all_rest}
use Rattle.mr_world.proofs.network.asking.send.Goals as goal

pub loop-leg-preserved : goal.loop-leg-preserved
loop-leg-preserved c =
    let split = c.in-Some.ensures.steps.0 in
    let kept = c.loop-leg.invariant in (
      tt,
      tt,
      sent_more c.args.numbers.now _ c.loop-leg.sent.items c.push_reserved.new.self.items c.in-Some.leg c.into_sheet-sheet.result
          (into_iter_items c.loop-leg.leg-iterator) (into_iter_items c.next.new.self) c.number-node.result split c.into_sheet-sheet.ensures
          (subst (λ pool. slice_get (slice_index_or c.args.numbers.now pool []) c.into_sheet-sheet.result.node ≡ Some c.number-node.result) c.pool_number-pool.ensures c.number-node.ensures)
          c.push_reserved.ensures.items (kept.2),
      (let room = kept.3 in let fewer = ap length split in let more = c.push_reserved.ensures.len in let same = c.push_reserved.ensures.capacity in omega arith),
      all_rest (HasNumber c.args.numbers.now) (into_iter_items c.loop-leg.leg-iterator) c.in-Some.leg (into_iter_items c.next.new.self) split (kept.4),
    )
