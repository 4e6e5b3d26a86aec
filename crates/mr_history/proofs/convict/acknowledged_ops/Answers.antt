use Rattle.std.proofs.Common.{◌∙◌, sym}
use Rattle.std.specs.HashSet.{contains}
use Rattle.mr_history.specs.steps.Index.{op_eq}
use Rattle.mr_history.proofs.IndexLemmas.{ops_kept, ops_added}
use Rattle.mr_history.proofs.convict.acknowledged_ops.Goals as goal
use Rattle.mr_history.proofs.convict.acknowledged_ops.Goals.{in-Some+in_ok-insert, in_default}

pub loop-entry-preserved : goal.loop-entry-preserved
loop-entry-preserved c = elim c.match-acknowledged_op.branch [
  | in-Some+in_ok-insert w ↦ rw (w.ops-is)
      (ops_added c.args.entries.now c.loop-entry.entry-index c.entry-item.result w.in-Some.op (contains op_eq c.loop-entry.ops) (contains op_eq w.insert.new.self)
      c.loop-entry-test.true c.entry-item.is c.loop-entry.invariant (sym c.acknowledged_op.ensures ∙ w.in-Some.is) w.in_ok-insert.ensures.updates.0)
  | in_default w ↦ rw (w.ops-is)
      (ops_kept c.args.entries.now c.loop-entry.entry-index c.entry-item.result (contains op_eq c.loop-entry.ops)
      c.loop-entry-test.true c.entry-item.is c.loop-entry.invariant (sym c.acknowledged_op.ensures ∙ w.in_default.is))
]
