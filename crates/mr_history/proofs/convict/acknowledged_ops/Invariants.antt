use Rattle.std.proofs.Common.{◌≡◌, take}
use Rattle.std.specs.List.{list_any}
use Rattle.std.specs.HashSet.{contains}
use Rattle.mr_history.specs.declared.op_id.OpId.{OpId}
use Rattle.mr_history.specs.steps.Tests.{is_acknowledged}
use Rattle.mr_history.specs.steps.Index.{op_eq}
use Rattle.mr_history.proofs.convict.acknowledged_ops.Given as goal

-- the ops so far
abbrev pub invariant-loop-entry : goal.invariant-loop-entry
invariant-loop-entry l = (op : OpId) → contains op_eq l.ops op ≡ list_any (is_acknowledged op) (take l.entry-index l.entries)
