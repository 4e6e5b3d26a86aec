use Rattle.std.proofs.Common.{◌≡◌, ◌∙◌, sym}
use Rattle.mr_counting.proofs.SumLemmas.{written_node, unwritten_node}
use Rattle.mr_counting.proofs.loop_totals.add_to.Goals as goal

pub returns-then-number-nodes : goal.returns-then-number-nodes
returns-then-number-nodes c = rw c.plus.ensures (written_node c.args.number c.args.link _ c.args.nodes.now c.if-number-nodes.true)

pub returns-else-number-nodes : goal.returns-else-number-nodes
returns-else-number-nodes c = sym (unwritten_node c.args.number c.args.link c.args.nodes.now c.if-number-nodes.false)
