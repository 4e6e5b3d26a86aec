use Rattle.std.proofs.Common.{◌<◌, length, refl, sym, subst}
use Rattle.mr_world.proofs.NodeLemmas.{knows_written}
use Rattle.mr_world.proofs.Lists.{at_read}
use Rattle.mr_world.proofs.nodes.Nodes.restart.Goals as goal

pub invariant_of-self : goal.invariant_of-self
invariant_of-self c =
    let nodes = c.self.inside.nodes.items in
    let node = c.index_mut-node.result.now in
    let within = subst (λ l. c.args.number < length l) (sym c.self.view_is) c.requires in
    let at = at_read nodes c.args.number node within c.index_mut-node.ensures.value in
    knows_written c.self.inside.numbers nodes c.args.number node (record { name = node.name; cache = c.restart.new.self }) c.self.invariant at.gets refl
