use Rattle.std.proofs.Common.{◌∙◌, sym}
use Rattle.mr_world.proofs.NetworkLemmas.{found_node, no_node}
use Rattle.mr_world.proofs.nodes.Nodes.number_of.Goals as goal

pub returns-in-Some : goal.returns-in-Some
returns-in-Some c = found_node c.args.self.now c.args.name.now c.in-Some.number (sym c.in-Some.ensures)

pub returns-in-None : goal.returns-in-None
returns-in-None c = c.len.ensures ∙ no_node c.args.self.now c.args.name.now (sym c.in-None.ensures)
