use Rattle.std.proofs.Common.{sym}
use Rattle.mr_world.proofs.NetworkLemmas.{found_within, held_by}
use Rattle.mr_world.proofs.network.making.hold_item.Goals as goal

pub perform-requires : goal.perform-requires
perform-requires c = found_within c.args.nodes.now c.args.item.node c.in-Some.number (sym c.in-Some.ensures)

pub returns : goal.returns
returns c =
    held_by c.args.nodes.now c.args.item c.in-Some.number c.command_of.result c.in_ok-perform.field-0 c.perform.new.self c.in-Some.ensures c.command_of.ensures
    c.in_ok-perform.ensures
