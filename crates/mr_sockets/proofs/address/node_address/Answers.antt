use Rattle.std.proofs.Common.{subst, arith}
use Rattle.mr_sockets.specs.Address.{GivesAddress}
use Rattle.mr_sockets.proofs.AddressLemmas.{no_node}
use Rattle.mr_sockets.proofs.address.node_address.Goals as goal

pub returns-in_default : goal.returns-in_default
returns-in_default c =
    no_node c.args.name.now c.in-Some.address c.in-Some.ensures (λ some. omega (arith, some, c.port.ensures, c.if-port-gt0.false))

pub returns-in_default-2 : goal.returns-in_default-2
returns-in_default-2 c = λ address node. (subst (GivesAddress c.args.name.now) c.in_default.is c.address_of.ensures) address node.is_address
