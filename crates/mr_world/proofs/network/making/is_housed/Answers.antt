use Rattle.std.proofs.Common.{◌≡◌, ◌∙◌, ◌↔◌, List, IsTrue, IfSome, is_some, position, bytes_eq, sym, ap, subst}
use Rattle.mr_world.specs.declared.node.Node.{Node}
use Rattle.mr_world.specs.Setup.{IsNamed, nodes_of}
use Rattle.mr_world.proofs.NodeLemmas.{housed}
use Rattle.mr_world.proofs.network.making.is_housed.Goals as goal

pub returns-in-Some : goal.returns-in-Some
returns-in-Some c =
    let setup = c.args.setup.now in
    let name = c.args.name.now in
    let all : c.in-Some.nodes.now ≡ nodes_of setup.capacity setup.proxies =
    subst (λ o. IfSome o (λ nodes. nodes.now ≡ nodes_of setup.capacity setup.proxies)) c.in-Some.is c.requires in
    let found = c.is_some.ensures ∙ ap is_some c.find.ensures ∙ ap (λ (nodes : List Node). is_some (position (λ node. bytes_eq node.name name) nodes)) all in
    subst (λ b. IsTrue b ↔ IsNamed setup.proxies name) (sym found) (housed setup.capacity setup.proxies name)
