use Rattle.std.proofs.Common.{ℕ, List, [], ◌∷◌, ◌++◌, take, map, sym, ap, ◌∙◌}
use Rattle.mr_world.specs.Positions.{node_number}
use Rattle.mr_world.proofs.NetworkLemmas.{map_more}
use Rattle.mr_world.proofs.network.making.numbers_in.Goals as goal

pub loop-name-preserved : goal.loop-name-preserved
loop-name-preserved c =
    let nodes = c.args.nodes.now in
    let items = c.names-name-items.result.now in
    let place = c.loop-name.name-index in
    let name = c.name-item.result in
    c.in_ok-push.ensures.items ∙ ap (λ l. l ++ c.number_of.result ∷ []) c.loop-name.invariant
    ∙ ap (λ (n : ℕ). map (node_number nodes) (take place items) ++ n ∷ []) c.number_of.ensures
    ∙ ap (λ (n : List ℕ). map (node_number nodes) (take place items) ++ node_number nodes n ∷ []) c.name-item.is
    ∙ sym (map_more (node_number nodes) items place name c.loop-name-test.true)
