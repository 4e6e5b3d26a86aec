use Rattle.std.proofs.Common.{ℕ, List, [], ◌∷◌, ◌++◌, take, map, sym, ap, ◌∙◌}
use Rattle.mr_world.specs.Positions.{node_number}
use Rattle.mr_world.proofs.NetworkLemmas.{map_more}
use Rattle.mr_world.proofs.network.making.numbers_by.Goals as goal

pub loop-pool-preserved : goal.loop-pool-preserved
loop-pool-preserved c =
    let nodes = c.args.nodes.now in
    let items = c.pools-pool-items.result.now in
    let place = c.loop-pool.pool-index in
    let pool = c.pool-item.result in
    c.in_ok-push.ensures.items ∙ ap (λ l. l ++ c.in_ok-numbers.numbers ∷ []) c.loop-pool.invariant
    ∙ ap (λ (n : List ℕ). map (λ pool. map (node_number nodes) pool) (take place items) ++ n ∷ []) c.in_ok-numbers.ensures
    ∙ ap (λ (p : List (List ℕ)). map (λ pool. map (node_number nodes) pool) (take place items) ++ map (node_number nodes) p ∷ []) c.pool-item.is
    ∙ sym (map_more (λ pool. map (node_number nodes) pool) items place pool c.loop-pool-test.true)
