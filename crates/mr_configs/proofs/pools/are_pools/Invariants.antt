use Rattle.std.proofs.Common.{◌≡◌}
use Rattle.serde_json.specs.View.{members_view}
use Rattle.mr_configs.specs.Pools.{are_pools}
use Rattle.mr_configs.proofs.pools.are_pools.Given as goal

abbrev pub invariant-loop-value : goal.invariant-loop-value
invariant-loop-value l =
    (goal.iterator-loop-value).can_next l.value-iterator ×
    (goal.iterator-loop-value).is_finite l.value-iterator ×
    (are_pools (members_view l.members.entries) ≡ are_pools (members_view l.value-iterator))
