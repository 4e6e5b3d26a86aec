use Rattle.std.proofs.Common.{◌+◌, ◌*◌}
use Rattle.mr_scripts.proofs.homes.+named.Given as goal

abbrev pub decreases-has_node_along : goal.decreases-has_node_along
decreases-has_node_along l = 2 * l.routes

abbrev pub decreases-has_node_before : goal.decreases-has_node_before
decreases-has_node_before l = 2 * l.routes + 1
