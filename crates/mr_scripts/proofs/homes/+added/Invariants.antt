use Rattle.std.proofs.Common.{◌+◌, ◌*◌}
use Rattle.mr_scripts.proofs.homes.+added.Given as goal

abbrev pub decreases-add_along : goal.decreases-add_along
decreases-add_along l = 2 * l.routes

abbrev pub decreases-add_before : goal.decreases-add_before
decreases-add_before l = 2 * l.routes + 1
