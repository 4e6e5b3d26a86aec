use Rattle.std.proofs.Common.{◌+◌, ◌*◌}
use Rattle.mr_configs.proofs.route.+chain.Given as goal

abbrev pub decreases-chain_of : goal.decreases-chain_of
decreases-chain_of l = 2 * l.objects

abbrev pub decreases-chain_before : goal.decreases-chain_before
decreases-chain_before l = 2 * l.objects + 1
