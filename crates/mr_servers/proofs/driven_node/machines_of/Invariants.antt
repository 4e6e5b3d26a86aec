use Rattle.std.proofs.Common.{◌≡◌, ◌≤◌, ◌-◌, map, vec_len, replicate}
use Rattle.mr_servers.specs.Driving.{fresh_parts, parts_of}
use Rattle.mr_servers.proofs.driven_node.machines_of.Given as goal

-- the loops so far have no clients
abbrev pub invariant-machine : goal.invariant-machine
invariant-machine g l = record {
  fresh : map parts_of l.machines.items ≡ replicate (vec_len l.machines) (fresh_parts l.loops.most_unread);
  within : vec_len l.machines ≤ l.count;
}

abbrev pub decreases-machine : goal.decreases-machine
decreases-machine g l = l.count - vec_len l.machines
