use Rattle.std.proofs.Common.{◌≡◌, drop}
use Rattle.mr_servers.specs.Reports.{with_rooms, room_of}
use Rattle.mr_servers.proofs.reports.room_of.Given as goal

-- the rooms so far are added
abbrev pub invariant-loop-machine : goal.invariant-loop-machine
invariant-loop-machine l = with_rooms (drop l.machine-index l.machines) l.room ≡ room_of l.machines
