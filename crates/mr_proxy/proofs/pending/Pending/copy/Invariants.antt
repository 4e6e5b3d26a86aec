use Rattle.std.proofs.Common.{◌≡◌, take}
use Rattle.mr_proxy.proofs.pending.Pending.copy.Given as goal

-- the legs so far are copied
abbrev pub invariant-loop-slot : goal.invariant-loop-slot
invariant-loop-slot l = l.slots.items ≡ take l.slot-index l.slot-items
