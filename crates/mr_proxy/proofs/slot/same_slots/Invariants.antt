use Rattle.std.proofs.Common.{◌≡◌, take}
use Rattle.mr_proxy.proofs.slot.same_slots.Given as goal

-- those before are equal
abbrev pub invariant-loop-place : goal.invariant-loop-place
invariant-loop-place l = take l.place l.slots ≡ take l.place l.others
