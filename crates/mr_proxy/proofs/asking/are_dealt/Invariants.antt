use Rattle.std.proofs.Common.{◌≡◌, ◌≤◌, ◌∷◌, is_some, map, drop, length}
use Rattle.mr_proxy.specs.NodeReplies.{dealt}
use Rattle.mr_proxy.specs.NodeRequests.{key_of}
use Rattle.mr_proxy.proofs.asking.are_dealt.Given as goal

-- the items that are left are to be dealt out to the legs that are left
abbrev pub invariant-loop-other : goal.invariant-loop-other
invariant-loop-other l = record {
  left : is_some (dealt (key_of l.fn.leg ∷ map key_of l.others) l.items) ≡ is_some (dealt (map key_of (drop l.other-index l.others)) (drop l.place l.items));
  within : l.place ≤ length l.items;
}
