use Rattle.std.proofs.Common.{◌≡◌, List, Some, drop, map}
use Rattle.mr_join.specs.declared.leg_reply.LegReply.{LegReply}
use Rattle.mr_proxy.specs.NodeReplies.{dealt}
use Rattle.mr_proxy.specs.NodeRequests.{key_of}
use Rattle.mr_loop.specs.Events.{after_all}
use Rattle.mr_loop.specs.Links.{legs_of}
use Rattle.mr_loop.specs.Returning.{takings}
use Rattle.mr_loop.specs.steps.Returning.{coming}
use Rattle.mr_loop.proofs.taking.take_items.Given as goal

-- what is left of the items is dealt out to the legs that are left
abbrev pub invariant-loop-other : goal.invariant-loop-other
invariant-loop-other l =
    (said : List LegReply) → dealt (map key_of (legs_of l.fn.sent)) l.fn.items ≡ Some said
    → (rest : List LegReply) × (dealt (map key_of (drop l.other-index l.other-items)) (coming l.next l.later.items) ≡ Some rest)
    × (after_all (takings l.fn.sent.client (legs_of l.fn.sent) said) l.fn.front ≡ after_all (takings l.fn.sent.client (drop l.other-index l.other-items) rest) l.front)
