use Rattle.std.proofs.Common.{◌≡◌, drop, map}
use Rattle.mr_join.specs.declared.leg_reply.LegReply.TheVariants.{Failed}
use Rattle.mr_text.specs.declared.cause.Cause.TheVariants.{NodeRefused}
use Rattle.mr_proxy.specs.NodeReplies.{all_failed}
use Rattle.mr_proxy.specs.NodeRequests.{key_of}
use Rattle.mr_loop.specs.Events.{after_all}
use Rattle.mr_loop.specs.Links.{legs_of}
use Rattle.mr_loop.specs.Returning.{takings}
use Rattle.mr_loop.proofs.taking.take_failures.Given as goal

-- with those that are left all fail
abbrev pub invariant-loop-other : goal.invariant-loop-other
invariant-loop-other l =
    after_all (takings l.fn.sent.client (legs_of l.fn.sent) (all_failed l.fn.cause (map key_of (legs_of l.fn.sent)))) l.fn.front
    ≡ after_all (takings l.fn.sent.client (drop l.other-index l.other-items) (map (λ _. Failed NodeRefused) (map key_of (drop l.other-index l.other-items)))) l.front
