use Rattle.std.proofs.Common.{◌≡◌, ◌++◌, List, reverse, vec_len}
use Rattle.mr_loop.specs.declared.sent_legs.SentLeg.{SentLeg}
use Rattle.mr_loop.specs.Links.{each_sent}
use Rattle.mr_loop.specs.steps.Sending.{each_up, undone}
use Rattle.mr_loop.proofs.sending.send_each.Given as goal

-- those so far went over their links, if these are up, and the marks take them back
abbrev pub invariant-loop-sent : goal.invariant-loop-sent
invariant-loop-sent l = record {
  front : List SentLeg;
  splits : l.fn.scratch.sents.items ≡ front ++ reverse l.scratch.sents.items;
  up : l.all ≡ each_up l.routing front l.fn.links;
  gone : l.links ≡ each_sent l.routing front l.fn.links;
  marked : undone l.scratch.marks.items l.links ≡ l.fn.links;
}

abbrev pub decreases-loop-sent : goal.decreases-loop-sent
decreases-loop-sent l = vec_len l.scratch.sents
