use Rattle.std.proofs.Common.{◌≡◌, true}
use Rattle.mr_text.specs.steps.ReplyProgress.{IsProgress, ReadsOn, has_begun, steps_left}
use Rattle.mr_text.proofs.reading.unfinished_reply.UnfinishedReply.read_items.Given as goal

abbrev pub invariant-items : goal.invariant-items
invariant-items l = record {
  progress : IsProgress l.self;
  reads_on : ReadsOn l.initial.self.stream l.self.stream;
  begun : has_begun l.self ≡ true;
}

abbrev pub decreases-items : goal.decreases-items
decreases-items l = steps_left l.self
