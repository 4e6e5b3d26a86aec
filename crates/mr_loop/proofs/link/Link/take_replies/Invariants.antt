use Rattle.std.proofs.Common.{◌≡◌, length}
use Rattle.mr_loop.specs.Counts.{CountsCarried}
use Rattle.mr_loop.specs.Returning.{HasTaken}
use Rattle.mr_loop.proofs.link.Link.take_replies.Given as goal

-- so many replies were taken, and nothing else changed
abbrev pub invariant-reply : goal.invariant-reply
invariant-reply l = record {
  taken : HasTaken l.fn.self.reader.kept l.fn.self.legs l.fn.front l.self.reader.kept l.self.legs l.front;
  counted : CountsCarried l.now l.fn.self.legs l.self.legs l.fn.self.counts l.self.counts;
  same_out : l.self.out ≡ l.fn.self.out;
  same_state : l.self.is_up ≡ l.fn.self.is_up;
  same_closed : l.self.reader.closed ≡ l.fn.self.reader.closed;
  same_ended : l.self.reader.ended ≡ l.fn.self.reader.ended;
}

abbrev pub decreases-reply : goal.decreases-reply
decreases-reply l = length l.self.legs
