use Rattle.std.proofs.Common.{◌≡◌, length}
use Rattle.mr_loop.specs.Counts.{legs_lost}
use Rattle.mr_loop.specs.Events.{after_all}
use Rattle.mr_loop.specs.Returning.{give_ups}
use Rattle.mr_loop.proofs.link.Link.break_off.Given as goal

-- what is left to give up comes to what was to be given up
abbrev pub invariant-loop-sent : goal.invariant-loop-sent
invariant-loop-sent l = record {
  front : after_all (give_ups l.self.legs) l.front ≡ after_all (give_ups l.fn.self.legs) l.fn.front;
  counts : legs_lost l.now l.self.legs l.self.counts ≡ legs_lost l.now l.fn.self.legs l.fn.self.counts;
  same_state : l.self.is_up ≡ l.fn.self.is_up;
}

abbrev pub decreases-loop-sent : goal.decreases-loop-sent
decreases-loop-sent l = length l.self.legs
