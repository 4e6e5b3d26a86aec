-- What a loop counts, and what a link does.
use Rattle.std.specs.Prelude.{◌≡◌, ℕ, ◌-◌, Bool, List, [], ◌∷◌, ◌++◌, Option, Some, None, if◌then◌else◌}
use Rattle.mr_text.specs.declared.cause.Cause.{Cause}
use Rattle.mr_phases.specs.Schedule.{Hop, phase_of}
use Rattle.mr_proxy.specs.Answer.{AnswerView}
use Rattle.mr_counting.specs.Counting.{one_more}
use Rattle.mr_counting.specs.LegTimes.{no_times, timed}
use Rattle.mr_counting.specs.LoopTotals.{no_answers, no_requests}
use Rattle.mr_counting.specs.ProxyCounts.{request_counted, answer_counted, cause_counted, later_of}
use Rattle.mr_loop.specs.declared.counts.LoopCounts.{LoopCounts}
use Rattle.mr_loop.specs.declared.link_counts.LinkCounts.{LinkCounts}
use Rattle.mr_loop.specs.declared.sent_legs.SentLeg.{SentLeg}
use Rattle.mr_proxy.specs.declared.sheet.LegSheet.{LegSheet}

-- no request came to an answer yet
abbrev pub no_counts : LoopCounts
no_counts = record { requests = no_requests; answers = no_answers; last_issue = None }

-- an answer is counted, and its request in the phase of its own reading
abbrev pub with_counted : List Hop → AnswerView → LoopCounts → LoopCounts
with_counted hops answer counts = record {
  requests = request_counted answer.request (phase_of hops answer.reading) counts.requests;
  answers = answer_counted answer counts.answers;
  last_issue = later_of counts.last_issue answer.reading;
}

-- the answer is counted, if there is one
abbrev pub counted_if : List Hop → Option AnswerView → LoopCounts → LoopCounts
counted_if hops None counts = counts
counted_if hops (Some answer) counts = with_counted hops answer counts

-- a request was not begun for this cause
abbrev pub with_denied : Cause → LoopCounts → LoopCounts
with_denied cause counts = record counts { answers = cause_counted cause counts.answers }

-- nothing happened to a link yet
abbrev pub no_link_counts : LinkCounts
no_link_counts = record { dials = 0; breaks = 0; carried = 0; lost = 0; times = no_times }

-- so it is counted of each of these legs
abbrev pub each_counted : (LinkCounts → LinkCounts) → List LegSheet → LinkCounts → LinkCounts
each_counted one [] counts = counts
each_counted one (sheet ∷ sheets) counts = each_counted one sheets (one counts)

-- the reply of one leg came, after so long
abbrev pub one_carried : ℕ → LinkCounts → LinkCounts
one_carried time counts = record counts { carried = one_more counts.carried; times = timed time counts.times }

-- the reply of a leg came at this time, and of those that travelled with it
abbrev pub leg_carried : ℕ → SentLeg → LinkCounts → LinkCounts
leg_carried now sent counts = each_counted (one_carried (now - sent.sent_at)) (sent.leg ∷ sent.others) counts

-- one leg that went is lost, after so long
abbrev pub one_lost : ℕ → LinkCounts → LinkCounts
one_lost time counts = record counts { lost = one_more counts.lost; times = timed time counts.times }

-- a leg went with others, and at this time no reply can come any more that answers them
abbrev pub leg_lost : ℕ → SentLeg → LinkCounts → LinkCounts
leg_lost now sent counts = each_counted (one_lost (now - sent.sent_at)) (sent.leg ∷ sent.others) counts

-- one leg couldn't go: it is lost, and took no time
abbrev pub one_unsent : LinkCounts → LinkCounts
one_unsent counts = record counts { lost = one_more counts.lost }

-- a leg couldn't go, nor those that were to travel with it
abbrev pub leg_unsent : SentLeg → LinkCounts → LinkCounts
leg_unsent sent counts = each_counted one_unsent (sent.leg ∷ sent.others) counts

-- the replies of these came at this time, in their order
abbrev pub legs_carried : ℕ → List SentLeg → LinkCounts → LinkCounts
legs_carried now [] counts = counts
legs_carried now (sent ∷ legs) counts = legs_carried now legs (leg_carried now sent counts)

-- these are lost at this time, in their order
abbrev pub legs_lost : ℕ → List SentLeg → LinkCounts → LinkCounts
legs_lost now [] counts = counts
legs_lost now (sent ∷ legs) counts = legs_lost now legs (leg_lost now sent counts)

-- a connection that was there is gone
abbrev pub break_counted : Bool → LinkCounts → LinkCounts
break_counted was_up counts = if was_up then record counts { breaks = one_more counts.breaks } else counts

-- a dial was begun
abbrev pub dial_counted : LinkCounts → LinkCounts
dial_counted counts = record counts { dials = one_more counts.dials }

-- of these legs the first have their replies now and are counted as carried, and the others are left
pub record CountsCarried (now : ℕ) (legs left : List SentLeg) (old new : LinkCounts) : Type 0 where
  pub carried : List SentLeg
  pub splits : legs ≡ carried ++ left
  pub counted : new ≡ legs_carried now carried old
