-- What a proxy counts of what it is asked and of what it answers.
use Rattle.std.specs.Prelude.{ℕ, Bool, true, false, max, List, map, fold, Option, Some, None, if◌then◌else◌}
use Rattle.std.specs.List.{list_any}
use Rattle.mr_text.specs.declared.cause.Cause.{Cause}
use Rattle.mr_text.specs.declared.cause.Cause.TheVariants as cause
use Rattle.mr_text.specs.declared.request.Request.{Request}
use Rattle.mr_text.specs.declared.request.Request.TheVariants.{Get, Set, Delete, Quit}
use Rattle.mr_phases.specs.declared.phase_name.PhaseName.{PhaseName}
use Rattle.mr_phases.specs.declared.phase_name.PhaseName.TheVariants.{OldOnly, BothReadOld, BothReadNew, NewOnly}
use Rattle.mr_join.specs.Join.{first_cause}
use Rattle.mr_join.specs.declared.leg_reply.LegReply.{LegReply}
use Rattle.mr_join.specs.declared.leg_reply.LegReply.TheVariants.{Hit, Miss, Stored, Deleted, NotFound, Failed}
use Rattle.mr_proxy.specs.Answer.{AnswerView}
use Rattle.mr_proxy.specs.Slots.{reply_of_slot}
use Rattle.mr_counting.specs.Counting.{one_more}
use Rattle.mr_counting.specs.declared.answer_counts.AnswerCounts.{AnswerCounts}
use Rattle.mr_counting.specs.declared.request_counts.PhaseCounts.{PhaseCounts}
use Rattle.mr_counting.specs.declared.request_counts.RequestCounts.{RequestCounts}

-- one more in a phase
abbrev pub phase_counted : PhaseName → PhaseCounts → PhaseCounts
phase_counted OldOnly counts = record counts { old_only = one_more counts.old_only }
phase_counted BothReadOld counts = record counts { both_read_old = one_more counts.both_read_old }
phase_counted BothReadNew counts = record counts { both_read_new = one_more counts.both_read_new }
phase_counted NewOnly counts = record counts { new_only = one_more counts.new_only }

-- one more request of its command, in the phase in force
abbrev pub request_counted : Request → PhaseName → RequestCounts → RequestCounts
request_counted (Get keys) phase counts = record counts { gets = phase_counted phase counts.gets }
request_counted (Set key flags exptime block noreply) phase counts = record counts { sets = phase_counted phase counts.sets }
request_counted (Delete key noreply) phase counts = record counts { deletes = phase_counted phase counts.deletes }
request_counted Quit phase counts = counts

-- why a request failed
abbrev pub cause_counted : Cause → AnswerCounts → AnswerCounts
cause_counted cause.LegLost counts = record counts { leg_lost = one_more counts.leg_lost }
cause_counted cause.Busy counts = record counts { busy = one_more counts.busy }
cause_counted cause.OutOfMemory counts = record counts { out_of_memory = one_more counts.out_of_memory }
cause_counted cause.ClockFault counts = record counts { clock_fault = one_more counts.clock_fault }
cause_counted _ counts = record counts { other_fault = one_more counts.other_fault }

-- a key of a get
abbrev pub key_counted : AnswerCounts → LegReply → AnswerCounts
key_counted counts (Hit flags block) = record counts { hits = one_more counts.hits }
key_counted counts Miss = record counts { misses = one_more counts.misses }
key_counted counts Stored = counts
key_counted counts Deleted = counts
key_counted counts NotFound = counts
key_counted counts (Failed cause) = counts

-- the leg found nothing to delete
abbrev pub is_not_found : LegReply → Bool
is_not_found NotFound = true
is_not_found (Hit flags block) = false
is_not_found Miss = false
is_not_found Stored = false
is_not_found Deleted = false
is_not_found (Failed cause) = false

-- a delete found nothing where one of its legs did not
abbrev pub delete_counted : Bool → AnswerCounts → AnswerCounts
delete_counted missing counts =
    if missing then record counts { not_found = one_more counts.not_found } else record counts { deleted = one_more counts.deleted }

-- what a request is answered whose legs did not fail: of a get each key
abbrev pub success_counted : Request → List LegReply → AnswerCounts → AnswerCounts
success_counted (Get keys) replies counts = fold key_counted counts replies
success_counted (Set key flags exptime block noreply) replies counts = record counts { stored = one_more counts.stored }
success_counted (Delete key noreply) replies counts = delete_counted (list_any is_not_found replies) counts
success_counted Quit replies counts = counts

-- what a request is answered: why its first leg that failed did, if one did
abbrev pub replies_counted : Option Cause → Request → List LegReply → AnswerCounts → AnswerCounts
replies_counted (Some cause) request replies counts = cause_counted cause counts
replies_counted None request replies counts = success_counted request replies counts

-- what each leg of an answer came to
abbrev pub replies_of : AnswerView → List LegReply
replies_of answer = map reply_of_slot answer.slots

-- what a request was answered is counted
abbrev pub answer_counted : AnswerView → AnswerCounts → AnswerCounts
answer_counted answer counts = replies_counted (first_cause (replies_of answer)) answer.request (replies_of answer) counts

-- the later of the readings so far and this one
abbrev pub later_of : Option ℕ → ℕ → Option ℕ
later_of None reading = Some reading
later_of (Some last) reading = Some (max last reading)
