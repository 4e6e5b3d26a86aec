-- How many requests are under way after a step of the core.
use Rattle.std.proofs.Common.{◌≡◌, ℕ, ◌+◌, ◌<◌, ◌≤◌, Bool, true, false, cond, Option, Some, None, length, slice_set, refl, arith}
use Rattle.std.specs.Prelude.{remove}
use Rattle.std.specs.Option.{option_and_then}
use Rattle.std.proofs.lemmas.List.{length-set}
use Rattle.std.proofs.lemmas.List.Edits.{length-remove}
use Rattle.std.proofs.lemmas.Option.{slice_get_within}
use Rattle.mr_history.specs.declared.op_id.OpId.{OpId}
use Rattle.mr_join.specs.declared.leg_reply.LegReply.{LegReply}
use Rattle.mr_proxy.specs.Answer.{AnswerView, answer_of}
use Rattle.mr_proxy.specs.Pending.{PendingView, is_complete, with_reply}
use Rattle.mr_proxy.specs.ProxyView.{ProxyView}
use Rattle.mr_proxy.specs.Transitions.{place_of_op, pending_with, noted_by, settled, taken_by, taken_of, after_take, left_by, given_up_in, given_up_of, after_give_up}
use Rattle.mr_proxy.specs.declared.sheet.LegId.{LegId}
use Rattle.mr_proxy.specs.declared.taken.Taken.TheVariants.{Waiting, Answered, Stranger}

is_there : (o : Option PendingView) (f : PendingView → Option PendingView) (noted : PendingView)
    → option_and_then f o ≡ Some noted → (pending : PendingView) × (o ≡ Some pending)
is_there None f noted h = absurd (let no : None ≡ Some noted = h in cc)
is_there (Some pending) f noted h = (pending, refl)

place_within : (p : ProxyView) (id : LegId) (reply : LegReply) (noted : PendingView) → noted_by p id reply ≡ Some noted
    → place_of_op p.outstanding id.op < length p.outstanding
place_within p id reply noted h =
    let there = is_there (pending_with p.outstanding id.op) (λ pending. with_reply pending id.place reply) noted h in
    slice_get_within p.outstanding (place_of_op p.outstanding id.op) there.0 there.1

abbrev without : ProxyView → ℕ → ProxyView
without p place = record p { outstanding = remove p.outstanding place }

abbrev written : ProxyView → ℕ → PendingView → ProxyView
written p place pending = record p { outstanding = slice_set p.outstanding place pending }

fewer_if : (whole : Bool) (p : ProxyView) (place : ℕ) (pending : PendingView) (answer : AnswerView) → place < length p.outstanding
    → cond whole (Answered (answer_of pending false)) Waiting ≡ Answered answer
    → length (cond whole (without p place) (written p place pending)).outstanding + 1 ≡ length p.outstanding
fewer_if true p place pending answer within h = length-remove p.outstanding place within
fewer_if false p place pending answer within h = absurd (let no : Waiting ≡ Answered answer = h in cc)

kept_if : (whole : Bool) (p : ProxyView) (place : ℕ) (pending : PendingView) → place < length p.outstanding
    → length (cond whole (without p place) (written p place pending)).outstanding ≤ length p.outstanding
kept_if true p place pending within = omega (arith, length-remove p.outstanding place within)
kept_if false p place pending within = omega (arith, length-set p.outstanding place pending)

fewer_by : (p : ProxyView) (place : ℕ) (reply : LegReply) (noted : Option PendingView) (answer : AnswerView)
    → ((pending : PendingView) → noted ≡ Some pending → place < length p.outstanding) → taken_by reply noted ≡ Answered answer
    → length (settled p place noted).outstanding + 1 ≡ length p.outstanding
fewer_by p place reply None answer within h = absurd (let no : Stranger reply ≡ Answered answer = h in cc)
fewer_by p place reply (Some pending) answer within h = fewer_if (is_complete pending) p place pending answer (within pending refl) h

kept_by : (p : ProxyView) (place : ℕ) (noted : Option PendingView)
    → ((pending : PendingView) → noted ≡ Some pending → place < length p.outstanding)
    → length (settled p place noted).outstanding ≤ length p.outstanding
kept_by p place None within = omega arith
kept_by p place (Some pending) within = kept_if (is_complete pending) p place pending (within pending refl)

-- the last reply of a request takes it out
pub fewer_taken : (p : ProxyView) (id : LegId) (reply : LegReply) (answer : AnswerView) → taken_of p id reply ≡ Answered answer
    → length (after_take p id reply).outstanding + 1 ≡ length p.outstanding
fewer_taken p id reply answer h =
    fewer_by p (place_of_op p.outstanding id.op) reply (noted_by p id reply) answer (λ pending e. place_within p id reply pending e) h

-- a reply adds none
pub kept_taken : (p : ProxyView) (id : LegId) (reply : LegReply) → length (after_take p id reply).outstanding ≤ length p.outstanding
kept_taken p id reply = kept_by p (place_of_op p.outstanding id.op) (noted_by p id reply) (λ pending e. place_within p id reply pending e)

left_fewer : (p : ProxyView) (place : ℕ) (pending : Option PendingView) (answer : AnswerView)
    → ((it : PendingView) → pending ≡ Some it → place < length p.outstanding) → given_up_in pending ≡ Some answer
    → length (left_by p place pending).outstanding + 1 ≡ length p.outstanding
left_fewer p place None answer within h = absurd (let no : None ≡ Some answer = h in cc)
left_fewer p place (Some pending) answer within h = length-remove p.outstanding place (within pending refl)

-- a request that is given up leaves
pub fewer_given_up : (p : ProxyView) (op : OpId) (answer : AnswerView) → given_up_of p op ≡ Some answer
    → length (after_give_up p op).outstanding + 1 ≡ length p.outstanding
fewer_given_up p op answer h =
    left_fewer p (place_of_op p.outstanding op) (pending_with p.outstanding op) answer
    (λ pending e. slice_get_within p.outstanding (place_of_op p.outstanding op) pending e) h

left_kept : (p : ProxyView) (place : ℕ) (pending : Option PendingView)
    → ((it : PendingView) → pending ≡ Some it → place < length p.outstanding)
    → length (left_by p place pending).outstanding ≤ length p.outstanding
left_kept p place None within = omega arith
left_kept p place (Some pending) within = omega (arith, length-remove p.outstanding place (within pending refl))

-- giving up adds none
pub kept_given_up : (p : ProxyView) (op : OpId) → length (after_give_up p op).outstanding ≤ length p.outstanding
kept_given_up p op =
    left_kept p (place_of_op p.outstanding op) (pending_with p.outstanding op)
    (λ pending e. slice_get_within p.outstanding (place_of_op p.outstanding op) pending e)
