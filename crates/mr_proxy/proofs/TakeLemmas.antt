-- What taking a reply, giving a request up and an issue leave.
use Rattle.std.proofs.Common.{◌≡◌, ◌≢◌, ℕ, ◌<◌, ◌≤◌, Bool, true, false, List, [], ◌∷◌, length, map, get_or, remove, slice_get, All, AllPairs, count_by, Option, Some, None, Result, Ok, Err, refl, sym, ap, subst, ◌∙◌, zero, suc, arith}
use Rattle.std.specs.Option.{option_map, IfSome}
use Rattle.std.proofs.lemmas.Option.{slice_get_within}
use Rattle.std.proofs.lemmas.List.{length-map}
use Rattle.mr_text.specs.declared.request.Request.{Request}
use Rattle.mr_text.specs.declared.request.Request.TheVariants as request
use Rattle.mr_history.specs.declared.op_id.OpId.{OpId}
use Rattle.mr_join.specs.declared.leg_reply.LegReply.{LegReply}
use Rattle.mr_proxy.specs.declared.sheet.LegId.{LegId}
use Rattle.mr_proxy.specs.declared.sheet.LegSheet.{LegSheet}
use Rattle.mr_proxy.specs.declared.slot.Slot.{Slot}
use Rattle.mr_proxy.specs.declared.taken.Taken.{Taken}
use Rattle.mr_proxy.specs.declared.taken.Taken.TheVariants as taken
use Rattle.mr_proxy.specs.Slots.{open_slot, is_open}
use Rattle.mr_proxy.specs.Pending.{PendingView, is_complete}
use Rattle.mr_proxy.specs.Answer.{answer_of}
use Rattle.mr_proxy.specs.ProxyView.{ProxyView}
use Rattle.mr_proxy.specs.Issue.{next_op, used_reading, sheets_of, after_issue}
use Rattle.mr_proxy.specs.Transitions.{place_of_op, pending_with, noted_by, settled as settled_by, after_take, taken_by, taken_of, left_by, after_give_up, given_up_in, given_up_of}
use Rattle.mr_phases.specs.Schedule.{hop_of}
use Rattle.mr_proxy.specs.Sheets.{IsPlaced, HasHop}
use Rattle.mr_proxy.specs.Sound.{HasLegs, IsSound, IsSoundAnswer}
use Rattle.mr_proxy.specs.Sound.ProxyStep.{takes}
use Rattle.mr_proxy.specs.steps.Outstanding.{settled_at, list_settled, settled_as}
use Rattle.mr_proxy.proofs.OpenLemmas.{all_open}
use Rattle.mr_proxy.proofs.OutstandingLemmas.{remove_none}
use Rattle.mr_proxy.proofs.SoundLemmas.{steps_keep_sound_lem, issue_sound, issued_some, nodes_within, last_reply_answers_lem, given_up_early_lem, removed}

-- a proxy whose number and incarnation stay, and whose list becomes another
pub with_list : (p : ProxyView) (number incarnation : ℕ) (list other : List PendingView) → number ≡ p.number → incarnation ≡ p.incarnation → list ≡ other
    → record p { number = number; incarnation = incarnation; outstanding = list } ≡ record p { outstanding = other }
with_list p number incarnation list other same_number same_incarnation is = rw (same_number, same_incarnation, is) refl

list_by : (p : ProxyView) (place : ℕ) (n : PendingView) (t : Bool) → is_complete n ≡ t
    → record p { outstanding = settled_at p.outstanding place (Some n) } ≡ settled_by p place (Some n)
list_by p place n true e = rw e
list_by p place n false e = rw e

list_at : (p : ProxyView) (place : ℕ) (w : Option PendingView) → record p { outstanding = settled_at p.outstanding place w } ≡ settled_by p place w
list_at p place None = refl
list_at p place (Some n) = list_by p place n (is_complete n) refl

-- a reply changes the list alone
pub taken_list : (p : ProxyView) (id : LegId) (reply : LegReply) → record p { outstanding = list_settled p.outstanding id reply } ≡ after_take p id reply
taken_list p id reply = list_at p (place_of_op p.outstanding id.op) (noted_by p id reply)

pub taken_sound : (p : ProxyView) (id : LegId) (reply : LegReply) → IsSound p → IsSound (record p { outstanding = list_settled p.outstanding id reply })
taken_sound p id reply s = subst IsSound (sym (taken_list p id reply)) (steps_keep_sound_lem p (after_take p id reply) s (takes id reply))

-- what a proxy says of what became of a reply
abbrev pub taken_as : Result (Option PendingView) LegReply → Taken
taken_as (Err reply) = taken.Stranger reply
taken_as (Ok None) = taken.Waiting
taken_as (Ok (Some pending)) = taken.Answered (answer_of pending false)

as_taken_by : (reply : LegReply) (n : PendingView) (t : Bool) → is_complete n ≡ t → taken_as (settled_as reply (Some n)) ≡ taken_by reply (Some n)
as_taken_by reply n true e = rw e refl
as_taken_by reply n false e = rw e refl

as_taken : (reply : LegReply) (w : Option PendingView) → taken_as (settled_as reply w) ≡ taken_by reply w
as_taken reply None = refl
as_taken reply (Some n) = as_taken_by reply n (is_complete n) refl

pub became : (p : ProxyView) (id : LegId) (reply : LegReply) (what : Result (Option PendingView) LegReply) → what ≡ settled_as reply (noted_by p id reply) → taken_as what ≡ taken_of p id reply
became p id reply what is = ap taken_as is ∙ as_taken reply (noted_by p id reply)

-- the answer to a request whose last reply came
pub last_answers : (p : ProxyView) (id : LegId) (reply : LegReply) (pending : PendingView) → IsSound p
    → Ok (Some pending) ≡ settled_as reply (noted_by p id reply) → IsSoundAnswer p (answer_of pending false)
last_answers p id reply pending s is =
    last_reply_answers_lem p id reply (answer_of pending false) s (sym (became p id reply (Ok (Some pending)) is))

-- a proxy once a request is given up, and its answer
pub record HasGivenUp (p : ProxyView) (op : OpId) (list : List PendingView) (out : PendingView) : Type 0 where
  pub state : record p { outstanding = list } ≡ after_give_up p op
  pub answer : given_up_of p op ≡ Some (answer_of out true)
  pub sound : IsSound (record p { outstanding = list })
  pub answers : IsSoundAnswer p (answer_of out true)

pub given_up : (p : ProxyView) (op : OpId) (out : PendingView) → IsSound p → pending_with p.outstanding op ≡ Some out
    → HasGivenUp p op (remove p.outstanding (place_of_op p.outstanding op)) out
given_up p op out s got =
    let answer : given_up_of p op ≡ Some (answer_of out true) = ap given_up_in got in
    record {
      state = sym (ap (left_by p (place_of_op p.outstanding op)) got);
      answer = answer;
      sound = removed p (place_of_op p.outstanding op) (slice_get_within p.outstanding (place_of_op p.outstanding op) out got) s;
      answers = given_up_early_lem p op (answer_of out true) s answer;
    }

-- no request of that name is under way
pub record HasNone (p : ProxyView) (op : OpId) : Type 0 where
  pub unknown : given_up_of p op ≡ None
  pub list : remove p.outstanding (place_of_op p.outstanding op) ≡ p.outstanding
  pub state : after_give_up p op ≡ p

pub given_up_none : (p : ProxyView) (op : OpId) → pending_with p.outstanding op ≡ None → HasNone p op
given_up_none p op none =
    record {
      unknown = ap given_up_in none;
      list = remove_none p.outstanding (place_of_op p.outstanding op) none;
      state = ap (left_by p (place_of_op p.outstanding op)) none;
    }

least_in : (list : List PendingView) → AllPairs (λ (earlier later : PendingView). earlier.op.number < later.op.number) list → (op : OpId)
    → option_map (λ (pending : PendingView). pending.op) (slice_get list 0) ≡ Some op → All (λ pending. op.number ≤ pending.op.number) list
least_in [] order op e k d below = cc
least_in (first ∷ list) order op e k d below = by k below
  where
    by : (k : ℕ) → k < length (first ∷ list) → op.number ≤ (get_or (first ∷ list) k d).op.number
    by zero below = let is : first.op ≡ op = cc in let same = ap (λ (o : OpId). o.number) is in omega arith
    by (suc k) below = let is : first.op ≡ op = cc in let same = ap (λ (o : OpId). o.number) is in let less = order zero (suc k) d (omega arith) below in omega arith

-- the request that was issued first has the least number
pub oldest_least : (list : List PendingView) → AllPairs (λ (earlier later : PendingView). earlier.op.number < later.op.number) list → (o : Option OpId)
    → o ≡ option_map (λ (pending : PendingView). pending.op) (slice_get list 0) → IfSome o (λ op. All (λ pending. op.number ≤ pending.op.number) list)
oldest_least list order None e = tt
oldest_least list order (Some op) e = least_in list order op (sym e)

-- each leg of a request that was just sent is open
pub sent_open : (slots : List Slot) (sheets : List LegSheet) → slots ≡ map open_slot sheets → count_by is_open slots ≡ length slots
sent_open slots sheets e =
    ap (count_by is_open) e ∙ all_open sheets ∙ sym (ap length e ∙ length-map sheets open_slot)

pub issued_sound : (p now new : ProxyView) (t : ℕ) (q : Request) → p ≡ now → new ≡ after_issue now t q → (q ≢ request.Quit → HasLegs q) → q ≢ request.Quit
    → IsSound p → IsSound new
issued_sound p now new t q same is legs goes s = subst IsSound (sym is) (issue_sound now t q (legs goes) (subst IsSound same s))

pub issued_legs : (now : ProxyView) (t : ℕ) (q : Request) (sheets : List LegSheet) → sheets ≡ sheets_of now t q → (q ≢ request.Quit → HasLegs q) → q ≢ request.Quit
    → 1 ≤ length sheets
issued_legs now t q sheets is legs goes = subst (λ (l : List LegSheet). 1 ≤ length l) (sym is) (issued_some now t q (legs goes))

pub issued_nodes : (p now : ProxyView) (t : ℕ) (q : Request) (sheets : List LegSheet) → p ≡ now → sheets ≡ sheets_of now t q → IsSound p
    → HasHop now.routing (hop_of now.schedule (used_reading now.last t)) → All (IsPlaced now.routing) sheets
issued_nodes p now t q sheets same is s has =
    let sound = subst IsSound same s in
    subst (All (IsPlaced now.routing)) (sym is)
    (nodes_within now.routing now.schedule (next_op now) (used_reading now.last t) q sound.routing has)
