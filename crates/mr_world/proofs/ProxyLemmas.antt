-- What the steps of one proxy keep, and which requests are left under way.
use Rattle.std.proofs.Common.{◌≡◌, ℕ, inl, inr, Bool, true, false, List, get_or, remove, slice_get, slice_set, Option, Some, None, if◌then◌else◌, refl, sym, ap, ◌∙◌, arith}
use Rattle.std.specs.Option.{option_and_then}
use Rattle.std.proofs.lemmas.Option.{get_or_from_slice_get}
use Rattle.std.proofs.lemmas.Bool.{cases_order}
use Rattle.mr_history.specs.declared.op_id.OpId.{OpId}
use Rattle.mr_history.specs.Places.{At}
use Rattle.mr_join.specs.declared.leg_reply.LegReply.{LegReply}
use Rattle.mr_proxy.specs.declared.sheet.LegId.{LegId}
use Rattle.mr_proxy.specs.declared.slot.Slot.{Slot}
use Rattle.mr_proxy.specs.declared.taken.Taken.TheVariants.{Waiting, Answered}
use Rattle.mr_proxy.specs.Slots.{is_awaiting}
use Rattle.mr_proxy.specs.Pending.{PendingView, is_complete, with_reply, with_reply_in}
use Rattle.mr_proxy.specs.Answer.{AnswerView, answer_of}
use Rattle.mr_proxy.specs.ProxyView.{ProxyView}
use Rattle.mr_proxy.specs.Transitions.{place_of_op, pending_with, noted_by, settled, after_take, taken_by, taken_of, left_by, after_give_up, given_up_in, given_up_of}
use Rattle.mr_proxy.specs.Sound.{ProxyStep, IsSound}
use Rattle.mr_proxy.specs.Sound.ProxyStep.{issues, takes, gives_up, restarts}
use Rattle.mr_world.specs.Lists.{Has}
use Rattle.mr_world.proofs.Lists.{at_removed, at_set, at_within}

-- a proxy keeps its number and its pools
pub record Keeps (p q : ProxyView) : Type 0 where
  pub number : q.number ≡ p.number
  pub routing : q.routing ≡ p.routing

keeps_settled_if : (p : ProxyView) (place : ℕ) (pending : PendingView) (b : Bool)
    → Keeps p (if b then record p { outstanding = remove p.outstanding place } else record p { outstanding = slice_set p.outstanding place pending })
keeps_settled_if p place pending true = record { number = refl; routing = refl }
keeps_settled_if p place pending false = record { number = refl; routing = refl }

keeps_settled : (p : ProxyView) (place : ℕ) (o : Option PendingView) → Keeps p (settled p place o)
keeps_settled p place None = record { number = refl; routing = refl }
keeps_settled p place (Some pending) = keeps_settled_if p place pending (is_complete pending)

keeps_left : (p : ProxyView) (place : ℕ) (o : Option PendingView) → Keeps p (left_by p place o)
keeps_left p place None = record { number = refl; routing = refl }
keeps_left p place (Some pending) = record { number = refl; routing = refl }

pub step_keeps : (p q : ProxyView) → ProxyStep p q → Keeps p q
step_keeps p q (issues t request has room) = record { number = refl; routing = refl }
step_keeps p q (takes id reply) = keeps_settled p (place_of_op p.outstanding id.op) (noted_by p id reply)
step_keeps p q (gives_up op) = keeps_left p (place_of_op p.outstanding op) (pending_with p.outstanding op)
step_keeps p q restarts = record { number = refl; routing = refl }

-- two requests under way have different names
names_differ : (p : ProxyView) (i j : ℕ) (x y : PendingView) → IsSound p → (i ≡ j → ⊥) → At p.outstanding i x → At p.outstanding j y → x.op ≡ y.op → ⊥
names_differ p i j x y s apart at at' same =
    let a = get_or_from_slice_get p.outstanding i x x at.gets in
    let b = get_or_from_slice_get p.outstanding j y x at'.gets in
    let below = at_within at in
    let below' = at_within at' in
    let number = ap (λ (op : OpId). op.number) same in
    let first : (get_or p.outstanding i x).op.number ≡ x.op.number = ap (λ (z : PendingView). z.op.number) a in
    let second : (get_or p.outstanding j x).op.number ≡ y.op.number = ap (λ (z : PendingView). z.op.number) b in
    elim (cases_order i j) [
      | inl equal ↦ apart equal
      | inr differ ↦ elim differ [
        | inl less ↦ let order = s.in_order i j x less below' in absurd (omega arith)
        | inr less ↦ let order = s.in_order j i x less below in absurd (omega arith)
      ]
    ]

-- a request that is under way afterwards was under way before, by this name, and isn't the one that is answered
pub record StaysUnderWay (p : ProxyView) (op : OpId) (Leaves : OpId → Type 0) : Type 0 where
  pub place : ℕ
  pub pending : PendingView
  pub there : At p.outstanding place pending
  pub same_op : pending.op ≡ op
  pub stays : Leaves op → ⊥

-- the request that is noted
pub record IsNoted (p : ProxyView) (place : ℕ) (noted : PendingView) : Type 0 where
  pub pending : PendingView
  pub there : At p.outstanding place pending
  pub same_op : noted.op ≡ pending.op
  pub same_request : noted.request ≡ pending.request

noted_if : (pending noted : PendingView) (slots : List Slot) (b : Bool) → (if b then Some (record pending { slots = slots }) else None) ≡ Some noted
    → (noted.op ≡ pending.op) × (noted.request ≡ pending.request)
noted_if pending noted slots true e = let same : record pending { slots = slots } ≡ noted = cc in (ap (λ (x : PendingView). x.op) (sym same), ap (λ (x : PendingView). x.request) (sym same))
noted_if pending noted slots false e = cc

noted_slot : (pending noted : PendingView) (place : ℕ) (reply : LegReply) (slot : Option Slot) → with_reply_in pending place reply slot ≡ Some noted
    → (noted.op ≡ pending.op) × (noted.request ≡ pending.request)
noted_slot pending noted place reply None e = cc
noted_slot pending noted place reply (Some slot) e = noted_if pending noted _ (is_awaiting slot reply) e

noted_in : (p : ProxyView) (place : ℕ) (id : LegId) (reply : LegReply) (noted : PendingView) (o : Option PendingView) → slice_get p.outstanding place ≡ o
    → option_and_then (λ pending. with_reply pending id.place reply) o ≡ Some noted → IsNoted p place noted
noted_in p place id reply noted None got e = cc
noted_in p place id reply noted (Some pending) got e =
    let same = noted_slot pending noted id.place reply (slice_get pending.slots id.place) e in
    record { pending = pending; there = record { gets = got }; same_op = same.0; same_request = same.1 }

pub is_noted : (p : ProxyView) (id : LegId) (reply : LegReply) (noted : PendingView) → noted_by p id reply ≡ Some noted
    → IsNoted p (place_of_op p.outstanding id.op) noted
is_noted p id reply noted e =
    noted_in p (place_of_op p.outstanding id.op) id reply noted (slice_get p.outstanding (place_of_op p.outstanding id.op)) refl e

abbrev pub AnswersOp : ProxyView → LegId → LegReply → OpId → Type 0
AnswersOp p id reply op = (answer : AnswerView) × (taken_of p id reply ≡ Answered answer) × (answer.op ≡ op)

stays_if : (p : ProxyView) (place : ℕ) (reply : LegReply) (noted x : PendingView) (b : Bool) → IsSound p → IsNoted p place noted
    → Has (if b then record p { outstanding = remove p.outstanding place } else record p { outstanding = slice_set p.outstanding place noted }).outstanding x
    → StaysUnderWay p x.op (λ op. (answer : AnswerView) × ((if b then Answered (answer_of noted false) else Waiting) ≡ Answered answer) × (answer.op ≡ op))
stays_if p place reply noted x true s n has =
    let (j, apart, there) = at_removed p.outstanding place has.there in
    record {
      place = j;
      pending = x;
      there = there;
      same_op = refl;
      stays = λ leaves.
          let is : answer_of noted false ≡ leaves.0 = let e = leaves.1 in cc in
          let same : x.op ≡ n.pending.op = sym (leaves.2) ∙ ap (λ (a : AnswerView). a.op) (sym is) ∙ n.same_op in
          names_differ p j place x n.pending s apart there n.there same;
    }
stays_if p place reply noted x false s n has =
    elim (at_set p.outstanding place noted has.there) [
      | inl new ↦ record { place = place; pending = n.pending; there = n.there; same_op = sym n.same_op ∙ ap (λ (z : PendingView). z.op) (sym new.1); stays = λ leaves. let e = leaves.1 in cc }
      | inr old ↦ record { place = has.place; pending = x; there = old.1; same_op = refl; stays = λ leaves. let e = leaves.1 in cc }
    ]

stays_settled : (p : ProxyView) (id : LegId) (reply : LegReply) (x : PendingView) (o : Option PendingView) → noted_by p id reply ≡ o → IsSound p
    → Has (settled p (place_of_op p.outstanding id.op) o).outstanding x
    → StaysUnderWay p x.op (λ op. (answer : AnswerView) × (taken_by reply o ≡ Answered answer) × (answer.op ≡ op))
stays_settled p id reply x None is s has =
    record { place = has.place; pending = x; there = has.there; same_op = refl; stays = λ leaves. let e = leaves.1 in cc }
stays_settled p id reply x (Some noted) is s has =
    stays_if p (place_of_op p.outstanding id.op) reply noted x (is_complete noted) s (is_noted p id reply noted is) has

pub stays_after_take : (p : ProxyView) (id : LegId) (reply : LegReply) (x : PendingView) → IsSound p → Has (after_take p id reply).outstanding x
    → StaysUnderWay p x.op (AnswersOp p id reply)
stays_after_take p id reply x s has = stays_settled p id reply x (noted_by p id reply) refl s has

-- the answer is that of a request under way
pub record AnswersPending (p : ProxyView) (answer : AnswerView) : Type 0 where
  pub place : ℕ
  pub pending : PendingView
  pub there : At p.outstanding place pending
  pub same_op : answer.op ≡ pending.op
  pub same_request : answer.request ≡ pending.request

answers_if : (p : ProxyView) (place : ℕ) (noted : PendingView) (answer : AnswerView) (b : Bool) → IsNoted p place noted
    → (if b then Answered (answer_of noted false) else Waiting) ≡ Answered answer → AnswersPending p answer
answers_if p place noted answer true n e =
    let is : answer_of noted false ≡ answer = cc in
    record { place = place; pending = n.pending; there = n.there; same_op = ap (λ (a : AnswerView). a.op) (sym is) ∙ n.same_op; same_request = ap (λ (a : AnswerView). a.request) (sym is) ∙ n.same_request }
answers_if p place noted answer false n e = cc

answers_settled : (p : ProxyView) (id : LegId) (reply : LegReply) (answer : AnswerView) (o : Option PendingView) → noted_by p id reply ≡ o
    → taken_by reply o ≡ Answered answer → AnswersPending p answer
answers_settled p id reply answer None is e = cc
answers_settled p id reply answer (Some noted) is e = answers_if p (place_of_op p.outstanding id.op) noted answer (is_complete noted) (is_noted p id reply noted is) e

pub taken_answers : (p : ProxyView) (id : LegId) (reply : LegReply) (answer : AnswerView) → taken_of p id reply ≡ Answered answer → AnswersPending p answer
taken_answers p id reply answer e = answers_settled p id reply answer (noted_by p id reply) refl e

given_in : (p : ProxyView) (place : ℕ) (answer : AnswerView) (o : Option PendingView) → slice_get p.outstanding place ≡ o → given_up_in o ≡ Some answer
    → AnswersPending p answer
given_in p place answer None got e = cc
given_in p place answer (Some pending) got e =
    let is : answer_of pending true ≡ answer = cc in
    record { place = place; pending = pending; there = record { gets = got }; same_op = ap (λ (a : AnswerView). a.op) (sym is); same_request = ap (λ (a : AnswerView). a.request) (sym is) }

pub given_up_answers : (p : ProxyView) (op : OpId) (answer : AnswerView) → given_up_of p op ≡ Some answer → AnswersPending p answer
given_up_answers p op answer e = given_in p (place_of_op p.outstanding op) answer (pending_with p.outstanding op) refl e

stays_left : (p : ProxyView) (place : ℕ) (x : PendingView) (answer : AnswerView) (o : Option PendingView) → slice_get p.outstanding place ≡ o → IsSound p
    → given_up_in o ≡ Some answer → Has (left_by p place o).outstanding x → StaysUnderWay p x.op (λ op. answer.op ≡ op)
stays_left p place x answer None got s e has = cc
stays_left p place x answer (Some pending) got s e has =
    let is : answer_of pending true ≡ answer = cc in
    let (j, apart, there) = at_removed p.outstanding place has.there in
    record {
      place = j;
      pending = x;
      there = there;
      same_op = refl;
      stays = λ leaves.
          let same : x.op ≡ pending.op = sym leaves ∙ ap (λ (a : AnswerView). a.op) (sym is) in
          names_differ p j place x pending s apart there (record { gets = got }) same;
    }

pub stays_after_give_up : (p : ProxyView) (op : OpId) (answer : AnswerView) (x : PendingView) → IsSound p → given_up_of p op ≡ Some answer
    → Has (after_give_up p op).outstanding x → StaysUnderWay p x.op (λ other. answer.op ≡ other)
stays_after_give_up p op answer x s e has = stays_left p (place_of_op p.outstanding op) x answer (pending_with p.outstanding op) refl s e has
