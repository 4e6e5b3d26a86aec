-- How many legs may answer yet, from step to step.
use Rattle.std.proofs.Common.{◌≡◌, ℕ, zero, suc, ◌+◌, ◌≤◌, ◌==◌, Bool, true, false, not, ◌||◌, cond, List, [], ◌∷◌, length, map, get_or, take, remove, slice_get, slice_set, sum_by, count_by, is_some, Option, Some, None, if◌then◌else◌, refl, sym, ap, ◌∙◌, arith}
use Rattle.std.specs.List.{list_any}
use Rattle.std.specs.Option.{option_and_then}
use Rattle.std.proofs.lemmas.List.Sums.{sum_by-cons, sum_by_push, sum_by_more, sum_by-set, sum_by-remove}
use Rattle.std.proofs.lemmas.Option.{slice_get_within, slice_get-get_or}
use Rattle.std.proofs.lemmas.Map.Views.{exact_unsigned_eq}
use Rattle.mr_text.specs.declared.request.Request.{Request}
use Rattle.mr_history.specs.declared.op_id.OpId.{OpId}
use Rattle.mr_join.specs.declared.leg_reply.LegReply.{LegReply}
use Rattle.mr_proxy.specs.declared.sheet.LegId.{LegId}
use Rattle.mr_proxy.specs.declared.sheet.LegSheet.{LegSheet}
use Rattle.mr_proxy.specs.declared.slot.Slot.{Slot}
use Rattle.mr_proxy.specs.Slots.{open_slot, is_open, is_awaiting}
use Rattle.mr_proxy.specs.Pending.{PendingView, is_complete, with_reply}
use Rattle.mr_proxy.specs.Answer.{AnswerView}
use Rattle.mr_proxy.specs.ProxyView.{ProxyView}
use Rattle.mr_proxy.specs.Issue.{sheets_of, pending_of, after_issue}
use Rattle.mr_proxy.specs.Transitions.{place_of_op, pending_with, open_legs_of, noted_by, settled, after_take, given_up_in, given_up_of, left_by, after_give_up}
use Rattle.mr_proxy.specs.Sound.{IsSound}
use Rattle.mr_proxy.proofs.SoundLemmas.{IsNoting, noting_in}

abbrev pub open_count : PendingView → ℕ
open_count pending = count_by is_open pending.slots

pub all_open : (sheets : List LegSheet) → count_by is_open (map open_slot sheets) ≡ length sheets
all_open [] = refl
all_open (sheet ∷ sheets) =
    let head = sum_by-cons (λ (slot : Slot). cond (is_open slot) 1 0) (open_slot sheet) (map open_slot sheets) in
    let rest = all_open sheets in
    head ∙ omega arith

pub issue_opens_lem : (p : ProxyView) (t : ℕ) (q : Request) → open_legs_of (after_issue p t q) ≡ open_legs_of p + length (sheets_of p t q)
issue_opens_lem p t q =
    sum_by_push open_count p.outstanding (pending_of p t q) ∙ ap (λ n. open_legs_of p + n) (all_open (sheets_of p t q))

opened : (slot : Slot) (reply : LegReply) (t : Bool) → is_open slot ≡ t → is_awaiting slot reply ≡ true → is_open slot ≡ true
opened slot reply true e awaited = e
opened slot reply false e awaited = cc

one_less : (pending noted : PendingView) (place : ℕ) (reply : LegReply) → IsNoting pending noted place reply → open_count noted + 1 ≡ open_count pending
one_less pending noted place reply n =
    let slot : Slot = record { sheet = n.slot.sheet; reply = Some reply } in
    let value : Slot → ℕ = λ x. cond (is_open x) 1 0 in
    let within = slice_get_within pending.slots place n.slot n.there in
    let read = slice_get-get_or pending.slots place n.slot within in
    let at = n.there in
    let is : get_or pending.slots place n.slot ≡ n.slot = cc in
    let was_open = opened n.slot reply (is_open n.slot) refl n.awaited in
    let before : value (get_or pending.slots place n.slot) ≡ 1 = ap value is ∙ ap (λ b. cond b 1 0) was_open in
    let change : sum_by value (slice_set pending.slots place slot) + value (get_or pending.slots place n.slot) ≡ sum_by value pending.slots + 0 =
    sum_by-set value pending.slots place slot n.slot within in
    let same : open_count noted ≡ sum_by value (slice_set pending.slots place slot) = ap open_count n.is in
    omega arith

count_with : (slot : Slot) (slots : List Slot) (t : Bool) → is_open slot ≡ t → count_by is_open (slot ∷ slots) ≡ cond t 1 0 + count_by is_open slots
count_with slot slots t e =
    sum_by-cons (λ (x : Slot). cond (is_open x) 1 0) slot slots ∙ ap (λ b. cond b 1 0 + count_by is_open slots) e

none_with : (slot : Slot) (slots : List Slot) (t : Bool) → is_open slot ≡ t → (t || list_any is_open slots) ≡ false
    → (list_any is_open slots ≡ false → count_by is_open slots ≡ 0) → count_by is_open (slot ∷ slots) ≡ 0
none_with slot slots true e f rest = cc
none_with slot slots false e f rest = let zero_rest = rest f in count_with slot slots false e ∙ omega arith

none_open : (slots : List Slot) → list_any is_open slots ≡ false → count_by is_open slots ≡ 0
none_open [] e = refl
none_open (slot ∷ slots) e = none_with slot slots (is_open slot) refl e (none_open slots)

some_with : (slot : Slot) (slots : List Slot) (t : Bool) → is_open slot ≡ t → (t || list_any is_open slots) ≡ true
    → (list_any is_open slots ≡ true → 1 ≤ count_by is_open slots) → 1 ≤ count_by is_open (slot ∷ slots)
some_with slot slots true e f rest = let count = count_with slot slots true e in omega arith
some_with slot slots false e f rest = let count = count_with slot slots false e in let more = rest f in omega arith

some_open : (slots : List Slot) → list_any is_open slots ≡ true → 1 ≤ count_by is_open slots
some_open [] e = cc
some_open (slot ∷ slots) e = some_with slot slots (is_open slot) refl e (some_open slots)

not_true : (b : Bool) → not b ≡ true → b ≡ false
not_true true e = cc
not_true false e = refl

not_false : (b : Bool) → not b ≡ false → b ≡ true
not_false true e = refl
not_false false e = cc

-- what is read at the place of a request
read_at : (p : ProxyView) (n : ℕ) (pending : PendingView) → slice_get p.outstanding n ≡ Some pending → get_or p.outstanding n pending ≡ pending
read_at p n pending got =
    let read = slice_get-get_or p.outstanding n pending (slice_get_within p.outstanding n pending got) in cc

closed : (p : ProxyView) (n : ℕ) (pending noted : PendingView) (place : ℕ) (reply : LegReply) (t : Bool) → slice_get p.outstanding n ≡ Some pending
    → IsNoting pending noted place reply → is_complete noted ≡ t
    → open_legs_of (if t then record p { outstanding = remove p.outstanding n } else record p { outstanding = slice_set p.outstanding n noted }) + 1 ≡ open_legs_of p
closed p n pending noted place reply true got noting complete =
    let less = one_less pending noted place reply noting in
    let none : open_count noted ≡ 0 = none_open noted.slots (not_true (list_any is_open noted.slots) complete) in
    let is : open_count (get_or p.outstanding n pending) ≡ open_count pending = ap open_count (read_at p n pending got) in
    let change : sum_by open_count (remove p.outstanding n) + open_count (get_or p.outstanding n pending) ≡ sum_by open_count p.outstanding =
    sum_by-remove open_count p.outstanding n pending (slice_get_within p.outstanding n pending got) in
    omega arith
closed p n pending noted place reply false got noting complete =
    let less = one_less pending noted place reply noting in
    let is : open_count (get_or p.outstanding n pending) ≡ open_count pending = ap open_count (read_at p n pending got) in
    let change : sum_by open_count (slice_set p.outstanding n noted) + open_count (get_or p.outstanding n pending) ≡ sum_by open_count p.outstanding + open_count noted =
    sum_by-set open_count p.outstanding n noted pending (slice_get_within p.outstanding n pending got) in
    omega arith

closed_by : (p : ProxyView) (n place : ℕ) (reply : LegReply) (noted : PendingView) (o : Option PendingView) → slice_get p.outstanding n ≡ o
    → option_and_then (λ pending. with_reply pending place reply) o ≡ Some noted → open_legs_of (settled p n (Some noted)) + 1 ≡ open_legs_of p
closed_by p n place reply noted None got e = cc
closed_by p n place reply noted (Some pending) got e =
    closed p n pending noted place reply (is_complete noted) got (noting_in pending noted place reply (slice_get pending.slots place) refl e) refl

pub take_closes_one_lem : (p : ProxyView) (id : LegId) (reply : LegReply) (noted : PendingView) → noted_by p id reply ≡ Some noted
    → open_legs_of (after_take p id reply) + 1 ≡ open_legs_of p
take_closes_one_lem p id reply noted e =
    ap (λ w. open_legs_of (settled p (place_of_op p.outstanding id.op) w) + 1) e
    ∙ closed_by p (place_of_op p.outstanding id.op) id.place reply noted (pending_with p.outstanding id.op) refl e

left_closes : (p : ProxyView) (n : ℕ) (answer : AnswerView) (o : Option PendingView) → slice_get p.outstanding n ≡ o → IsSound p → given_up_in o ≡ Some answer
    → open_legs_of (left_by p n o) + 1 ≤ open_legs_of p
left_closes p n answer None got s e = cc
left_closes p n answer (Some pending) got s e =
    let within = slice_get_within p.outstanding n pending got in
    let read = read_at p n pending got in
    let waits : is_complete pending ≡ false = ap is_complete (sym read) ∙ (s.pendings n pending within).waits in
    let some : 1 ≤ open_count pending = some_open pending.slots (not_false (list_any is_open pending.slots) waits) in
    let is : open_count (get_or p.outstanding n pending) ≡ open_count pending = ap open_count read in
    let change : sum_by open_count (remove p.outstanding n) + open_count (get_or p.outstanding n pending) ≡ sum_by open_count p.outstanding =
    sum_by-remove open_count p.outstanding n pending within in
    omega arith

pub give_up_closes_lem : (p : ProxyView) (op : OpId) (answer : AnswerView) → IsSound p → given_up_of p op ≡ Some answer
    → open_legs_of (after_give_up p op) + 1 ≤ open_legs_of p
give_up_closes_lem p op answer s e = left_closes p (place_of_op p.outstanding op) answer (pending_with p.outstanding op) refl s e

-- a reply that is noted closes one leg
pub noted_closes : (pending noted : PendingView) (place : ℕ) (reply : LegReply) → with_reply pending place reply ≡ Some noted
    → count_by is_open noted.slots + 1 ≡ count_by is_open pending.slots
noted_closes pending noted place reply e =
    one_less pending noted place reply (noting_in pending noted place reply (slice_get pending.slots place) refl e)

some_of : {X : Type 0} (o : Option X) → is_some o ≡ true → (x : X) × (o ≡ Some x)
some_of None e = cc
some_of (Some x) e = (x, refl)

-- what noting makes of the request, by the leg that stood there
pub noting_writes : (pending : PendingView) (place : ℕ) (reply : LegReply) (slot : Slot) → is_some (with_reply pending place reply) ≡ true
    → slot ≡ get_or pending.slots place slot
    → with_reply pending place reply ≡ Some (record pending { slots = slice_set pending.slots place (record { sheet = slot.sheet; reply = Some reply }) })
noting_writes pending place reply slot awaited read =
    let (noted, is) = some_of (with_reply pending place reply) awaited in
    let n = noting_in pending noted place reply (slice_get pending.slots place) refl is in
    let got = slice_get-get_or pending.slots place slot (slice_get_within pending.slots place n.slot n.there) in
    let there = n.there in
    let same : n.slot ≡ slot = cc in
    is ∙ ap Some n.is
    ∙ ap (λ (s : Slot). Some (record pending { slots = slice_set pending.slots place (record { sheet = s.sheet; reply = Some reply }) })) same

pub note_counts : (view now : PendingView) (place : ℕ) (reply : LegReply) (slot : Slot) → view ≡ now → is_some (with_reply now place reply) ≡ true
    → slot ≡ get_or view.slots place slot
    → count_by is_open (slice_set view.slots place (record { sheet = slot.sheet; reply = Some reply })) + 1 ≡ count_by is_open view.slots
note_counts view now place reply slot same awaited read =
    let some : is_some (with_reply view place reply) ≡ true = ap (λ v. is_some (with_reply v place reply)) same ∙ awaited in
    noted_closes view (record view { slots = slice_set view.slots place (record { sheet = slot.sheet; reply = Some reply }) }) place reply
    (noting_writes view place reply slot some read)

none_by : (n : ℕ) (t : Bool) → (n == 0) ≡ t → 1 ≤ n → false ≡ t
none_by n true e some = let none = exact_unsigned_eq n 0 e in absurd (omega arith)
none_by n false e some = refl

none_is : (n : ℕ) → 1 ≤ n → false ≡ (n == 0)
none_is n some = none_by n (n == 0) refl some

complete_by : (slots : List Slot) (t : Bool) → list_any is_open slots ≡ t → not t ≡ (count_by is_open slots == 0)
complete_by slots true e = none_is (count_by is_open slots) (some_open slots e)
complete_by slots false e = let none = none_open slots e in rw none refl

-- it was the last one where none is counted any more
pub noted_last : (pending : PendingView) → is_complete pending ≡ (count_by is_open pending.slots == 0)
noted_last pending = complete_by pending.slots (list_any is_open pending.slots) refl

-- one more request is counted
pub counted : (list : List PendingView) (place : ℕ) (pending : PendingView) → slice_get list place ≡ Some pending
    → sum_by open_count (take (place + 1) list) ≡ sum_by open_count (take place list) + open_count pending
counted list place pending got =
    let within = slice_get_within list place pending got in
    let read = slice_get-get_or list place pending within in
    let at : get_or list place pending ≡ pending = cc in
    sum_by_more open_count list place pending within ∙ ap (λ (x : PendingView). sum_by open_count (take place list) + open_count x) at

pub nothing_there : {X : Type 0} (list : List X) (place : ℕ) → slice_get list place ≡ None → length list ≤ place
nothing_there [] place e = omega arith
nothing_there (x ∷ list) zero e = cc
nothing_there (x ∷ list) (suc place) e = let later = nothing_there list place e in omega arith
