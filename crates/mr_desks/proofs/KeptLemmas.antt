-- What a recorded proxy keeps, from step to step.
use Rattle.std.proofs.Common.{◌≡◌, ◌≢◌, ℕ, zero, suc, ◌+◌, ◌≤◌, ◌<◌, cond, Bool, true, false, List, [], ◌∷◌, ◌++◌, length, map, take, drop, All, count_by, get_or, remove, slice_get, slice_set, Option, Some, None, if◌then◌else◌, refl, sym, ap, subst, ◌∙◌, arith}
use Rattle.std.proofs.lemmas.Grind.{common_steps}
use Rattle.std.proofs.lemmas.List.{length_push}
use Rattle.std.proofs.lemmas.List.Elements.{All-append, All-take, All-drop, All-set, All-push}
use Rattle.std.proofs.lemmas.List.Sums.{sum_by_push}
use Rattle.std.proofs.lemmas.Option.{slice_get_within, slice_get-get_or}
use Rattle.std.specs.Option.{option_and_then}
use Rattle.mr_text.specs.declared.request.Request.{Request}
use Rattle.mr_text.specs.declared.request.Request.TheVariants.{Quit}
use Rattle.mr_history.specs.declared.op_id.OpId.{OpId}
use Rattle.mr_join.specs.declared.leg_reply.LegReply.{LegReply}
use Rattle.mr_proxy.specs.declared.sheet.LegBack.{LegBack}
use Rattle.mr_proxy.specs.declared.sheet.LegId.{LegId}
use Rattle.mr_proxy.specs.declared.sheet.LegSheet.{LegSheet}
use Rattle.mr_proxy.specs.declared.slot.Slot.{Slot}
use Rattle.mr_proxy.specs.declared.taken.Taken.{Taken}
use Rattle.mr_proxy.specs.declared.taken.Taken.TheVariants.{Waiting, Answered, Stranger}
use Rattle.mr_proxy.specs.Answer.{AnswerView, answer_of}
use Rattle.mr_proxy.specs.Issue.{refusal_of, sheets_of, pending_of, after_issue}
use Rattle.mr_proxy.specs.Pending.{PendingView, is_complete, with_reply}
use Rattle.mr_proxy.specs.ProxyView.{ProxyView, opening_of}
use Rattle.mr_proxy.specs.Slots.{open_slot, is_open}
use Rattle.mr_proxy.specs.Sound.{IsSound}
use Rattle.mr_proxy.specs.Transitions.{place_of_op, pending_with, open_sheet_in, open_sheet, open_legs_of, noted_by, settled, after_take, taken_by, taken_of, left_by, after_give_up, given_up_in, given_up_of}
use Rattle.mr_proxy.proofs.OpenLemmas.{issue_opens_lem, take_closes_one_lem, give_up_closes_lem}
use Rattle.mr_proxy.proofs.SoundLemmas.{noting_in}
use Rattle.mr_proxy.specs.Replay.{after, replay, is_issue}
use Rattle.mr_proxy.specs.declared.step.Step.{Step}
use Rattle.mr_proxy.specs.declared.step.Step.TheVariants.{Issue, Take, GiveUp}
use Rattle.mr_desks.specs.Recorded.{Gave, SlotStands, PendingStands, CoreStands, AnswerStands, IsRecordedCore}
use Rattle.mr_desks.specs.Books.{IsNoted, IsBookStep, AreSteps}

plus_nothing : (n : ℕ) → n + 0 ≡ n
plus_nothing n = omega arith

-- legs that are open stand, since nothing was noted for them
pub open_stands : (gave : Gave) (sheets : List LegSheet) → All (SlotStands gave) (map open_slot sheets)
open_stands gave [] k d within = absurd (omega arith)
open_stands gave (sheet ∷ sheets) zero d within = tt
open_stands gave (sheet ∷ sheets) (suc k) d within = open_stands gave sheets k d (omega arith)

-- one step more
steps_push : (p : ProxyView) (steps : List Step) (step : Step) → AreSteps p steps → IsBookStep (replay p steps) step → AreSteps p (steps ++ step ∷ [])
steps_push p [] step are is = (is, tt)
steps_push p (first ∷ steps) step are is = (are.0, steps_push (after p first) steps step are.1 is)

-- one step more, of the proxy that the steps before it leave
step_made : (core : ProxyView) (steps : List Step) (step : Step) → core ≡ replay (opening_of core) steps → AreSteps (opening_of core) steps → IsBookStep core step
    → AreSteps (opening_of core) (steps ++ step ∷ [])
step_made core steps step replays made is = steps_push (opening_of core) steps step made (subst (λ p. IsBookStep p step) replays is)

pub keeps_issue : (gave : Gave) (core new : ProxyView) (steps longer : List Step) (issues limit capacity larger t : ℕ) (request : Request)
    → IsRecordedCore gave core steps issues limit capacity
    → refusal_of core ≡ None
    → request ≢ Quit
    → new ≡ after_issue core t request
    → longer ≡ steps ++ Issue t request ∷ []
    → length steps + open_legs_of core + 1 + length (sheets_of core t request) ≤ limit
    → length steps + (open_legs_of core + 1 + length (sheets_of core t request)) ≤ larger
    → IsRecordedCore gave new longer (issues + 1) limit larger
keeps_issue gave core new steps longer issues limit capacity larger t request k accepted asked is noted fits roomy =
    let opens = issue_opens_lem core t request in
    let one_more = length_push steps (Issue t request) in
    rw (is, noted)
    (record {
      replays = grind (arith, common_steps, k.replays);
      made = step_made core steps (Issue t request) k.replays k.made (accepted, asked);
      counted = ap (λ n. n + 1) k.counted;
      in_book = grind (arith, common_steps, k.in_book);
      stands = All-push (PendingStands gave) core.outstanding (pending_of core t request) k.stands (open_stands gave (sheets_of core t request));
      within = omega arith;
      room = omega arith;
    })

-- what holds of all holds without one of them
removed_all : {X : Type 0} (P : X → Type 0) (xs : List X) (n : ℕ) → All P xs → All P (remove xs n)
removed_all P xs n all = All-append P (take n xs) (drop (suc n) xs) (All-take P n xs all) (All-drop P (suc n) xs all)

-- what holds of all holds of the one at a place
at_place : {X : Type 0} (P : X → Type 0) (xs : List X) (n : ℕ) (x : X) → slice_get xs n ≡ Some x → All P xs → P x
at_place P xs n x there all =
    let within = slice_get_within xs n x there in
    let read = slice_get-get_or xs n x within in
    let is : get_or xs n x ≡ x = cc in
    subst P is (all n x within)

-- the sheet of the leg that awaits the reply is the one that came back
same_sheet : (slot : Slot) (sheet : LegSheet) (t : Bool) → is_open slot ≡ t → (if t then Some slot.sheet else None) ≡ Some sheet → slot.sheet ≡ sheet
same_sheet slot sheet true e is = cc
same_sheet slot sheet false e is = cc

-- the replies of the request stand once this one is noted
noted_in : (gave : Gave) (core : ProxyView) (back : LegBack) (noted : PendingView) (n : ℕ) (o : Option PendingView) → slice_get core.outstanding n ≡ o
    → open_sheet_in (option_and_then (λ pending. slice_get pending.slots back.sheet.id.place) o) ≡ Some back.sheet
    → option_and_then (λ pending. with_reply pending back.sheet.id.place back.reply) o ≡ Some noted
    → CoreStands gave core → ∥ gave back.sheet back.reply ∥₁ → PendingStands gave noted
noted_in gave core back noted n None got own e all g = cc
noted_in gave core back noted n (Some pending) got own e all g =
    let place = back.sheet.id.place in
    let noting = noting_in pending noted place back.reply (slice_get pending.slots place) refl e in
    let open_own : open_sheet_in (Some noting.slot) ≡ Some back.sheet = ap open_sheet_in (sym noting.there) ∙ own in
    let same : noting.slot.sheet ≡ back.sheet = same_sheet noting.slot back.sheet (is_open noting.slot) refl open_own in
    let slot : Slot = record { sheet = noting.slot.sheet; reply = Some back.reply } in
    let here : SlotStands gave slot = subst (λ s. ∥ gave s back.reply ∥₁) (sym same) g in
    let before : PendingStands gave pending = at_place (PendingStands gave) core.outstanding n pending got all in
    subst (PendingStands gave) (sym noting.is) (All-set (SlotStands gave) pending.slots place slot here before)

pub noted_stands : (gave : Gave) (core : ProxyView) (back : LegBack) (noted : PendingView) → open_sheet core back.sheet.id ≡ Some back.sheet
    → noted_by core back.sheet.id back.reply ≡ Some noted → CoreStands gave core → ∥ gave back.sheet back.reply ∥₁ → PendingStands gave noted
noted_stands gave core back noted own e all g =
    noted_in gave core back noted (place_of_op core.outstanding back.sheet.id.op) (pending_with core.outstanding back.sheet.id.op) refl own e all g

pub settled_as : (gave : Gave) (core : ProxyView) (n : ℕ) (noted : PendingView) (t : Bool) → CoreStands gave core → PendingStands gave noted
    → CoreStands gave (if t then record core { outstanding = remove core.outstanding n } else record core { outstanding = slice_set core.outstanding n noted })
settled_as gave core n noted true all here = removed_all (PendingStands gave) core.outstanding n all
settled_as gave core n noted false all here = All-set (PendingStands gave) core.outstanding n noted here all

settled_opening : (core : ProxyView) (n : ℕ) (noted : PendingView) (t : Bool)
    → opening_of (if t then record core { outstanding = remove core.outstanding n } else record core { outstanding = slice_set core.outstanding n noted }) ≡ opening_of core
settled_opening core n noted true = refl
settled_opening core n noted false = refl

pub settled_next : (core : ProxyView) (n : ℕ) (noted : PendingView) (t : Bool)
    → (if t then record core { outstanding = remove core.outstanding n } else record core { outstanding = slice_set core.outstanding n noted }).next ≡ core.next
settled_next core n noted true = refl
settled_next core n noted false = refl

-- a step after others is the last of them all
replay_one_more : (core : ProxyView) (steps : List Step) (step : Step) → replay core (steps ++ step ∷ []) ≡ after (replay core steps) step
replay_one_more core [] step = refl
replay_one_more core (first ∷ steps) step = replay_one_more (after core first) steps step

is_noted_in : (noted : PendingView) (t : Bool) → IsNoted (if t then Answered (answer_of noted false) else Waiting)
is_noted_in noted true = tt
is_noted_in noted false = tt

is_noted_by : (reply : LegReply) (noted : PendingView) (w : Option PendingView) → w ≡ Some noted → IsNoted (taken_by reply w)
is_noted_by reply noted None e = cc
is_noted_by reply noted (Some other) e = is_noted_in other (is_complete other)

pub keeps_noted : (gave : Gave) (core : ProxyView) (steps : List Step) (issues limit capacity : ℕ) (back : LegBack) (noted : PendingView)
    → IsRecordedCore gave core steps issues limit capacity → ∥ gave back.sheet back.reply ∥₁ → open_sheet core back.sheet.id ≡ Some back.sheet
    → noted_by core back.sheet.id back.reply ≡ Some noted
    → IsRecordedCore gave (after_take core back.sheet.id back.reply) (steps ++ Take back ∷ []) issues limit capacity
keeps_noted gave core steps issues limit capacity back noted k g own e =
    let n = place_of_op core.outstanding back.sheet.id.op in
    let new = after_take core back.sheet.id back.reply in
    let is : new ≡ settled core n (Some noted) = ap (settled core n) e in
    let opening : opening_of new ≡ opening_of core = ap opening_of is ∙ settled_opening core n noted (is_complete noted) in
    let next : new.next ≡ core.next = ap (λ (p : ProxyView). p.next) is ∙ settled_next core n noted (is_complete noted) in
    let closes : open_legs_of new + 1 ≡ open_legs_of core = take_closes_one_lem core back.sheet.id back.reply noted e in
    let one_more = length_push steps (Take back) in
    let room = k.room in
    let within = k.within in
    record {
      replays = ap (λ p. after p (Take back)) k.replays ∙ sym (replay_one_more (opening_of core) steps (Take back)) ∙ ap (λ p. replay p (steps ++ Take back ∷ [])) (sym opening);
      made = subst (λ p. AreSteps p (steps ++ Take back ∷ [])) (sym opening) (step_made core steps (Take back) k.replays k.made (is_noted_by back.reply noted (noted_by core back.sheet.id back.reply) e));
      counted = k.counted ∙ sym next;
      in_book = sum_by_push (λ (step : Step). cond (is_issue step) 1 0) steps (Take back) ∙ plus_nothing (count_by is_issue steps) ∙ k.in_book ∙ sym next;
      stands = subst (CoreStands gave) (sym is) (settled_as gave core n noted (is_complete noted) k.stands (noted_stands gave core back noted own e k.stands g));
      within = omega arith;
      room = omega arith;
    }

-- where the reply was noted, the request with it
noted_of : (reply : LegReply) (taken : Taken) (w : Option PendingView) → taken ≡ taken_by reply w → IsNoted taken → (noted : PendingView) × (w ≡ Some noted)
noted_of reply taken None e noted = absurd (subst IsNoted e noted)
noted_of reply taken (Some pending) e noted = (pending, refl)

pub keeps_take : (gave : Gave) (core new : ProxyView) (steps longer : List Step) (issues limit capacity : ℕ) (back : LegBack) (taken : Taken)
    → IsRecordedCore gave core steps issues limit capacity → ∥ gave back.sheet back.reply ∥₁ → open_sheet core back.sheet.id ≡ Some back.sheet
    → taken ≡ taken_of core back.sheet.id back.reply → IsNoted taken
    → new ≡ after_take core back.sheet.id back.reply → longer ≡ steps ++ Take back ∷ []
    → IsRecordedCore gave new longer issues limit capacity
keeps_take gave core new steps longer issues limit capacity back taken k g own e noted is told =
    let w = noted_of back.reply taken (noted_by core back.sheet.id back.reply) e noted in
    rw (is, told) (keeps_noted gave core steps issues limit capacity back w.0 k g own w.1)

answer_in : (gave : Gave) (reply : LegReply) (answer : AnswerView) (noted : PendingView) (t : Bool)
    → (if t then Answered (answer_of noted false) else Waiting) ≡ Answered answer → PendingStands gave noted → AnswerStands gave answer
answer_in gave reply answer noted true e all = let is : answer_of noted false ≡ answer = cc in subst (AnswerStands gave) is all
answer_in gave reply answer noted false e all = cc

answer_by : (gave : Gave) (core : ProxyView) (back : LegBack) (answer : AnswerView) (w : Option PendingView) → noted_by core back.sheet.id back.reply ≡ w
    → taken_by back.reply w ≡ Answered answer → open_sheet core back.sheet.id ≡ Some back.sheet → CoreStands gave core → ∥ gave back.sheet back.reply ∥₁
    → AnswerStands gave answer
answer_by gave core back answer None e is own all g = cc
answer_by gave core back answer (Some noted) e is own all g =
    answer_in gave back.reply answer noted (is_complete noted) is (noted_stands gave core back noted own e all g)

-- the answer that a last reply brings stands
pub last_answer_stands : (gave : Gave) (core : ProxyView) (back : LegBack) (answer : AnswerView) → Answered answer ≡ taken_of core back.sheet.id back.reply
    → open_sheet core back.sheet.id ≡ Some back.sheet → CoreStands gave core → ∥ gave back.sheet back.reply ∥₁ → AnswerStands gave answer
last_answer_stands gave core back answer is own all g =
    answer_by gave core back answer (noted_by core back.sheet.id back.reply) refl (sym is) own all g

in_time_in : (answer : AnswerView) (noted : PendingView) (t : Bool) → (if t then Answered (answer_of noted false) else Waiting) ≡ Answered answer
    → answer.given_up ≡ false
in_time_in answer noted true e = let is : answer_of noted false ≡ answer = cc in ap (λ (a : AnswerView). a.given_up) (sym is)
in_time_in answer noted false e = cc

in_time_by : (reply : LegReply) (answer : AnswerView) (w : Option PendingView) → taken_by reply w ≡ Answered answer → answer.given_up ≡ false
in_time_by reply answer None is = cc
in_time_by reply answer (Some noted) is = in_time_in answer noted (is_complete noted) is

-- the answer that a last reply brings wasn't given up
pub last_answer_in_time : (core : ProxyView) (id : LegId) (reply : LegReply) (answer : AnswerView) → Answered answer ≡ taken_of core id reply → answer.given_up ≡ false
last_answer_in_time core id reply answer is = in_time_by reply answer (noted_by core id reply) (sym is)

pub left_stands : (gave : Gave) (core : ProxyView) (n : ℕ) (o : Option PendingView) → CoreStands gave core → CoreStands gave (left_by core n o)
left_stands gave core n None all = all
left_stands gave core n (Some pending) all = removed_all (PendingStands gave) core.outstanding n all

left_opening : (core : ProxyView) (n : ℕ) (o : Option PendingView) → opening_of (left_by core n o) ≡ opening_of core
left_opening core n None = refl
left_opening core n (Some pending) = refl

pub left_next : (core : ProxyView) (n : ℕ) (o : Option PendingView) → (left_by core n o).next ≡ core.next
left_next core n None = refl
left_next core n (Some pending) = refl

pub keeps_give_up : (gave : Gave) (core new : ProxyView) (steps longer : List Step) (issues limit capacity : ℕ) (op : OpId) (answer : AnswerView)
    → IsRecordedCore gave core steps issues limit capacity → IsSound core → given_up_of core op ≡ Some answer
    → new ≡ after_give_up core op → longer ≡ steps ++ GiveUp op ∷ []
    → IsRecordedCore gave new longer issues limit capacity
keeps_give_up gave core new steps longer issues limit capacity op answer k s e is told =
    let n = place_of_op core.outstanding op in
    let o = pending_with core.outstanding op in
    let opening : opening_of new ≡ opening_of core = ap opening_of is ∙ left_opening core n o in
    let next : new.next ≡ core.next = ap (λ (p : ProxyView). p.next) is ∙ left_next core n o in
    let closes : open_legs_of (after_give_up core op) + 1 ≤ open_legs_of core = give_up_closes_lem core op answer s e in
    let same : open_legs_of new ≡ open_legs_of (after_give_up core op) = ap open_legs_of is in
    let one_more = length_push steps (GiveUp op) in
    let length_is : length longer ≡ length (steps ++ GiveUp op ∷ []) = ap length told in
    let room = k.room in
    let within = k.within in
    record {
      replays = is ∙ ap (λ p. after p (GiveUp op)) k.replays ∙ sym (replay_one_more (opening_of core) steps (GiveUp op)) ∙ ap (λ p. replay p (steps ++ GiveUp op ∷ [])) (sym opening) ∙ ap (replay (opening_of new)) (sym told);
      made = subst (λ p. AreSteps p longer) (sym opening) (subst (AreSteps (opening_of core)) (sym told) (step_made core steps (GiveUp op) k.replays k.made (λ none. cc)));
      counted = k.counted ∙ sym next;
      in_book = ap (count_by is_issue) told ∙ sum_by_push (λ (step : Step). cond (is_issue step) 1 0) steps (GiveUp op) ∙ plus_nothing (count_by is_issue steps) ∙ k.in_book ∙ sym next;
      stands = subst (CoreStands gave) (sym is) (left_stands gave core n o k.stands);
      within = omega arith;
      room = omega arith;
    }

given_in : (gave : Gave) (core : ProxyView) (n : ℕ) (answer : AnswerView) (o : Option PendingView) → slice_get core.outstanding n ≡ o
    → given_up_in o ≡ Some answer → CoreStands gave core → AnswerStands gave answer
given_in gave core n answer None got e all = cc
given_in gave core n answer (Some pending) got e all =
    let is : answer_of pending true ≡ answer = cc in
    subst (AnswerStands gave) is (at_place (PendingStands gave) core.outstanding n pending got all)

-- the answer to a request that is given up stands
pub given_answer_stands : (gave : Gave) (core : ProxyView) (op : OpId) (answer : AnswerView) → given_up_of core op ≡ Some answer → CoreStands gave core
    → AnswerStands gave answer
given_answer_stands gave core op answer e all =
    given_in gave core (place_of_op core.outstanding op) answer (pending_with core.outstanding op) refl e all

-- there is room for the step of a reply that is noted
pub take_has_room : (gave : Gave) (core : ProxyView) (steps : List Step) (issues limit capacity : ℕ) (id : LegId) (reply : LegReply) (taken : Taken)
    → IsRecordedCore gave core steps issues limit capacity → taken ≡ taken_of core id reply → IsNoted taken → length steps < capacity
take_has_room gave core steps issues limit capacity id reply taken k e noted =
    let w = noted_of reply taken (noted_by core id reply) e noted in
    let closes = take_closes_one_lem core id reply w.0 w.1 in
    let room = k.room in
    omega arith

no_stranger : (other : LegReply) (noted : PendingView) (t : Bool) → Stranger other ≡ (if t then Answered (answer_of noted false) else Waiting) → ⊥
no_stranger other noted true e = cc
no_stranger other noted false e = cc

stranger_in : (core : ProxyView) (n : ℕ) (reply other : LegReply) (w : Option PendingView) → Stranger other ≡ taken_by reply w → settled core n w ≡ core
stranger_in core n reply other None e = refl
stranger_in core n reply other (Some noted) e = absurd (no_stranger other noted (is_complete noted) e)

-- a stranger leaves the proxy as it was
pub stranger_stays : (core : ProxyView) (id : LegId) (reply other : LegReply) → Stranger other ≡ taken_of core id reply → after_take core id reply ≡ core
stranger_stays core id reply other e = stranger_in core (place_of_op core.outstanding id.op) reply other (noted_by core id reply) e
