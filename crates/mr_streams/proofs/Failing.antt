-- Requests a leg of which failed: they are answered with an error.
use Rattle.std.proofs.Common.{◌≡◌, ℕ, zero, suc, Bool, true, false, not, ◌||◌, ◌&&◌, List, [], ◌∷◌, ◌++◌, map, slice_get, slice_set, Option, Some, None, if◌then◌else◌, refl, sym, ap, ◌∙◌, subst}
use Rattle.std.specs.Prelude.{fold}
use Rattle.std.proofs.lemmas.List.{append-nil}
use Rattle.mr_text.specs.declared.cause.Cause.{Cause}
use Rattle.mr_text.specs.declared.reply.Reply.{Reply}
use Rattle.mr_text.specs.declared.reply.Reply.TheVariants.{ServerError}
use Rattle.mr_text.specs.declared.request.Request.{Request}
use Rattle.mr_text.specs.declared.request.Request.TheVariants as request
use Rattle.mr_history.specs.declared.entry.Entry.{Entry}
use Rattle.mr_history.specs.declared.entry.Entry.TheVariants as entry
use Rattle.mr_join.specs.Join.{worse_of, worst_of, first_cause, joined_reply, reply_by, reply_by_worst, hits_of, items_unless}
use Rattle.mr_join.specs.declared.leg_reply.LegReply.{LegReply}
use Rattle.mr_join.specs.declared.leg_reply.LegReply.TheVariants.{Hit, Miss, Stored, Deleted, NotFound, Failed}
use Rattle.mr_node.specs.Output.{is_silent}
use Rattle.mr_proxy.specs.Answer.{AnswerView, reply_of}
use Rattle.mr_proxy.specs.Pending.{PendingView, with_reply, with_reply_in}
use Rattle.mr_proxy.specs.Slots.{is_open, is_of_kind, is_awaiting, is_failed, reply_of_slot, open_slot}
use Rattle.mr_proxy.specs.declared.sheet.LegSheet.{LegSheet}
use Rattle.mr_proxy.specs.declared.slot.Slot.{Slot}
use Rattle.mr_world.specs.Steps.{answered}
use Rattle.mr_streams.specs.Refines.{Tells}

-- the leg was noted as failed
abbrev pub refused_in : Option LegReply → Bool
refused_in None = false
refused_in (Some reply) = is_failed reply

abbrev pub is_refused : Slot → Bool
is_refused slot = refused_in slot.reply

-- some leg was
abbrev pub refused_any : List Slot → Bool
refused_any [] = false
refused_any (slot ∷ slots) = is_refused slot || refused_any slots

-- no leg of the request was noted as failed
abbrev pub is_alive : PendingView → Bool
is_alive pending = not (refused_any pending.slots)

pub opened_alive : (sheets : List LegSheet) → refused_any (map open_slot sheets) ≡ false
opened_alive [] = refl
opened_alive (sheet ∷ sheets) = opened_alive sheets

refused_set : (slots : List Slot) (k : ℕ) (old new : Slot) → slice_get slots k ≡ Some old → is_refused new ≡ is_refused old → refused_any (slice_set slots k new) ≡ refused_any slots
refused_set [] k old new e same = refl
refused_set (slot ∷ slots) zero old new e same =
    let one : slot ≡ old = cc in
    ap (λ b. b || refused_any slots) (same ∙ ap is_refused (sym one))
refused_set (slot ∷ slots) (suc k) old new e same = ap (λ b. is_refused slot || b) (refused_set slots k old new e same)

or_true : (a : Bool) → (a || true) ≡ true
or_true true = refl
or_true false = refl

refused_sets : (slots : List Slot) (k : ℕ) (old new : Slot) → slice_get slots k ≡ Some old → is_refused new ≡ true → refused_any (slice_set slots k new) ≡ true
refused_sets [] k old new e is = cc
refused_sets (slot ∷ slots) zero old new e is = ap (λ b. b || refused_any slots) is
refused_sets (slot ∷ slots) (suc k) old new e is = ap (λ b. is_refused slot || b) (refused_sets slots k old new e is) ∙ or_true (is_refused slot)

-- an open slot was not noted
open_fine : (o : Option LegReply) (sheet : LegSheet) (kind : Bool) → (is_open (record { sheet = sheet; reply = o }) && kind) ≡ true → refused_in o ≡ false
open_fine None sheet kind e = refl
open_fine (Some reply) sheet kind e = absurd (let never : false ≡ true = e in cc)

-- what noting a reply makes of a request
pub record IsNoted (pending noted : PendingView) (reply : LegReply) : Type 0 where
  pub stays : is_failed reply ≡ false → refused_any noted.slots ≡ refused_any pending.slots
  pub fails : is_failed reply ≡ true → refused_any noted.slots ≡ true

noted_if : (b : Bool) (pending noted : PendingView) (place : ℕ) (reply : LegReply) (slot : Slot) → slice_get pending.slots place ≡ Some slot → is_awaiting slot reply ≡ b
    → (if b then Some (record pending { slots = slice_set pending.slots place (record { sheet = slot.sheet; reply = Some reply }) }) else None) ≡ Some noted
    → IsNoted pending noted reply
noted_if true pending noted place reply slot there awaits e =
    let new : Slot = record { sheet = slot.sheet; reply = Some reply } in
    let is : record pending { slots = slice_set pending.slots place new } ≡ noted = cc in
    let fine : is_refused slot ≡ false = open_fine slot.reply slot.sheet (is_of_kind slot.sheet.command reply) awaits in
    record {
      stays = λ ok. ap (λ (p : PendingView). refused_any p.slots) (sym is) ∙ refused_set pending.slots place slot new there (ok ∙ sym fine);
      fails = λ failed. ap (λ (p : PendingView). refused_any p.slots) (sym is) ∙ refused_sets pending.slots place slot new there failed;
    }
noted_if false pending noted place reply slot there awaits e = absurd (let never : None ≡ Some noted = e in cc)

noted_in : (o : Option Slot) (pending noted : PendingView) (place : ℕ) (reply : LegReply) → slice_get pending.slots place ≡ o → with_reply_in pending place reply o ≡ Some noted
    → IsNoted pending noted reply
noted_in None pending noted place reply there e = absurd (let never : None ≡ Some noted = e in cc)
noted_in (Some slot) pending noted place reply there e = noted_if (is_awaiting slot reply) pending noted place reply slot there refl e

pub noted_is : (pending noted : PendingView) (place : ℕ) (reply : LegReply) → with_reply pending place reply ≡ Some noted → IsNoted pending noted reply
noted_is pending noted place reply e = noted_in (slice_get pending.slots place) pending noted place reply refl e

-- a leg that failed fails its request
failed_any : List LegReply → Bool
failed_any [] = false
failed_any (reply ∷ replies) = is_failed reply || failed_any replies

outcome_failed : (o : Option LegReply) (sheet : LegSheet) → refused_in o ≡ true → is_failed (reply_of_slot (record { sheet = sheet; reply = o })) ≡ true
outcome_failed None sheet e = absurd (let never : false ≡ true = e in cc)
outcome_failed (Some reply) sheet e = e

outcomes_step : (b : Bool) (slot : Slot) (slots : List Slot) → is_refused slot ≡ b → (b || refused_any slots) ≡ true → (refused_any slots ≡ true → failed_any (map reply_of_slot slots) ≡ true)
    → failed_any (map reply_of_slot (slot ∷ slots)) ≡ true
unfolding failed_any
outcomes_step true slot slots is e next = ap (λ b. b || failed_any (map reply_of_slot slots)) (outcome_failed slot.reply slot.sheet is)
outcomes_step false slot slots is e next = ap (λ b. is_failed (reply_of_slot slot) || b) (next e) ∙ or_true (is_failed (reply_of_slot slot))

outcomes_failed : (slots : List Slot) → refused_any slots ≡ true → failed_any (map reply_of_slot slots) ≡ true
outcomes_failed [] e = absurd (let never : false ≡ true = e in cc)
outcomes_failed (slot ∷ slots) e = outcomes_step (is_refused slot) slot slots refl e (λ h. outcomes_failed slots h)

-- why it did
record HasCause (o : Option Cause) : Type 0 where
  cause : Cause
  is : o ≡ Some cause

first_failed : (replies : List LegReply) → failed_any replies ≡ true → HasCause (first_cause replies)
unfolding failed_any
first_failed [] e = absurd (let never : false ≡ true = e in cc)
first_failed (Failed cause ∷ rest) e = record { cause = cause; is = refl }
first_failed (Hit flags block ∷ rest) e = first_failed rest e
first_failed (Miss ∷ rest) e = first_failed rest e
first_failed (Stored ∷ rest) e = first_failed rest e
first_failed (Deleted ∷ rest) e = first_failed rest e
first_failed (NotFound ∷ rest) e = first_failed rest e

-- the worse of two of which one failed has failed
worse_first : (a b : LegReply) → is_failed a ≡ true → is_failed (worse_of a b) ≡ true
worse_first (Failed cause) (Hit flags block) e = refl
worse_first (Failed cause) Miss e = refl
worse_first (Failed cause) Stored e = refl
worse_first (Failed cause) Deleted e = refl
worse_first (Failed cause) NotFound e = refl
worse_first (Failed cause) (Failed other) e = refl
worse_first (Hit flags block) b e = absurd (let never : false ≡ true = e in cc)
worse_first Miss b e = absurd (let never : false ≡ true = e in cc)
worse_first Stored b e = absurd (let never : false ≡ true = e in cc)
worse_first Deleted b e = absurd (let never : false ≡ true = e in cc)
worse_first NotFound b e = absurd (let never : false ≡ true = e in cc)

worse_second : (a b : LegReply) → is_failed b ≡ true → is_failed (worse_of a b) ≡ true
worse_second (Hit flags block) (Failed cause) e = refl
worse_second Miss (Failed cause) e = refl
worse_second Stored (Failed cause) e = refl
worse_second Deleted (Failed cause) e = refl
worse_second NotFound (Failed cause) e = refl
worse_second (Failed other) (Failed cause) e = refl
worse_second a (Hit flags block) e = absurd (let never : false ≡ true = e in cc)
worse_second a Miss e = absurd (let never : false ≡ true = e in cc)
worse_second a Stored e = absurd (let never : false ≡ true = e in cc)
worse_second a Deleted e = absurd (let never : false ≡ true = e in cc)
worse_second a NotFound e = absurd (let never : false ≡ true = e in cc)

fold_failed : (rest : List LegReply) (a : LegReply) → is_failed a ≡ true → is_failed (fold worse_of a rest) ≡ true
fold_failed [] a e = e
fold_failed (b ∷ rest) a e = fold_failed rest (worse_of a b) (worse_first a b e)

fold_fails_if : (c : Bool) (b : LegReply) (rest : List LegReply) (a : LegReply) → is_failed b ≡ c → (c || failed_any rest) ≡ true
    → ((x : LegReply) → failed_any rest ≡ true → is_failed (fold worse_of x rest) ≡ true) → is_failed (fold worse_of (worse_of a b) rest) ≡ true
fold_fails_if true b rest a is e next = fold_failed rest (worse_of a b) (worse_second a b is)
fold_fails_if false b rest a is e next = next (worse_of a b) e

fold_fails : (rest : List LegReply) (a : LegReply) → failed_any rest ≡ true → is_failed (fold worse_of a rest) ≡ true
unfolding failed_any
fold_fails [] a e = absurd (let never : false ≡ true = e in cc)
fold_fails (b ∷ rest) a e = fold_fails_if (is_failed b) b rest a refl e (λ x h. fold_fails rest x h)

-- the reply is an error of the server
pub record IsServerError (reply : Reply) : Type 0 where
  pub cause : Cause
  pub is : reply ≡ ServerError cause

by_failed : (reply : LegReply) → is_failed reply ≡ true → IsServerError (reply_by reply)
by_failed (Failed cause) e = record { cause = cause; is = refl }
by_failed (Hit flags block) e = absurd (let never : false ≡ true = e in cc)
by_failed Miss e = absurd (let never : false ≡ true = e in cc)
by_failed Stored e = absurd (let never : false ≡ true = e in cc)
by_failed Deleted e = absurd (let never : false ≡ true = e in cc)
by_failed NotFound e = absurd (let never : false ≡ true = e in cc)

worst_if : (c : Bool) (a : LegReply) (rest : List LegReply) → is_failed a ≡ c → (c || failed_any rest) ≡ true → IsServerError (reply_by (fold worse_of a rest))
worst_if true a rest is e = by_failed (fold worse_of a rest) (fold_failed rest a is)
worst_if false a rest is e = by_failed (fold worse_of a rest) (fold_fails rest a e)

worst_failed : (replies : List LegReply) → failed_any replies ≡ true → IsServerError (reply_by_worst (worst_of replies))
unfolding failed_any
worst_failed [] e = absurd (let never : false ≡ true = e in cc)
worst_failed (a ∷ rest) e = worst_if (is_failed a) a rest refl e

joined_failed : (asked : Request) (replies : List LegReply) → failed_any replies ≡ true → IsServerError (joined_reply asked replies)
joined_failed (request.Get keys) replies e =
    let why = first_failed replies e in
    record { cause = why.cause; is = ap (λ o. items_unless o (hits_of keys replies)) why.is }
joined_failed (request.Set key flags exptime block noreply) replies e = worst_failed replies e
joined_failed (request.Delete key noreply) replies e = worst_failed replies e
joined_failed request.Quit replies e = worst_failed replies e

-- an answer to a request a leg of which failed
pub refused_answer : (answer : AnswerView) → refused_any answer.slots ≡ true → IsServerError (reply_of answer)
refused_answer answer e = joined_failed answer.request (map reply_of_slot answer.slots) (outcomes_failed answer.slots e)

tells_error_unless : (told heard : List Entry) (answer : AnswerView) (silent : Bool) → IsServerError (reply_of answer) → Tells told heard
    → Tells told (heard ++ (if silent then [] else entry.Answered answer.op (reply_of answer) ∷ []))
tells_error_unless told heard answer true e t = subst (λ h. Tells told h) (sym (append-nil heard)) t
tells_error_unless told heard answer false e t =
    subst (λ r. Tells told (heard ++ entry.Answered answer.op r ∷ [])) (sym e.is) (Tells.errs answer.op e.cause t)

-- it is told of nowhere
pub tells_refused : (told heard : List Entry) (answer : AnswerView) → refused_any answer.slots ≡ true → Tells told heard → Tells told (heard ++ answered answer)
tells_refused told heard answer e t = tells_error_unless told heard answer (is_silent answer.request) (refused_answer answer e) t
