-- The worst of what the legs came to, and what is told by it.
use Rattle.std.proofs.Common.{◌≡◌, ℕ, ◌<◌, Bool, true, false, nat_lt, List, [], ◌∷◌, length, map, take, get_or, fold, slice_get, Some, if◌then◌else◌, refl, sym, ap, ◌∙◌, arith}
use Rattle.std.proofs.lemmas.List.{length-map, get_or-map}
use Rattle.std.proofs.lemmas.Option.{slice_get-get_or}
use Rattle.mr_text.specs.declared.cause.Cause.TheVariants.{LegLost}
use Rattle.mr_text.specs.declared.request.Request.{Request}
use Rattle.mr_text.specs.declared.request.Request.TheVariants.{Get, Set, Delete, Quit}
use Rattle.mr_text.specs.declared.reply.Reply.TheVariants as reply
use Rattle.mr_join.specs.declared.leg_reply.LegReply.{LegReply}
use Rattle.mr_join.specs.declared.leg_reply.LegReply.TheVariants.{Hit, Miss, Stored, Deleted, NotFound, Failed}
use Rattle.mr_join.specs.Join.{badness_of, worse_of, worst_of, first_cause, hits_of, items_unless, reply_by, joined_reply}
use Rattle.mr_proxy.specs.declared.slot.Slot.{Slot}
use Rattle.mr_proxy.specs.Slots.{is_failed, has_failed, reply_of_slot}

-- what the leg of a place came to
abbrev pub outcome_at : List Slot → ℕ → LegReply
outcome_at slots i = get_or (map reply_of_slot slots) i (Failed LegLost)

-- the place of the worst of the first leg and of those before a place
pub record IsWorstSoFar (slots : List Slot) (i worst : ℕ) : Type 0 where
  pub within : worst < length slots
  pub is : fold worse_of (outcome_at slots 0) (map reply_of_slot (take i slots)) ≡ outcome_at slots worst

read : (slots : List Slot) (i : ℕ) (slot : Slot) → i < length slots → slot ≡ get_or slots i slot → outcome_at slots i ≡ reply_of_slot slot
read slots i slot within is = get_or-map reply_of_slot slots i slot (Failed LegLost) within ∙ ap reply_of_slot (sym is)

-- a leg that did not fail has no cause
pub no_cause_of : (reply : LegReply) (rest : List LegReply) → is_failed reply ≡ false → first_cause (reply ∷ rest) ≡ first_cause rest
no_cause_of (Hit flags block) rest e = refl
no_cause_of Miss rest e = refl
no_cause_of Stored rest e = refl
no_cause_of Deleted rest e = refl
no_cause_of NotFound rest e = refl
no_cause_of (Failed cause) rest e = cc

never_worse : (r : LegReply) → nat_lt 2 (badness_of r) ≡ false
never_worse (Hit flags block) = refl
never_worse Miss = refl
never_worse Stored = refl
never_worse Deleted = refl
never_worse NotFound = refl
never_worse (Failed cause) = refl

failed_is_worse : (w : LegReply) → is_failed w ≡ false → nat_lt (badness_of w) 2 ≡ true
failed_is_worse (Hit flags block) e = refl
failed_is_worse Miss e = refl
failed_is_worse Stored e = refl
failed_is_worse Deleted e = refl
failed_is_worse NotFound e = refl
failed_is_worse (Failed cause) e = cc

still_mild : (w r : LegReply) → is_failed w ≡ false → nat_lt (badness_of w) (badness_of r) ≡ false → is_failed r ≡ false
still_mild w (Hit flags block) mild e = refl
still_mild w Miss mild e = refl
still_mild w Stored mild e = refl
still_mild w Deleted mild e = refl
still_mild w NotFound mild e = refl
still_mild w (Failed cause) mild e = let worse = failed_is_worse w mild in cc

mild_cause : (w r : LegReply) (rest : List LegReply) (t : Bool) → is_failed w ≡ false → nat_lt (badness_of w) (badness_of r) ≡ t
    → first_cause ((if t then r else w) ∷ rest) ≡ first_cause (r ∷ rest)
mild_cause w r rest true mild e = refl
mild_cause w r rest false mild e = no_cause_of w rest mild ∙ sym (no_cause_of r rest (still_mild w r mild e))

worse_cause : (w r : LegReply) (rest : List LegReply) (t : Bool) → is_failed w ≡ t → first_cause (worse_of w r ∷ rest) ≡ first_cause (w ∷ r ∷ rest)
worse_cause (Failed cause) r rest t e = rw (never_worse r)
worse_cause (Hit flags block) r rest t e = mild_cause (Hit flags block) r rest (nat_lt 0 (badness_of r)) refl refl
worse_cause Miss r rest t e = mild_cause Miss r rest (nat_lt 0 (badness_of r)) refl refl
worse_cause Stored r rest t e = mild_cause Stored r rest (nat_lt 0 (badness_of r)) refl refl
worse_cause Deleted r rest t e = mild_cause Deleted r rest (nat_lt 0 (badness_of r)) refl refl
worse_cause NotFound r rest t e = mild_cause NotFound r rest (nat_lt 1 (badness_of r)) refl refl

-- the first cause among replies is that of the worst of them
cause_of_fold : (w : LegReply) (rest : List LegReply) → first_cause (w ∷ rest) ≡ first_cause (fold worse_of w rest ∷ [])
cause_of_fold w [] = refl
cause_of_fold w (r ∷ rest) = sym (worse_cause w r rest (is_failed w) refl) ∙ cause_of_fold (worse_of w r) rest

cause_of_worst : (replies : List LegReply) (worst : LegReply) → worst_of replies ≡ Some worst → first_cause replies ≡ first_cause (worst ∷ [])
cause_of_worst [] worst e = cc
cause_of_worst (first ∷ rest) worst e =
    let is : fold worse_of first rest ≡ worst = cc in
    cause_of_fold first rest ∙ ap (λ w. first_cause (w ∷ [])) is

failed_told : (worst : LegReply) (keys : List (List ℕ)) (replies : List LegReply) → is_failed worst ≡ true
    → items_unless (first_cause (worst ∷ [])) (hits_of keys replies) ≡ reply_by worst
failed_told (Hit flags block) keys replies e = cc
failed_told Miss keys replies e = cc
failed_told Stored keys replies e = cc
failed_told Deleted keys replies e = cc
failed_told NotFound keys replies e = cc
failed_told (Failed cause) keys replies e = refl

worst_at : (slots : List Slot) (i : ℕ) (slot : Slot) → i < length slots → slot ≡ get_or slots i slot
    → slice_get (map reply_of_slot slots) i ≡ worst_of (map reply_of_slot slots) → worst_of (map reply_of_slot slots) ≡ Some (reply_of_slot slot)
worst_at slots i slot within is worst =
    let count : length (map reply_of_slot slots) ≡ length slots = length-map slots reply_of_slot in
    sym worst ∙ slice_get-get_or (map reply_of_slot slots) i (Failed LegLost) (omega arith) ∙ ap Some (read slots i slot within is)

-- where the worst leg of a get didn't fail, none did
pub found_by_worst : (keys : List (List ℕ)) (slots : List Slot) (i : ℕ) (slot : Slot) → i < length slots → slot ≡ get_or slots i slot
    → slice_get (map reply_of_slot slots) i ≡ worst_of (map reply_of_slot slots) → has_failed slot ≡ false
    → joined_reply (Get keys) (map reply_of_slot slots) ≡ reply.Items (hits_of keys (map reply_of_slot slots))
found_by_worst keys slots i slot within is worst mild =
    ap (λ cause. items_unless cause (hits_of keys (map reply_of_slot slots)))
    (cause_of_worst (map reply_of_slot slots) (reply_of_slot slot) (worst_at slots i slot within is worst) ∙ no_cause_of (reply_of_slot slot) [] mild)

-- else the worst leg is what is told
pub failed_by_worst : (request : Request) (slots : List Slot) (i : ℕ) (slot : Slot) → i < length slots → slot ≡ get_or slots i slot
    → slice_get (map reply_of_slot slots) i ≡ worst_of (map reply_of_slot slots)
    → ((keys : List (List ℕ)) → request ≡ Get keys → has_failed slot ≡ true)
    → joined_reply request (map reply_of_slot slots) ≡ reply_by (reply_of_slot slot)
failed_by_worst (Get keys) slots i slot within is worst failed =
    ap (λ cause. items_unless cause (hits_of keys (map reply_of_slot slots)))
    (cause_of_worst (map reply_of_slot slots) (reply_of_slot slot) (worst_at slots i slot within is worst))
    ∙ failed_told (reply_of_slot slot) keys (map reply_of_slot slots) (failed keys refl)
failed_by_worst (Set key flags exptime block noreply) slots i slot within is worst failed = rw (worst_at slots i slot within is worst)
failed_by_worst (Delete key noreply) slots i slot within is worst failed = rw (worst_at slots i slot within is worst)
failed_by_worst Quit slots i slot within is worst failed = rw (worst_at slots i slot within is worst)
