-- Tests of one entry. They serve the proofs; the public clauses cite the relations.
use Rattle.std.specs.Prelude.{◌≡◌, ℕ, ◌+◌, ◌<◌, ◌≤◌, Bool, false, true, ◌&&◌, ◌==◌, if◌then◌else◌, List, Option, Some, None}
use Rattle.std.specs.List.{list_any}
use Rattle.std.specs.Str.{bytes_eq}
use Rattle.mr_text.specs.declared.item.Item.{Item}
use Rattle.mr_text.specs.declared.request.Request.{Request}
use Rattle.mr_text.specs.declared.request.Request.TheVariants.{Get, Delete}
use Rattle.mr_text.specs.declared.reply.Reply.{Reply}
use Rattle.mr_text.specs.declared.reply.Reply.TheVariants.{Deleted, NotFound}
use Rattle.mr_history.specs.declared.op_id.OpId.{OpId}
use Rattle.mr_history.specs.OpIds.{is_same_op}
use Rattle.mr_history.specs.Places.{At}
use Rattle.mr_history.specs.declared.entry.Entry.{Entry}
use Rattle.mr_history.specs.declared.entry.Entry.TheVariants.{Issued, Stored, Answered}

abbrev pub is_issued : OpId → Entry → Bool
is_issued op (Issued op' proxy request) = is_same_op op' op
is_issued op entry = false

abbrev pub is_answered : OpId → Entry → Bool
is_answered op (Answered op' reply) = is_same_op op' op
is_answered op entry = false

abbrev pub is_get : Request → Bool
is_get (Get keys) = true
is_get request = false

abbrev pub is_issued_get : OpId → Entry → Bool
is_issued_get op (Issued op' proxy request) = is_get request && is_same_op op' op
is_issued_get op entry = false

abbrev pub is_stored : Item → Entry → Bool
is_stored item (Stored by key flags block) = (flags == item.flags) && bytes_eq key item.key && bytes_eq block item.block
is_stored item entry = false

abbrev pub acknowledges : Reply → Bool
acknowledges Deleted = true
acknowledges NotFound = true
acknowledges reply = false

abbrev pub is_acknowledged : OpId → Entry → Bool
is_acknowledged op (Answered op' reply) = acknowledges reply && is_same_op op' op
is_acknowledged op entry = false

abbrev pub delete_of_request : List ℕ → OpId → Request → Option OpId
delete_of_request key op (Delete key' noreply) = if bytes_eq key' key then Some op else None
delete_of_request key op request = None

-- the op that the entry issues, where it is a delete of this key
abbrev pub issued_delete : List ℕ → Entry → Option OpId
issued_delete key (Issued op proxy request) = delete_of_request key op request
issued_delete key entry = None

-- from this place on no element passes
pub record NonePasses {X : Type 0} (test : X → Bool) (list : List X) (from : ℕ) : Type 0 where
  pub fail : (place : ℕ) (element : X) → from ≤ place → At list place element → test element ≡ false

-- the last element that passes stands here
pub record LastPasses {X : Type 0} (test : X → Bool) (list : List X) (place : ℕ) : Type 0 where
  pub element : X
  pub there : At list place element
  pub passes : test element ≡ true
  pub last : NonePasses test list (place + 1)

-- before this place no delete of the key was issued that is acknowledged among the entries
pub record NoConvict (entries : List Entry) (key : List ℕ) (end : ℕ) : Type 0 where
  pub fail : (place : ℕ) (entry : Entry) (delete : OpId) → place < end → At entries place entry → issued_delete key entry ≡ Some delete
      → list_any (is_acknowledged delete) entries ≡ false

-- the first such delete
pub record FirstConvict (entries : List Entry) (key : List ℕ) (delete : OpId) : Type 0 where
  pub place : ℕ
  pub entry : Entry
  pub there : At entries place entry
  pub issued : issued_delete key entry ≡ Some delete
  pub acknowledged : list_any (is_acknowledged delete) entries ≡ true
  pub first : NoConvict entries key place
