-- How the replies of a request's legs become one reply.
use Rattle.std.specs.Prelude.{◌≡◌, ℕ, ◌<◌, ◌≤◌, List, [], ◌∷◌, Option, Some, None, All, fold, take, slice_get, nat_lt, if◌then◌else◌}
use Rattle.mr_text.specs.declared.item.Item.{Item}
use Rattle.mr_text.specs.declared.cause.Cause.{Cause}
use Rattle.mr_text.specs.declared.cause.Cause.TheVariants.{LegLost}
use Rattle.mr_text.specs.declared.request.Request.{Request}
use Rattle.mr_text.specs.declared.request.Request.TheVariants.{Get, Set, Delete, Quit}
use Rattle.mr_text.specs.declared.reply.Reply.{Reply}
use Rattle.mr_text.specs.declared.reply.Reply.TheVariants as reply
use Rattle.mr_join.specs.declared.leg_reply.LegReply.{LegReply}
use Rattle.mr_join.specs.declared.leg_reply.LegReply.TheVariants.{Hit, Miss, Stored, Deleted, NotFound, Failed}

-- 0 where the leg did what was asked, 1 where there was nothing to delete, 2 where it failed
-- (from: MigrateRoute, "worst"; the order own)
abbrev pub badness_of : LegReply → ℕ
badness_of (Hit flags block) = 0
badness_of Miss = 0
badness_of Stored = 0
badness_of Deleted = 0
badness_of NotFound = 1
badness_of (Failed cause) = 2

-- the one of greater badness, the first on a tie (from: MigrateRoute; ties own)
abbrev pub worse_of : LegReply → LegReply → LegReply
worse_of a b = if nat_lt (badness_of a) (badness_of b) then b else a

-- in order of place, the first reply whose badness is greatest; none of no replies (from: MigrateRoute; ties own)
abbrev pub worst_of : List LegReply → Option LegReply
worst_of [] = None
worst_of (first ∷ rest) = Some (fold worse_of first rest)

-- the same without a computation: this reply is there, none is worse, and those before it are less bad
pub record IsWorst (replies : List LegReply) (worst : LegReply) : Type 0 where
  pub place : ℕ
  pub there : slice_get replies place ≡ Some worst
  pub greatest : All (λ reply. badness_of reply ≤ badness_of worst) replies
  pub first : All (λ reply. badness_of reply < badness_of worst) (take place replies)

-- why the first leg that failed did
abbrev pub first_cause : List LegReply → Option Cause
first_cause [] = None
first_cause (Failed cause ∷ rest) = Some cause
first_cause (Hit flags block ∷ rest) = first_cause rest
first_cause (Miss ∷ rest) = first_cause rest
first_cause (Stored ∷ rest) = first_cause rest
first_cause (Deleted ∷ rest) = first_cause rest
first_cause (NotFound ∷ rest) = first_cause rest

-- the item that a leg of this key found, before those of the legs after it
abbrev pub with_hit : List ℕ → LegReply → List Item → List Item
with_hit key (Hit flags block) items = record { key = key; flags = flags; block = block } ∷ items
with_hit key Miss items = items
with_hit key Stored items = items
with_hit key Deleted items = items
with_hit key NotFound items = items
with_hit key (Failed cause) items = items

-- what was found: the legs' replies stand in the order of the keys
abbrev pub hits_of : List (List ℕ) → List LegReply → List Item
hits_of [] replies = []
hits_of (key ∷ keys) [] = []
hits_of (key ∷ keys) (reply ∷ replies) = with_hit key reply (hits_of keys replies)

-- the items of a get, unless a leg failed
abbrev pub items_unless : Option Cause → List Item → Reply
items_unless None items = reply.Items items
items_unless (Some cause) items = reply.ServerError cause

-- a set's or a delete's reply; what answers a get alone is taken for a lost leg
abbrev pub reply_by : LegReply → Reply
reply_by (Hit flags block) = reply.ServerError LegLost
reply_by Miss = reply.ServerError LegLost
reply_by Stored = reply.Stored
reply_by Deleted = reply.Deleted
reply_by NotFound = reply.NotFound
reply_by (Failed cause) = reply.ServerError cause

-- without a leg nothing was done
abbrev pub reply_by_worst : Option LegReply → Reply
reply_by_worst None = reply.ServerError LegLost
reply_by_worst (Some worst) = reply_by worst

-- the one reply to a request whose legs gave these, in order of place: the items of a get's hits, or why its first
-- failed leg did; the worst reply of a set or a delete
abbrev pub joined_reply : Request → List LegReply → Reply
joined_reply (Get keys) replies = items_unless (first_cause replies) (hits_of keys replies)
joined_reply (Set key flags exptime block noreply) replies = reply_by_worst (worst_of replies)
joined_reply (Delete key noreply) replies = reply_by_worst (worst_of replies)
joined_reply Quit replies = reply_by_worst (worst_of replies)

-- an item that the leg of its key found
pub record IsHitOf (keys : List (List ℕ)) (replies : List LegReply) (item : Item) : Type 0 where
  pub place : ℕ
  pub key : slice_get keys place ≡ Some item.key
  pub hit : slice_get replies place ≡ Some (Hit item.flags item.block)

-- the items of a get, each found by the leg of its key
pub record AreHits (request : Request) (replies : List LegReply) (items : List Item) : Type 0 where
  pub keys : List (List ℕ)
  pub asked : request ≡ Get keys
  pub found : All (IsHitOf keys replies) items

-- the client may rely on the delete
abbrev pub Acknowledges : Reply → Type 0
Acknowledges reply.Deleted = Unit {0}
Acknowledges reply.NotFound = Unit {0}
Acknowledges (reply.Items items) = ⊥
Acknowledges reply.Stored = ⊥
Acknowledges reply.Error = ⊥
Acknowledges (reply.ClientError cause) = ⊥
Acknowledges (reply.ServerError cause) = ⊥

-- the leg wasn't lost and didn't fail
abbrev pub HasSucceeded : LegReply → Type 0
HasSucceeded reply = badness_of reply < 2
