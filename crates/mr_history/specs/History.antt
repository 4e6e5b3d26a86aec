-- What happened, in one list of entries.
use Rattle.std.specs.Prelude.{◌≡◌, ℕ, ◌<◌, Bool, List, take}
use Rattle.mr_text.specs.declared.item.Item.{Item}
use Rattle.mr_text.specs.declared.request.Request.{Request}
use Rattle.mr_text.specs.declared.request.Request.TheVariants.{Get, Delete}
use Rattle.mr_text.specs.declared.reply.Reply.{Reply}
use Rattle.mr_text.specs.declared.reply.Reply.TheVariants.{Items}
use Rattle.mr_join.specs.Join.{Acknowledges}
use Rattle.mr_history.specs.declared.op_id.OpId.{OpId}
use Rattle.mr_history.specs.declared.entry.Author.{Author}
use Rattle.mr_history.specs.declared.entry.Author.TheVariants.{Beginning, By}
use Rattle.mr_history.specs.declared.entry.Entry.{Entry}
use Rattle.mr_history.specs.declared.entry.Entry.TheVariants.{Issued, Stored, Removed, Answered}
use Rattle.mr_history.specs.Places.{At}

-- the place holds the op's Issued entry, with this request
pub record IsIssued (history : List Entry) (op : OpId) (request : Request) (place : ℕ) : Type 0 where
  pub proxy : ℕ
  pub there : At history place (Issued op proxy request)

-- the op was issued
pub record WasIssued (history : List Entry) (op : OpId) : Type 0 where
  pub place : ℕ
  pub request : Request
  pub issued : IsIssued history op request place

-- the op was answered
pub record WasAnswered (history : List Entry) (op : OpId) : Type 0 where
  pub place : ℕ
  pub reply : Reply
  pub there : At history place (Answered op reply)

-- an item was held from the beginning on, or its op was issued
abbrev pub IsKnown : List Entry → Author → Type 0
IsKnown history Beginning = Unit {0}
IsKnown history (By op) = WasIssued history op

-- the entry may come next
abbrev pub Fits : List Entry → Entry → Type 0
Fits history (Issued op proxy request) = (op.proxy ≡ proxy) × (¬ WasIssued history op)
Fits history (Stored by key flags block) = IsKnown history by
Fits history (Removed op side key) = WasIssued history op
Fits history (Answered op reply) = WasIssued history op × (¬ WasAnswered history op)

-- each entry fits those before it
pub record IsWellFormed (history : List Entry) : Type 0 where
  pub fits : (place : ℕ) (entry : Entry) → At history place entry → Fits (take place history) entry

-- the place acknowledges this delete of the key, which was issued at issue (from: protocol.txt, "Deletion")
pub record IsAcknowledged (history : List Entry) (delete : OpId) (key : List ℕ) (issue place : ℕ) : Type 0 where
  pub noreply : Bool
  pub reply : Reply
  pub issued : IsIssued history delete (Delete key noreply) issue
  pub answered : At history place (Answered delete reply)
  pub acknowledges : Acknowledges reply

-- the place answers this get, which was issued at issue, with this item as the reply's item of that index
-- (from: protocol.txt, "Retrieval command")
pub record IsHit (history : List Entry) (get : OpId) (item : Item) (issue place index : ℕ) : Type 0 where
  pub keys : List (List ℕ)
  pub items : List Item
  pub issued : IsIssued history get (Get keys) issue
  pub answered : At history place (Answered get (Items items))
  pub has : At items index item

-- the place stores this item
pub record IsStored (history : List Entry) (item : Item) (place : ℕ) : Type 0 where
  pub by : Author
  pub there : At history place (Stored by item.key item.flags item.block)

-- the item was stored before the answer, and after the issue of each delete of its key that was acknowledged before
-- the get was issued
pub record IsFreshHit (history : List Entry) (item : Item) (issue answer : ℕ) : Type 0 where
  pub place : ℕ
  pub stored : IsStored history item place
  pub before : place < answer
  pub after : (delete : OpId) (start done : ℕ) → IsAcknowledged history delete item.key start done → done < issue → start < place

-- each hit is fresh
abbrev pub IsSafe : List Entry → Type 0
IsSafe history = (get : OpId) (item : Item) (issue answer index : ℕ) → IsHit history get item issue answer index → IsFreshHit history item issue answer
