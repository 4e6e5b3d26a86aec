-- Which requests a verdict blames.
use Rattle.std.specs.Prelude.{ℕ, ◌==◌, ◌&&◌, ◌||◌, List, take, slice_get, fold, position, bytes_eq, Bool, false, if◌then◌else◌, Option, Some, None}
use Rattle.mr_text.specs.declared.item.Item.{Item}
use Rattle.mr_text.specs.declared.reply.Reply.TheVariants.{Items}
use Rattle.mr_history.specs.OpIds.{is_same_op}
use Rattle.mr_history.specs.declared.op_id.OpId.{OpId}
use Rattle.mr_history.specs.declared.entry.Author.{Author}
use Rattle.mr_history.specs.declared.entry.Author.TheVariants.{By}
use Rattle.mr_history.specs.declared.entry.Entry.{Entry}
use Rattle.mr_history.specs.declared.entry.Entry.TheVariants.{Stored, Answered}
use Rattle.mr_shown.specs.declared.verdict.KeptVerdict.{KeptVerdict}
use Rattle.mr_shown.specs.declared.verdict.KeptVerdict.TheVariants.{Safe, Stale, Invented}
use Rattle.mr_drawing.specs.declared.blame.Blame.{Blame}

-- the entry answers the request
abbrev pub answers : OpId → Entry → Bool
answers op (Answered answered reply) = is_same_op answered op
answers op entry = false

-- the entry stores the item
abbrev pub stores : Item → Entry → Bool
stores item (Stored by key flags block) = (flags == item.flags) && bytes_eq key item.key && bytes_eq block item.block
stores item entry = false

-- who stored the item last, after one more entry
abbrev pub author_after : Item → Option Author → Entry → Option Author
author_after item found (Stored by key flags block) = if stores item (Stored by key flags block) then Some by else found
author_after item found entry = found

-- who of these entries stored the item last
abbrev pub last_author : List Entry → Item → Option Author
last_author entries item = fold (author_after item) None entries

-- who of these entries stored the item last, if there is one
abbrev pub author_of : List Entry → Option Item → Option Author
author_of entries None = None
author_of entries (Some item) = last_author entries item

-- the item at this place, if there is a place
abbrev pub item_at : List Item → Option ℕ → Option Item
item_at items None = None
item_at items (Some place) = slice_get items place

-- who of these entries stored the first of these items that has the key last
abbrev pub author_of_first : List Entry → List Item → List ℕ → Option Author
author_of_first entries items key = author_of entries (item_at items (position (λ item. bytes_eq item.key key) items))

-- who had stored what the answer at this place shows under the key
abbrev pub author_shown : List Entry → List ℕ → ℕ → Option Entry → Option Author
author_shown entries key place (Some (Answered op (Items items))) = author_of_first (take place entries) items key
author_shown entries key place entry = None

-- the request that stored an item, where one did
abbrev pub op_of_author : Option Author → Option OpId
op_of_author (Some (By op)) = Some op
op_of_author by = None

-- the request that had stored it, where there is an answer
abbrev pub set_shown : List Entry → List ℕ → Option ℕ → Option OpId
set_shown entries key None = None
set_shown entries key (Some place) = op_of_author (author_shown entries key place (slice_get entries place))

-- the set that had stored what the answer to the get shows under the key
abbrev pub set_blamed : List Entry → OpId → List ℕ → Option OpId
set_blamed entries get key = set_shown entries key (position (answers get) entries)

-- the requests that a verdict over these entries blames
abbrev pub blame_of : List Entry → KeptVerdict → Blame
blame_of entries Safe = record { get = None; delete = None; set = None }
blame_of entries (Invented get key) = record { get = Some get; delete = None; set = None }
blame_of entries (Stale get key delete) = record { get = Some get; delete = Some delete; set = set_blamed entries get key }

-- this is that request
abbrev pub is_op : Option OpId → OpId → Bool
is_op None op = false
is_op (Some other) op = is_same_op other op

-- the request is one of those
abbrev pub is_blamed : Blame → OpId → Bool
is_blamed blame op = is_op blame.get op || is_op blame.delete op || is_op blame.set op
