-- A cache as a list of items, the one used last in front, and what each command does to it.
use Rattle.std.specs.Prelude.{◌≡◌, ℕ, ◌-◌, ◌≤◌, ◌⊎◌, List, [], ◌∷◌, ◌++◌, take, Option, Some, None, is_some, IsTrue, IsSome, Result, Ok, Err, if◌then◌else◌}
use Rattle.std.specs.Option.{option_to_list}
use Rattle.mr_join.specs.declared.leg_reply.LegReply.{LegReply}
use Rattle.mr_join.specs.declared.leg_reply.LegReply.TheVariants.{Hit, Miss, Stored, Deleted, NotFound}
use Rattle.mr_node.specs.declared.command.NodeCommand.{NodeCommand}
use Rattle.mr_node.specs.declared.command.NodeCommand.TheVariants.{Get, Set, Delete}
use Rattle.mr_node.specs.declared.error.NodeError.{NodeError}
use Rattle.mr_node.specs.declared.error.NodeError.TheVariants.{ZeroCapacity, OutOfMemory}
use Rattle.mr_node.specs.Expiry.{expiry_of, is_alive}
use Rattle.mr_node.specs.Items.{NamedItem, named_item_of, item_of, without}

-- what a cache holds, and the most that it may
pub record CacheView : Type 0 where
  -- the most items that it keeps
  pub capacity : ℕ
  -- the item used last in front
  pub items : List NamedItem

-- the item, if it is still alive
abbrev pub unless_expired : ℕ → Option NamedItem → Option NamedItem
unless_expired now None = None
unless_expired now (Some named) = if is_alive now named.1.expires_at then Some named else None

-- the item under the key that isn't expired
abbrev pub live_item : ℕ → List ℕ → List NamedItem → Option NamedItem
live_item now key items = unless_expired now (named_item_of key items)

-- the item in front of the others, of which those used last stay, as many as there is room for
abbrev pub put_in_front : ℕ → NamedItem → List NamedItem → List NamedItem
put_in_front capacity named others = named ∷ take (capacity - 1) others

-- a set keeps its item unless that is expired already
abbrev pub after_set : ℕ → ℕ → NamedItem → List NamedItem → List NamedItem
after_set capacity now named items =
    if is_alive now named.1.expires_at then put_in_front capacity named (without named.0 items) else without named.0 items

-- a get moves the item that it finds to the front; a get and a delete drop the key's item otherwise
abbrev pub items_after : ℕ → ℕ → NodeCommand → List NamedItem → List NamedItem
items_after capacity now (Get key) items = option_to_list (live_item now key items) ++ without key items
items_after capacity now (Set key flags exptime block) items =
    after_set capacity now (key, record { flags = flags; block = block; expires_at = expiry_of now exptime }) items
items_after capacity now (Delete key) items = without key items

-- a get's reply: the item that was found, or that none was
abbrev pub hit_or_miss : Option NamedItem → LegReply
hit_or_miss None = Miss
hit_or_miss (Some named) = Hit named.1.flags named.1.block

-- the reply to each command (from: protocol.txt, "Retrieval command", "Storage commands", "Deletion")
abbrev pub reply_to : ℕ → NodeCommand → List NamedItem → LegReply
reply_to now (Get key) items = hit_or_miss (live_item now key items)
reply_to now (Set key flags exptime block) items = Stored
reply_to now (Delete key) items = if is_some (live_item now key items) then Deleted else NotFound

-- the command is performed now
-- (from: protocol.txt, "Storage commands", "Retrieval command", "Deletion"; order of use and what is dropped own)
pub record RecencyStep (old : CacheView) (now : ℕ) (command : NodeCommand) (reply : LegReply) (new : CacheView) : Type 0 where
  pub answers : reply ≡ reply_to now command old.items
  pub leaves : new ≡ record old { items = items_after old.capacity now command old.items }

-- only a hit needs memory, for a copy, and a new key that is kept
abbrev pub MayLackMemory : CacheView → ℕ → NodeCommand → Type 0
MayLackMemory old now (Get key) = IsSome (live_item now key old.items)
MayLackMemory old now (Set key flags exptime block) =
    IsTrue (is_alive now (expiry_of now exptime)) × (item_of key old.items ≡ None)
MayLackMemory old now (Delete key) = ⊥

-- an empty cache, or ZeroCapacity where it could hold nothing
abbrev pub IsNewCache : ℕ → Result CacheView NodeError → Type 0
IsNewCache capacity (Ok cache) = (1 ≤ capacity) × (cache ≡ record { capacity = capacity; items = [] })
IsNewCache capacity (Err e) = ((e ≡ ZeroCapacity) × (capacity ≡ 0)) ⊎ ((e ≡ OutOfMemory) × (1 ≤ capacity))
