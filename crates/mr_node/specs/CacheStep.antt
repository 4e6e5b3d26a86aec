-- A cache as a finite map from keys to flags and data, of which any items may vanish before and after each command.
use Rattle.std.specs.Prelude.{◌≡◌, ◌≢◌, ℕ, ◌⊎◌, List, Option, Some, IsSome}
use Rattle.std.specs.Option.{option_map}
use Rattle.mr_join.specs.declared.leg_reply.LegReply.{LegReply}
use Rattle.mr_join.specs.declared.leg_reply.LegReply.TheVariants.{Hit, Miss, Stored, Deleted, NotFound}
use Rattle.mr_node.specs.declared.command.NodeCommand.{NodeCommand}
use Rattle.mr_node.specs.declared.command.NodeCommand.TheVariants.{Get, Set, Delete}
use Rattle.mr_node.specs.Items.{NamedItem, named_item_of}

-- what is kept under a key
pub record Datum : Type 0 where
  pub flags : ℕ
  pub block : List ℕ

-- what is kept under each key
abbrev pub Contents : Type 0
Contents = List ℕ → Option Datum

-- under the key are these flags and data
abbrev pub Holds : Contents → List ℕ → Datum → Type 0
Holds contents key datum = contents key ≡ Some datum

-- nothing is new
abbrev pub OnlyLoses : Contents → Contents → Type 0
OnlyLoses old new = (key : List ℕ) (datum : Datum) → Holds new key datum → Holds old key datum

-- nothing is new, and nothing is left under this key
abbrev pub LosesKey : List ℕ → Contents → Contents → Type 0
LosesKey key old new = (other : List ℕ) (datum : Datum) → Holds new other datum → (other ≢ key) × Holds old other datum

-- nothing is new but this, and nothing else is left under its key
abbrev pub Puts : List ℕ → Datum → Contents → Contents → Type 0
Puts key put old new = (other : List ℕ) (datum : Datum) → Holds new other datum
    → ((other ≡ key) × (datum ≡ put)) ⊎ ((other ≢ key) × Holds old other datum)

-- Since any items may vanish before the command and after it, a step says what was there before it and no more than
-- what may be there afterwards.
abbrev pub CacheStep : Contents → NodeCommand → LegReply → Contents → Type 0
CacheStep old (Get key) (Hit flags block) new = Holds old key (record { flags = flags; block = block }) × OnlyLoses old new
CacheStep old (Get key) Miss new = LosesKey key old new
CacheStep old (Set key flags exptime block) Stored new = Puts key (record { flags = flags; block = block }) old new
CacheStep old (Delete key) Deleted new = IsSome (old key) × LosesKey key old new
CacheStep old (Delete key) NotFound new = LosesKey key old new
CacheStep old _ _ new = ⊥

-- the map of a list of items
abbrev pub contents_of : List NamedItem → Contents
contents_of items key = option_map (λ named. record { flags = named.1.flags; block = named.1.block }) (named_item_of key items)
