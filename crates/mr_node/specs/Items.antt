-- What a cache keeps, as a list of keys and items.
use Rattle.std.specs.Prelude.{◌≡◌, ℕ, ◌≤◌, List, [], ◌∷◌, length, Bool, not, Option, None}
use Rattle.std.specs.List.{find, filter}
use Rattle.std.specs.Option.{option_map}
use Rattle.std.specs.Str.{bytes_eq}
use Rattle.mr_node.specs.declared.cached_item.CachedItem.{CachedItem}

-- a key and the item under it
abbrev pub NamedItem : Type 0
NamedItem = List ℕ × CachedItem

-- the item has this key
abbrev pub is_named : List ℕ → NamedItem → Bool
is_named key named = bytes_eq named.0 key

-- the first item under this key, with its key
abbrev pub named_item_of : List ℕ → List NamedItem → Option NamedItem
named_item_of key items = find (is_named key) items

-- the item under the key
abbrev pub item_of : List ℕ → List NamedItem → Option CachedItem
item_of key items = option_map (λ named. named.1) (named_item_of key items)

-- the items under other keys
abbrev pub without : List ℕ → List NamedItem → List NamedItem
without key items = filter (λ named. not (is_named key named)) items

-- no two items have one key
abbrev pub HasDistinctKeys : List NamedItem → Type 0
HasDistinctKeys [] = Unit {0}
HasDistinctKeys (named ∷ others) = (named_item_of named.0 others ≡ None) × HasDistinctKeys others

-- what a cache may keep
pub record IsCacheContent (capacity : ℕ) (items : List NamedItem) : Type 0 where
  pub not_zero : 1 ≤ capacity
  pub within : length items ≤ capacity
  pub distinct : HasDistinctKeys items
