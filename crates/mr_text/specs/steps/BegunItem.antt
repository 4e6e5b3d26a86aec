-- How far an unfinished reply was read: its items, and what the line of one more said.
use Rattle.std.specs.Prelude.{◌≡◌, ℕ, ◌+◌, ◌≤◌, Bool, true, false, List, [], ◌∷◌, length, Option, Some, None}
use Rattle.mr_text.specs.Limits.{MAX_BLOCK, MAX_ITEMS}
use Rattle.mr_text.specs.Replies.{IsItemLine, BeginsWithItems}
use Rattle.mr_text.specs.declared.item.Item.{Item}

-- what the line of an item said whose block isn't whole
pub record SaidItem : Type 0 where
  pub key : List ℕ
  pub flags : ℕ
  pub block_length : ℕ

-- what was read behind the whole items: nothing, or the line of one more
abbrev pub IsLineSoFar : List ℕ → Option SaidItem → Type 0
IsLineSoFar line None = line ≡ []
IsLineSoFar line (Some said) =
    IsItemLine line said.key said.flags said.block_length × (said.block_length ≤ MAX_BLOCK)

-- how many items were begun: those that are whole, and one of which the line was read
abbrev pub begun_count : ℕ → Option SaidItem → ℕ
begun_count whole None = whole
begun_count whole (Some said) = whole + 1

-- the bytes that were read are the items and the line of which this is kept
pub record HasRead (front : List ℕ) (items : List Item) (said : Option SaidItem) : Type 0 where
  pub line : List ℕ
  pub begins : BeginsWithItems front items line
  pub is_line : IsLineSoFar line said
  pub few : begun_count (length items) said ≤ MAX_ITEMS

-- something of a reply was read
abbrev pub is_begun : List Item → Option SaidItem → Bool
is_begun [] None = false
is_begun [] (Some said) = true
is_begun (item ∷ items) said = true
