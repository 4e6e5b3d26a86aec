-- How items are dealt out to the gets of keys, one by one.
use Rattle.std.specs.Prelude.{ℕ, List, [], ◌∷◌, if◌then◌else◌}
use Rattle.std.specs.Str.{bytes_eq}
use Rattle.mr_text.specs.declared.item.Item.{Item}

-- the items that are left for the keys behind this one, whose item the first one is if it is of it
abbrev pub left_by : List ℕ → List Item → List Item
left_by key [] = []
left_by key (item ∷ items) = if bytes_eq item.key key then items else item ∷ items
