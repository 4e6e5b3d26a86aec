-- Where the items of an answer stand.
use Rattle.std.specs.Prelude.{List, [], ◌∷◌}
use Rattle.mr_text.specs.declared.item.Item.{Item}
use Rattle.mr_text.specs.declared.item_list.ItemPlace.{ItemPlace}
use Rattle.mr_text.specs.declared.item_list.ItemPlace.TheVariants.{One, Many}

-- the items, in either place
abbrev pub items_at : ItemPlace → List Item
items_at (One item) = item ∷ []
items_at (Many items) = items.items
