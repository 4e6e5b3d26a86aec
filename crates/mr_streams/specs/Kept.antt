-- What caches hold can be told of in a text.
use Rattle.std.specs.Prelude.{List}
use Rattle.std.specs.List.{AllByRecursion}
use Rattle.mr_text.specs.Block.{IsBlock}
use Rattle.mr_text.specs.Valid.{IsFlags}
use Rattle.mr_node.specs.Items.{NamedItem}

-- the item's flags and block are those of some item of a reply
abbrev pub IsTellable : NamedItem → Type 0
IsTellable named = IsFlags named.1.flags × IsBlock named.1.block

-- so it is with each item
abbrev pub AreTellable : List NamedItem → Type 0
AreTellable items = AllByRecursion IsTellable items
