-- Objects that are made of plain parts.
use Rattle.std.specs.Prelude.{ℕ, List, [], ◌∷◌, map}
use Rattle.std.specs.Borrow.{Bor}
use Rattle.serde_json.specs.Data.{Data, boolean, number, string, array, Members, put}
use Rattle.serde_json.specs.Find.{of_integer}
use Rattle.serde_json.specs.View.{items_of}
use Rattle.mr_shown.specs.Shown.{author_json, bytes_json, data_json, keys_json, number_json, op_json}
use Rattle.mr_shown.specs.declared.objects.Part.{Part}
use Rattle.mr_shown.specs.declared.objects.Part.TheVariants as part

-- the value of a plain part
abbrev pub part_json : Part → Data
part_json (part.Text text) = string text.now
part_json (part.Bytes bytes) = bytes_json bytes.now
part_json (part.Data format bytes) = data_json format bytes.now
part_json (part.Number n) = number_json n
part_json (part.Signed n) = number (of_integer n)
part_json (part.Flag flag) = boolean flag
part_json (part.Op op) = op_json op
part_json (part.Author by) = author_json by
part_json (part.Numbers numbers) = array (items_of (map number_json numbers.now))
part_json (part.Keys keys) = array (keys_json keys.now)

-- these members beside those that are there
abbrev pub members_json : List (Bor (List ℕ) × Part) → Members → Members
members_json [] before = before
members_json (m ∷ ms) before = members_json ms (put m.0.now (part_json m.1) before)
