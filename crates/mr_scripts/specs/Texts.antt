-- What texts of JSON stand for: keys, blocks and the names of nodes.
use Rattle.std.specs.Prelude.{ℕ, List, if◌then◌else◌, Result, Ok, Err, ok_or}
use Rattle.std.specs.List.{list_all}
use Rattle.std.specs.Str.{chars}
use Rattle.serde_json.specs.Data.{Data}
use Rattle.mr_text.specs.Key.{key_test}
use Rattle.mr_shown.specs.Data.{data_of, is_byte}
use Rattle.mr_shown.specs.declared.format.Format.{Format}
use Rattle.mr_configs.specs.Checking.{◌>>=◌}
use Rattle.mr_configs.specs.Fields.{Text, text_of}
use Rattle.mr_configs.specs.Pools.{is_node_name}
use Rattle.mr_configs.specs.declared.error.PlanError.{PlanError}
use Rattle.mr_configs.specs.declared.error.PlanError.TheVariants.{WrongKind}

-- the bytes that a text stands for: each character is one byte, its code point
abbrev pub bytes_of_text : Text → Result (List ℕ) PlanError
bytes_of_text text = if list_all is_byte (chars text) then Ok (chars text) else Err WrongKind

-- the key that bytes are, or WrongKind
abbrev pub key_of_bytes : List ℕ → Result (List ℕ) PlanError
key_of_bytes bytes = if key_test bytes then Ok bytes else Err WrongKind

-- the key that a text stands for, or WrongKind
abbrev pub key_of_text : Text → Result (List ℕ) PlanError
key_of_text text = bytes_of_text text >>= key_of_bytes

-- the key that a value is
abbrev pub key_of : Data → Result (List ℕ) PlanError
key_of value = text_of value >>= key_of_text

-- the block that a text stands for in a format, or WrongKind
abbrev pub block_of_text : Format → Text → Result (List ℕ) PlanError
block_of_text format text = ok_or (data_of format (chars text)) WrongKind

-- the block that a value is in a format
abbrev pub block_of : Format → Data → Result (List ℕ) PlanError
block_of format value = text_of value >>= block_of_text format

-- the node's name that a text is, or WrongKind
abbrev pub node_name_of_text : Text → Result Text PlanError
node_name_of_text text = if is_node_name text then Ok text else Err WrongKind

-- the name of a node that a value is
abbrev pub node_name_of : Data → Result Text PlanError
node_name_of value = text_of value >>= node_name_of_text
