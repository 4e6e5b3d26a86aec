-- The script of format 2 that says the same as a script.
use Rattle.std.specs.Prelude.{◌≡◌, ℕ, ◌+◌, ◌<◌, ◌≤◌, ◌⊎◌, List, length, map, Bool, false, if◌then◌else◌, option_and_then, option_map, unwrap_or, Ok, Err, codes}
use Rattle.std.specs.Str.{bytes_eq, chars, encode_utf8_all}
use Rattle.serde_json.specs.Data.{Data, number, string, array, object, unsigned, put}
use Rattle.serde_json.specs.Find.{get, as_str}
use Rattle.serde_json.specs.View.{items_of}
use Rattle.serde_json.specs.Written.{compact_text}
use Rattle.mr_shown.specs.Data.{data_of, shown_data}
use Rattle.mr_shown.specs.declared.format.Format.{Format}
use Rattle.mr_shown.specs.declared.format.Format.TheVariants.{One, Two}
use Rattle.mr_configs.specs.Config.{IsJson}
use Rattle.mr_configs.specs.Fields.{Text, values_in}
use Rattle.mr_configs.specs.declared.error.PlanError.{PlanError}
use Rattle.mr_configs.specs.declared.error.PlanError.TheVariants.{TooLarge, OutOfMemory}
use Rattle.mr_scripts.specs.Limits.{most_bytes}
use Rattle.mr_scripts.specs.Script.{ScriptParts, ReadsScript, script_of}

-- an object with a value under a key, in the place of what stood there
abbrev pub with_member : Text → Data → Data → Data
with_member key held (object members) = object (put key held members)
with_member key held value = value

-- the value, of which what stands under a key is changed, if anything does
abbrev pub changed_at : Text → (Data → Data) → Data → Data
changed_at key change value = unwrap_or (option_map (λ held. with_member key (change held) value) (get key value)) value

-- each value of a list changed
abbrev pub each_changed : (Data → Data) → Data → Data
each_changed change (array items) = array (items_of (map change (values_in items)))
each_changed change value = value

-- the text under this key is this one
abbrev pub says_at : Text → Text → Data → Bool
says_at key text value = unwrap_or (option_map (λ said. bytes_eq said text) (option_and_then as_str (get key value))) false

-- the text of these bytes in format 2
abbrev pub digits_json : List ℕ → Data
digits_json bytes = string (encode_utf8_all (shown_data Two bytes))

-- data of format 1 in format 2; what is no data stands as it stood
abbrev pub upgraded_data : Data → Data
upgraded_data value = unwrap_or (option_map digits_json (option_and_then (data_of One) (option_map chars (as_str value)))) value

-- a held item, or the request of a set
abbrev pub with_digits : Data → Data
with_digits value = changed_at (codes "data") upgraded_data value

-- a request, of which the data of a set changes
abbrev pub upgraded_request : Data → Data
upgraded_request value = if says_at (codes "kind") (codes "set") value then with_digits value else value

-- an event, of which the request of a client changes
abbrev pub upgraded_event : Data → Data
upgraded_event value =
    if says_at (codes "do") (codes "client") value then changed_at (codes "request") upgraded_request value else value

-- a setup, of which each held item changes
abbrev pub upgraded_setup : Data → Data
upgraded_setup value = changed_at (codes "held") (each_changed with_digits) value

-- The script of format 2 that says the same as a script of this format: the data of held items and of sets stands in
-- hexadecimal digits of lower case, and all else stands as it stood. A script of format 2 is its own.
abbrev pub upgraded : Format → Data → Data
upgraded One script =
    with_member (codes "format") (number (unsigned 2))
    (changed_at (codes "setup") upgraded_setup (changed_at (codes "events") (each_changed upgraded_event) script))
upgraded Two script = script

-- The text, with one line end no larger than a script may be, is compact JSON. It is read as a script of format 2 with
-- the setup and the events of the script that the bytes are.
pub record IsUpgrade (bytes text : List ℕ) : Type 0 where
  pub script : Data
  pub parts : ScriptParts
  pub fits : length bytes ≤ most_bytes
  pub is_json : IsJson bytes script
  pub says : script_of script ≡ Ok parts
  pub compact : text ≡ compact_text (upgraded parts.format script)
  pub reads : IsJson text (upgraded parts.format script)
  pub kept : script_of (upgraded parts.format script) ≡ Ok (record { format = Two; setup = parts.setup; events = parts.events })
  pub small : length text + 1 ≤ most_bytes

-- why the script that a value is has no upgrade: it would be too large, unless memory was refused
abbrev pub HasNoUpgrade : Data → ScriptParts → PlanError → Type 0
HasNoUpgrade script parts refusal =
    ((refusal ≡ TooLarge) × (most_bytes < length (compact_text (upgraded parts.format script)) + 1)) ⊎ (refusal ≡ OutOfMemory)

-- Why bytes have no upgrade: they are no script, or the script of format 2 would be too large, or memory was refused.
abbrev pub RefusesUpgrade : List ℕ → PlanError → Type 0
RefusesUpgrade bytes refusal =
    ReadsScript bytes (Err refusal)
    ⊎ ((script : Data) × (parts : ScriptParts) × (length bytes ≤ most_bytes) × IsJson bytes script × (script_of script ≡ Ok parts) × HasNoUpgrade script parts refusal)
