-- What is read from a JSON value: members by their keys, whole numbers, texts and lists.
use Rattle.std.specs.Prelude.{ℕ, ◌&&◌, ◌||◌, List, [], ◌∷◌, Bool, true, false, Result, Ok, ok_or, option_and_then}
use Rattle.std.specs.Str.{bytes_eq}
use Rattle.serde_json.specs.Data.{Data, Items, no_items, item, Members, no_members, member}
use Rattle.serde_json.specs.Find.{get, as_object, as_array, as_str, as_number, as_u64}
use Rattle.mr_configs.specs.Checking.{◌>>=◌, only_if}
use Rattle.mr_configs.specs.declared.error.PlanError.{PlanError}
use Rattle.mr_configs.specs.declared.error.PlanError.TheVariants.{WrongKind, MissingKey, UnknownKey}

-- a text of JSON, by the bytes of its UTF-8
abbrev pub Text : Type 0
Text = List ℕ

-- the key is one of these
abbrev pub is_one_of : List Text → Text → Bool
is_one_of [] key = false
is_one_of (known ∷ keys) key = bytes_eq known key || is_one_of keys key

-- each key of the members is one of these
abbrev pub have_only : List Text → Members → Bool
have_only keys no_members = true
have_only keys (member key value members) = is_one_of keys key && have_only keys members

-- it is an object, and has no key but these (from: RFC 8259; refusals own)
abbrev pub object_check : List Text → Data → Result (Unit {0}) PlanError
object_check keys value = ok_or (as_object value) WrongKind >>= λ members. only_if (have_only keys members) UnknownKey

-- the value of a key that has to be there
abbrev pub field : Text → Data → Result Data PlanError
field key value = ok_or (get key value) MissingKey

-- a whole number of 64 bits
abbrev pub whole_number : Data → Result ℕ PlanError
whole_number value = ok_or (option_and_then as_u64 (as_number value)) WrongKind

-- a text, or WrongKind
abbrev pub text_of : Data → Result Text PlanError
text_of value = ok_or (as_str value) WrongKind

-- the values of a list, in order
abbrev pub values_in : Items → List Data
values_in no_items = []
values_in (item value values) = value ∷ values_in values

-- a list, or WrongKind
abbrev pub list_of : Data → Result (List Data) PlanError
list_of value = ok_or (as_array value) WrongKind >>= λ items. Ok (values_in items)
