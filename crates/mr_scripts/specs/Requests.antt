-- The request that a JSON value is.
use Rattle.std.specs.Prelude.{ℕ, ◌&&◌, List, [], ◌∷◌, length, map, Bool, true, nat_le, is_ok, if◌then◌else◌, unwrap_or, Result, Ok, Err, codes}
use Rattle.std.specs.Str.{bytes_eq, chars}
use Rattle.serde_json.specs.Data.{Data}
use Rattle.serde_json.specs.Find.{get, as_str}
use Rattle.mr_text.specs.Key.{get_line_length}
use Rattle.mr_text.specs.Limits.{MAX_LINE}
use Rattle.mr_text.specs.declared.request.Request.{Request}
use Rattle.mr_text.specs.declared.request.Request.TheVariants.{Get, Set, Delete}
use Rattle.mr_shown.specs.declared.format.Format.{Format}
use Rattle.mr_configs.specs.Checking.{◌>>=◌}
use Rattle.mr_configs.specs.Fields.{Text, object_check, field, text_of, list_of}
use Rattle.mr_scripts.specs.Numbers.{small_number, signed_whole_number, flag_of}
use Rattle.mr_scripts.specs.Texts.{key_of, block_of}
use Rattle.mr_configs.specs.declared.error.PlanError.{PlanError}
use Rattle.mr_configs.specs.declared.error.PlanError.TheVariants.{WrongKind}

-- each value is a key
abbrev pub are_keys : List Data → Bool
are_keys [] = true
are_keys (value ∷ values) = is_ok (key_of value) && are_keys values

-- the bytes of keys
abbrev pub keys_in : List Data → List (List ℕ)
keys_in values = map (λ value. chars (unwrap_or (as_str value) [])) values

-- the keys of a get: at least one, and so few that they fit a line
abbrev pub are_listed : List (List ℕ) → Bool
are_listed keys = nat_le 1 (length keys) && nat_le (get_line_length keys) MAX_LINE

-- the keys that values are, if all are keys and fit a get, else WrongKind
abbrev pub keys_of : List Data → Result (List (List ℕ)) PlanError
keys_of values = if are_keys values && are_listed (keys_in values) then Ok (keys_in values) else Err WrongKind

-- the keys of a get's object
abbrev pub get_keys : List Text
get_keys = codes "keys" ∷ codes "kind" ∷ []

-- the get that a value is
abbrev pub get_of : Data → Result Request PlanError
get_of value =
    object_check get_keys value >>= λ _.
    field (codes "keys") value >>= list_of >>= keys_of >>= λ keys.
    Ok (Get keys)

-- the keys of a set's object
abbrev pub set_keys : List Text
set_keys = codes "data" ∷ codes "exptime" ∷ codes "flags" ∷ codes "key" ∷ codes "kind" ∷ codes "noreply" ∷ []

-- the set that a value is
abbrev pub set_of : Format → Data → Result Request PlanError
set_of format value =
    object_check set_keys value >>= λ _.
    field (codes "data") value >>= block_of format >>= λ block.
    field (codes "exptime") value >>= signed_whole_number >>= λ exptime.
    field (codes "flags") value >>= small_number >>= λ flags.
    field (codes "key") value >>= key_of >>= λ key.
    flag_of (get (codes "noreply") value) >>= λ noreply.
    Ok (Set key flags exptime block noreply)

-- the keys of a delete's object
abbrev pub delete_keys : List Text
delete_keys = codes "key" ∷ codes "kind" ∷ codes "noreply" ∷ []

-- the delete that a value is
abbrev pub delete_of : Data → Result Request PlanError
delete_of value =
    object_check delete_keys value >>= λ _.
    field (codes "key") value >>= key_of >>= λ key.
    flag_of (get (codes "noreply") value) >>= λ noreply.
    Ok (Delete key noreply)

-- the request of this kind that a value is; WrongKind where there is no such kind
abbrev pub request_of_kind : Format → Data → Text → Result Request PlanError
request_of_kind format value kind =
    if bytes_eq kind (codes "get") then get_of value
    else if bytes_eq kind (codes "set") then set_of format value
    else if bytes_eq kind (codes "delete") then delete_of value
    else Err WrongKind

-- The request that a value is in a format. Which keys it may have goes by its kind, so the kind is looked at before them.
abbrev pub request_of : Format → Data → Result Request PlanError
request_of format value = field (codes "kind") value >>= text_of >>= request_of_kind format value
