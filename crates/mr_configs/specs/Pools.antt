-- The pools of a configuration.
use Rattle.std.specs.Prelude.{ℕ, ◌&&◌, ◌==◌, List, [], ◌∷◌, map, length, Bool, true, not, nat_lt, nat_le, if◌then◌else◌, Result, Ok, Err, ok_or, unwrap_or, is_some, codes}
use Rattle.serde_json.specs.Data.{Data, Members, no_members, member}
use Rattle.serde_json.specs.Find.{as_object, as_str}
use Rattle.mr_pools.specs.Limits.{longest_name, most_nodes}
use Rattle.mr_pools.specs.declared.error.PoolError.TheVariants as pool
use Rattle.mr_configs.specs.Checking.{◌>>=◌}
use Rattle.mr_configs.specs.Fields.{Text, is_one_of, object_check, field, list_of}
use Rattle.mr_configs.specs.declared.error.PlanError.{PlanError}
use Rattle.mr_configs.specs.declared.error.PlanError.TheVariants.{WrongKind, BadPool}

-- a visible ASCII character other than a comma
abbrev pub is_name_byte : ℕ → Bool
is_name_byte byte = nat_le 0x21 byte && (nat_le byte 0x7E && not (byte == 0x2C))

-- each byte may stand in the name of a node
abbrev pub are_name_bytes : Text → Bool
are_name_bytes [] = true
are_name_bytes (byte ∷ bytes) = is_name_byte byte && are_name_bytes bytes

-- the text names a node
abbrev pub is_node_name : Text → Bool
is_node_name text = nat_le 1 (length text) && (nat_le (length text) longest_name && are_name_bytes text)

-- each text names a node
abbrev pub are_node_names : List Text → Bool
are_node_names [] = true
are_node_names (name ∷ names) = is_node_name name && are_node_names names

-- no name stands among those after it
abbrev pub have_no_repeat : List Text → Bool
have_no_repeat [] = true
have_no_repeat (name ∷ names) = not (is_one_of names name) && have_no_repeat names

-- no name of these is one of the others
abbrev pub stand_apart : List Text → List Text → Bool
stand_apart [] others = true
stand_apart (name ∷ names) others = not (is_one_of others name) && stand_apart names others

-- the names of a pool, or the first of the refusals
abbrev pub pool_of_names : List Text → Result (List Text) PlanError
pool_of_names names =
    if not (are_node_names names) then Err (BadPool pool.BadName)
    else if nat_lt (length names) 1 then Err (BadPool pool.EmptyPool)
    else if nat_lt most_nodes (length names) then Err (BadPool pool.TooManyNodes)
    else if have_no_repeat names then Ok names
    else Err (BadPool pool.RepeatedName)

-- the texts that values hold
abbrev pub names_in : List Data → List Text
names_in values = map (λ value. unwrap_or (as_str value) []) values

-- each value is a text
abbrev pub are_texts : List Data → Bool
are_texts [] = true
are_texts (value ∷ values) = is_some (as_str value) && are_texts values

-- each value is a text
abbrev pub texts_of : List Data → Result (List Text) PlanError
texts_of values = if are_texts values then Ok (names_in values) else Err WrongKind

-- the pool that a value is: an object with the names of its nodes
abbrev pub pool_in : Data → Result (List Text) PlanError
pool_in value =
    object_check (codes "servers" ∷ []) value >>= λ _.
    field (codes "servers") value >>= list_of >>= texts_of >>= pool_of_names

-- each member is a pool; the first in the order of the keys that is none is told
abbrev pub are_pools : Members → Result (Unit {0}) PlanError
are_pools no_members = Ok tt
are_pools (member name value members) = pool_in value >>= λ _. are_pools members

-- the pools of a configuration: an object of pools (from: MigrateRoute; refusals own)
abbrev pub pools_check : Data → Result (Unit {0}) PlanError
pools_check value = ok_or (as_object value) WrongKind >>= are_pools
