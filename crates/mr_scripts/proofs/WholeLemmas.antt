-- What is a script has no number that isn't whole: each of its readers refuses one by its kind.
use Rattle.std.proofs.Common.{◌≡◌, ℕ, zero, suc, ◌+◌, ◌&&◌, ◌||◌, Bool, true, false, List, [], ◌∷◌, length, Option, Some, Result, Ok, Err, refl, sym, ◌∙◌, subst, if◌then◌else◌, codes}
use Rattle.std.specs.Prelude.{⊤, is_ok, is_some, option_and_then, option_map, unwrap_or}
use Rattle.std.specs.Str.{bytes_eq}
use Rattle.std.proofs.lemmas.Slice.Eq.{bytes_eq-Decides}
use Rattle.serde_json.specs.Data.{unsigned, negative, float, Data, null, boolean, number, string, array, object, Items, no_items, item, Members, no_members, member}
use Rattle.serde_json.specs.Find.{get, get_member, as_str}
use Rattle.serde_json.specs.Written.{has_float, items_have_float, members_have_float}
use Rattle.mr_text.specs.declared.request.Request.{Request}
use Rattle.mr_world.specs.declared.event.Event.{Event}
use Rattle.mr_world.specs.declared.event.Event.TheVariants.{Return, GiveUp, NodeRestart, ProxyRestart}
use Rattle.mr_phases.specs.Schedule.{most_hops}
use Rattle.mr_shown.specs.declared.format.Format.{Format}
use Rattle.mr_configs.specs.Chain.{Chain, schedule_of}
use Rattle.mr_configs.specs.Checking.{◌>>=◌, only_if}
use Rattle.mr_configs.specs.Config.{ConfigView, IsJson, config_of, config_keys, hash_of}
use Rattle.mr_configs.specs.Fields.{Text, is_one_of, have_only, object_check, field, whole_number, text_of, list_of, values_in}
use Rattle.mr_configs.specs.Pools.{texts_of, are_texts, pool_in, are_pools, pools_check}
use Rattle.mr_configs.specs.Route.{is_migration, pool_behind, interval_of, route_keys, chain_before, chain_of}
use Rattle.mr_configs.specs.declared.error.PlanError.{PlanError}
use Rattle.mr_configs.specs.declared.error.PlanError.TheVariants.{BadRoute, MissingKey, UnknownKey, WrongKind}
use Rattle.mr_scripts.specs.Events.{op_of, clock_of, clock_keys, client_of, client_keys, deliver_of, deliver_keys, return_of, give_up_of, node_restart_of, proxy_restart_of, event_of, event_at, events_of}
use Rattle.mr_scripts.specs.Lists.{all_of}
use Rattle.mr_scripts.specs.Numbers.{small_number, signed_whole_number, flag_of}
use Rattle.mr_scripts.specs.Requests.{are_keys, keys_of, get_of, get_keys, set_of, set_keys, delete_of, delete_keys, request_of}
use Rattle.mr_scripts.specs.Script.{ScriptParts, count_in, counts_check, format_in, script_of, script_keys}
use Rattle.mr_scripts.specs.Setups.{held_of, held_keys, config_or, proxy_of, proxy_keys, setup_of, setup_keys}
use Rattle.mr_scripts.specs.Texts.{key_of, block_of, node_name_of}
use Rattle.mr_configs.proofs.CheckingLemmas.{taken, there}
use Rattle.mr_scripts.proofs.OrderLemmas.{IsInOrder, ItemsAreInOrder, MembersAreInOrder, found_first, found_in_order, found_later, read_in_order}

-- what stands under the key, if anything does, has no float
abbrev IsWholeAt : Text → Data → Type 0
IsWholeAt key value = (found : Data) → get key value ≡ Some found → has_float found ≡ false

abbrev AreWholeAt : List Text → Data → Type 0
AreWholeAt [] value = ⊤
AreWholeAt (key ∷ keys) value = IsWholeAt key value × AreWholeAt keys value

-- a value in order that is read so has no float
abbrev ReadsWhole : {X : Type 0} → (Data → Result X PlanError) → Type 0
ReadsWhole {X} reads = (value : Data) (made : X) → IsInOrder value → reads value ≡ Ok made → has_float value ≡ false

-- one key, and the keys behind it
infixr 30 ◌also◌
◌also◌ : {A B : Type 0} → A → B → A × B
◌also◌ a b = (a, b)

-- objects

one_key : (same : Bool) (known key : Text) (keys : List Text) (value : Data) → bytes_eq known key ≡ same → (same || is_one_of keys key) ≡ true
    → IsWholeAt known value → (is_one_of keys key ≡ true → IsWholeAt key value) → IsWholeAt key value
one_key true known key keys value is one here later = subst (λ k. IsWholeAt k value) ((bytes_eq-Decides known key).0 is) here
one_key false known key keys value is one here later = later one

by_key : (keys : List Text) (key : Text) (value : Data) → AreWholeAt keys value → is_one_of keys key ≡ true → IsWholeAt key value
by_key [] key value whole one = cc
by_key (known ∷ keys) key value whole one =
    one_key (bytes_eq known key) known key keys value refl one whole.0 (by_key keys key value whole.1)

left_true : (a b : Bool) → (a && b) ≡ true → a ≡ true
left_true true b e = refl
left_true false b e = cc

right_true : (a b : Bool) → (a && b) ≡ true → b ≡ true
right_true true b e = e
right_true false b e = cc

-- what is found among these members is found in the value
abbrev StandIn : Members → Data → Type 0
StandIn members value = (key : Text) (found : Data) → get_member key members ≡ Some found → get key value ≡ Some found

members_whole : (keys : List Text) (value : Data) (members : Members) → have_only keys members ≡ true → AreWholeAt keys value → StandIn members value
    → MembersAreInOrder members → members_have_float members ≡ false
members_whole keys value no_members only whole stand order = refl
members_whole keys value (member key held members) only whole stand order =
    let known = left_true (is_one_of keys key) (have_only keys members) only in
    let others = right_true (is_one_of keys key) (have_only keys members) only in
    let here = by_key keys key value whole known held (stand key held (found_first key held members)) in
    let behind : StandIn members value = λ other found at. stand other found (found_later other key held found members order.0 at) in
    let later = members_whole keys value members others whole behind order.2 in
    rw (here, later) refl

only_these : (b : Bool) (unit : Unit {0}) → ◌≡◌ {A = Result (Unit {0}) PlanError} (only_if b UnknownKey) (Ok unit) → b ≡ true
only_these true unit e = refl
only_these false unit e = cc

object_whole : (keys : List Text) (value : Data) (unit : Unit {0}) → object_check keys value ≡ Ok unit → IsInOrder value → AreWholeAt keys value
    → has_float value ≡ false
object_whole keys null unit e order whole = refl
object_whole keys (boolean b) unit e order whole = refl
object_whole keys (number n) unit e order whole = cc
object_whole keys (string s) unit e order whole = refl
object_whole keys (array items) unit e order whole = cc
object_whole keys (object members) unit e order whole =
    members_whole keys (object members) members (only_these (have_only keys members) unit e) whole (λ key found at. at) order

-- a key that was looked at
key_stands : (key : Text) (value held : Data) → field key value ≡ Ok held → has_float held ≡ false → IsWholeAt key value
key_stands key value held gave whole found at =
    let stands = there (get key value) MissingKey held gave in
    let same : held ≡ found = cc in
    subst (λ d. has_float d ≡ false) same whole

-- what stands there was read
key_taken : {X : Type 0} (key : Text) (value held : Data) (reads : Data → Result X PlanError) (made : X) → ReadsWhole reads → IsInOrder value
    → field key value ≡ Ok held → reads held ≡ Ok made → IsWholeAt key value
key_taken key value held reads made whole order gave read =
    let stands = there (get key value) MissingKey held gave in
    key_stands key value held gave (whole held made (found_in_order key value held order stands) read)

key_read : {X : Type 0} (key : Text) (value : Data) (reads : Data → Result X PlanError) (made : X) → ReadsWhole reads → IsInOrder value
    → (field key value >>= reads) ≡ Ok made → IsWholeAt key value
key_read key value reads made whole order e =
    let held = taken (field key value) reads made e in
    key_taken key value held.value reads made whole order held.gave held.went

-- a key that may be absent
key_maybe : {X : Type 0} (key : Text) (value : Data) (reads : Option Data → Result X PlanError) (made : X) → ReadsWhole (λ held. reads (Some held))
    → IsInOrder value → reads (get key value) ≡ Ok made → IsWholeAt key value
key_maybe key value reads made whole order e found at =
    whole found made (found_in_order key value found order at) (subst (λ held. reads held ≡ Ok made) at e)

-- single values

number_whole : ReadsWhole whole_number
number_whole null made order e = refl
number_whole (boolean b) made order e = refl
number_whole (number (unsigned n)) made order e = refl
number_whole (number (negative z)) made order e = refl
number_whole (number (float x)) made order e = cc
number_whole (string s) made order e = refl
number_whole (array items) made order e = cc
number_whole (object _) made order e = cc

small_whole : ReadsWhole small_number
small_whole value made order e = let read = taken (whole_number value) _ made e in number_whole value read.value order read.gave

signed_whole : ReadsWhole signed_whole_number
signed_whole null made order e = refl
signed_whole (boolean b) made order e = refl
signed_whole (number (unsigned n)) made order e = refl
signed_whole (number (negative z)) made order e = refl
signed_whole (number (float x)) made order e = cc
signed_whole (string s) made order e = refl
signed_whole (array items) made order e = cc
signed_whole (object _) made order e = cc

flag_whole : ReadsWhole (λ held. flag_of (Some held))
flag_whole null made order e = refl
flag_whole (boolean b) made order e = refl
flag_whole (number n) made order e = cc
flag_whole (string s) made order e = refl
flag_whole (array items) made order e = cc
flag_whole (object _) made order e = cc

text_whole : ReadsWhole text_of
text_whole null made order e = refl
text_whole (boolean b) made order e = refl
text_whole (number n) made order e = cc
text_whole (string s) made order e = refl
text_whole (array items) made order e = cc
text_whole (object _) made order e = cc

-- of texts no more needs to be known
of_text : {X : Type 0} (reads : Text → Result X PlanError) → ReadsWhole (λ value. text_of value >>= reads)
of_text reads value made order e = let text = taken (text_of value) reads made e in text_whole value text.value order text.gave

key_whole : ReadsWhole key_of
key_whole = of_text _

block_whole : (format : Format) → ReadsWhole (block_of format)
block_whole format = of_text _

name_whole : ReadsWhole node_name_of
name_whole = of_text _

-- lists

items_whole : {X : Type 0} (reads : Data → Result X PlanError) (items : Items) (made : List X) → ReadsWhole reads → ItemsAreInOrder items
    → all_of reads (values_in items) ≡ Ok made → items_have_float items ≡ false
items_whole reads no_items made whole order e = refl
items_whole reads (item value items) made whole order e =
    let first = taken (reads value) (λ x. all_of reads (values_in items) >>= λ xs. Ok (x ∷ xs)) made e in
    let rest = taken (all_of reads (values_in items)) (λ xs. Ok (first.value ∷ xs)) made first.went in
    let here = whole value first.value order.0 first.gave in
    let later = items_whole reads items rest.value whole order.1 rest.gave in
    rw (here, later) refl

list_whole : {X : Type 0} (reads : Data → Result X PlanError) → ReadsWhole reads → ReadsWhole (λ value. list_of value >>= all_of reads)
list_whole reads whole null made order e = refl
list_whole reads whole (boolean b) made order e = refl
list_whole reads whole (number n) made order e = cc
list_whole reads whole (string s) made order e = refl
list_whole reads whole (array items) made order e = items_whole reads items made whole order e
list_whole reads whole (object _) made order e = cc

-- each member of a list, by a test of it
tested_whole : (test : Data → Bool) (tests : List Data → Bool) (items : Items) → ((value : Data) → test value ≡ true → has_float value ≡ false)
    → ((value : Data) (values : List Data) → tests (value ∷ values) ≡ (test value && tests values)) → tests (values_in items) ≡ true
    → items_have_float items ≡ false
tested_whole test tests no_items whole step e = refl
tested_whole test tests (item value items) whole step e =
    let both = sym (step value (values_in items)) ∙ e in
    let here = whole value (left_true (test value) (tests (values_in items)) both) in
    let later = tested_whole test tests items whole step (right_true (test value) (tests (values_in items)) both) in
    rw (here, later) refl

-- a list that passes the test
listed_whole : (tests : List Data → Bool) (value : Data) (values : List Data) → ((items : Items) → tests (values_in items) ≡ true → items_have_float items ≡ false)
    → list_of value ≡ Ok values → tests values ≡ true → has_float value ≡ false
listed_whole tests null values whole e held = refl
listed_whole tests (boolean b) values whole e held = refl
listed_whole tests (number n) values whole e held = cc
listed_whole tests (string s) values whole e held = refl
listed_whole tests (array items) values whole e held =
    let same : values_in items ≡ values = cc in
    whole items (subst (λ vs. tests vs ≡ true) (sym same) held)
listed_whole tests (object _) values whole e held = cc

is_text : (value : Data) → is_some (as_str value) ≡ true → has_float value ≡ false
is_text null e = refl
is_text (boolean b) e = refl
is_text (number n) e = cc
is_text (string s) e = refl
is_text (array items) e = cc
is_text (object _) e = cc

is_key : (value : Data) → is_ok (key_of value) ≡ true → has_float value ≡ false
is_key null e = refl
is_key (boolean b) e = refl
is_key (number n) e = cc
is_key (string s) e = refl
is_key (array items) e = cc
is_key (object _) e = cc

-- what passed a test
kept : {X : Type 0} (test : Bool) (given made : X) → ◌≡◌ {A = Result X PlanError} (if test then Ok given else Err WrongKind) (Ok made) → test ≡ true
kept true given made e = refl
kept false given made e = cc

-- configurations

texts_tested : (values : List Data) (made : List Text) → texts_of values ≡ Ok made → are_texts values ≡ true
texts_tested values made e = kept (are_texts values) _ made e

pool_whole : ReadsWhole pool_in
pool_whole value made order e =
    let keys = taken (object_check (codes "servers" ∷ []) value) _ made e in
    let names = taken (field (codes "servers") value >>= list_of >>= texts_of) _ made keys.went in
    let values = taken (field (codes "servers") value >>= list_of) texts_of names.value names.gave in
    let held = taken (field (codes "servers") value) list_of values.value values.gave in
    let texts : (items : Items) → are_texts (values_in items) ≡ true → items_have_float items ≡ false = λ items. tested_whole (λ d. is_some (as_str d)) are_texts items is_text (λ d ds. refl) in
    let listed = listed_whole are_texts held.value values.value texts held.went (texts_tested values.value names.value values.went) in
    object_whole (codes "servers" ∷ []) value keys.value keys.gave order (key_stands (codes "servers") value held.value held.gave listed also tt)

are_whole : (members : Members) (unit : Unit {0}) → MembersAreInOrder members → are_pools members ≡ Ok unit → members_have_float members ≡ false
are_whole no_members unit order e = refl
are_whole (member name value members) unit order e =
    let first = taken (pool_in value) (λ _. are_pools members) unit e in
    let here = pool_whole value first.value order.1 first.gave in
    let later = are_whole members unit order.2 first.went in
    rw (here, later) refl

pools_whole : ReadsWhole pools_check
pools_whole null unit order e = refl
pools_whole (boolean b) unit order e = refl
pools_whole (number n) unit order e = cc
pools_whole (string s) unit order e = refl
pools_whole (array items) unit order e = cc
pools_whole (object members) unit order e = are_whole members unit order e

hash_whole : ReadsWhole (λ held. hash_of (Some held))
hash_whole null made order e = refl
hash_whole (boolean b) made order e = refl
hash_whole (number n) made order e = cc
hash_whole (string s) made order e = refl
hash_whole (array items) made order e = cc
hash_whole (object _) made order e = cc

end_whole : (pools : Data) → ReadsWhole (pool_behind pools)
end_whole pools null made order e = refl
end_whole pools (boolean b) made order e = refl
end_whole pools (number n) made order e = cc
end_whole pools (string s) made order e = refl
end_whole pools (array items) made order e = cc
end_whole pools (object _) made order e = cc

type_whole : (route : Data) (unit : Unit {0}) → ◌≡◌ {A = Result (Unit {0}) PlanError} (only_if (is_migration route) BadRoute) (Ok unit) → IsWholeAt (codes "type") route
type_whole route unit e found at = by_kind found (subst (λ o. is_kind o ≡ true) at (kind_held (is_migration route) e))
  where
    is_kind : Option Data → Bool
    is_kind o = unwrap_or (option_map (λ kind. bytes_eq kind (codes "MigrateRoute")) (option_and_then as_str o)) false

    kind_held : (b : Bool) → ◌≡◌ {A = Result (Unit {0}) PlanError} (only_if b BadRoute) (Ok unit) → b ≡ true
    kind_held true e = refl
    kind_held false e = cc

    by_kind : (d : Data) → is_kind (Some d) ≡ true → has_float d ≡ false
    by_kind null e = refl
    by_kind (boolean b) e = refl
    by_kind (number n) e = cc
    by_kind (string s) e = refl
    by_kind (array items) e = cc
    by_kind (object _) e = cc

before_whole : (pools : Data) (reads : Data → Result Chain PlanError) → ReadsWhole reads → ReadsWhole (λ from. chain_before pools (as_str from) (reads from))
before_whole pools reads whole null made order e = refl
before_whole pools reads whole (boolean b) made order e = refl
before_whole pools reads whole (number n) made order e = whole (number n) made order e
before_whole pools reads whole (string s) made order e = refl
before_whole pools reads whole (array items) made order e = whole (array items) made order e
before_whole pools reads whole (object members) made order e = whole (object members) made order e

chain_whole : (routes : ℕ) (pools : Data) → ReadsWhole (chain_of routes pools)
unfolding chain_of
chain_whole zero pools route made order e = cc
chain_whole (suc fewer) pools route made order e =
    let kind = taken (only_if (is_migration route) BadRoute) _ made e in
    let keys = taken (object_check route_keys route) _ made kind.went in
    let from = taken (field (codes "from") route) _ made keys.went in
    let to = taken (field (codes "to") route) _ made from.went in
    let start_time = taken (field (codes "start_time") route) _ made to.went in
    let before = taken (chain_before pools (as_str from.value) (chain_of fewer pools from.value)) _ made start_time.went in
    let new = taken (pool_behind pools to.value) _ made before.went in
    let start = taken (whole_number start_time.value) _ made new.went in
    let interval = taken (interval_of (get (codes "interval") route)) _ made start.went in
    object_whole route_keys route keys.value keys.gave order (
    type_whole route kind.value kind.gave
    also key_taken (codes "from") route from.value (λ d. chain_before pools (as_str d) (chain_of fewer pools d)) before.value (before_whole pools (chain_of fewer pools) (chain_whole fewer pools)) order from.gave before.gave
    also key_taken (codes "to") route to.value (pool_behind pools) new.value (end_whole pools) order to.gave new.gave
    also key_taken (codes "start_time") route start_time.value whole_number start.value number_whole order start_time.gave start.gave
    also key_maybe (codes "interval") route interval_of interval.value number_whole order interval.gave
    also tt
    )

config_whole : ReadsWhole config_of
config_whole value made order e =
    let keys = taken (object_check config_keys value) _ made e in
    let pools = taken (field (codes "pools") value) _ made keys.went in
    let route = taken (field (codes "route") value) _ made pools.went in
    let checked = taken (pools_check pools.value) _ made route.went in
    let chain = taken (chain_of most_hops pools.value route.value) _ made checked.went in
    let schedule = taken (schedule_of chain.value.migrations) _ made chain.went in
    let hash = taken (hash_of (get (codes "hash") value)) _ made schedule.went in
    object_whole config_keys value keys.value keys.gave order (
    key_maybe (codes "hash") value hash_of hash.value hash_whole order hash.gave
    also key_taken (codes "pools") value pools.value pools_check checked.value pools_whole order pools.gave checked.gave
    also key_taken (codes "route") value route.value (chain_of most_hops pools.value) chain.value (chain_whole most_hops pools.value) order route.gave chain.gave
    also tt
    )

-- setups

held_whole : (format : Format) → ReadsWhole (held_of format)
held_whole format value made order e =
    let keys = taken (object_check held_keys value) _ made e in
    let data_at = taken (field (codes "data") value) _ made keys.went in
    let flags_at = taken (field (codes "flags") value) _ made data_at.went in
    let key_at = taken (field (codes "key") value) _ made flags_at.went in
    let node_at = taken (field (codes "node") value) _ made key_at.went in
    let block = taken (block_of format data_at.value) _ made node_at.went in
    let flags = taken (small_number flags_at.value) _ made block.went in
    let key = taken (key_of key_at.value) _ made flags.went in
    let node = taken (node_name_of node_at.value) _ made key.went in
    object_whole held_keys value keys.value keys.gave order (
    key_taken (codes "data") value data_at.value (block_of format) block.value (block_whole format) order data_at.gave block.gave
    also key_taken (codes "flags") value flags_at.value small_number flags.value small_whole order flags_at.gave flags.gave
    also key_taken (codes "key") value key_at.value key_of key.value key_whole order key_at.gave key.gave
    also key_taken (codes "node") value node_at.value node_name_of node.value name_whole order node_at.gave node.gave
    also tt
    )

proxy_whole : (common : ConfigView) → ReadsWhole (proxy_of common)
proxy_whole common value made order e =
    let keys = taken (object_check proxy_keys value) _ made e in
    let reading_at = taken (field (codes "reading") value) _ made keys.went in
    let room_at = taken (field (codes "room") value) _ made reading_at.went in
    let config = taken (config_or common (get (codes "config") value)) _ made room_at.went in
    let reading = taken (whole_number reading_at.value) _ made config.went in
    let room = taken (whole_number room_at.value) _ made reading.went in
    object_whole proxy_keys value keys.value keys.gave order (
    key_maybe (codes "config") value (config_or common) config.value config_whole order config.gave
    also key_taken (codes "reading") value reading_at.value whole_number reading.value number_whole order reading_at.gave reading.gave
    also key_taken (codes "room") value room_at.value whole_number room.value number_whole order room_at.gave room.gave
    also tt
    )

setup_whole : (format : Format) → ReadsWhole (setup_of format)
setup_whole format value made order e =
    let keys = taken (object_check setup_keys value) _ made e in
    let capacity_at = taken (field (codes "capacity") value) _ made keys.went in
    let config_at = taken (field (codes "config") value) _ made capacity_at.went in
    let held_at = taken (field (codes "held") value) _ made config_at.went in
    let proxies_at = taken (field (codes "proxies") value) _ made held_at.went in
    let capacity = taken (whole_number capacity_at.value) _ made proxies_at.went in
    let common = taken (config_of config_at.value) _ made capacity.went in
    let held = taken (list_of held_at.value >>= all_of (held_of format)) _ made common.went in
    let proxies = taken (list_of proxies_at.value >>= all_of (proxy_of common.value)) _ made held.went in
    object_whole setup_keys value keys.value keys.gave order (
    key_taken (codes "capacity") value capacity_at.value whole_number capacity.value number_whole order capacity_at.gave capacity.gave
    also key_taken (codes "config") value config_at.value config_of common.value config_whole order config_at.gave common.gave
    also key_taken (codes "held") value held_at.value (λ d. list_of d >>= all_of (held_of format)) held.value (list_whole (held_of format) (held_whole format)) order held_at.gave held.gave
    also key_taken (codes "proxies") value proxies_at.value (λ d. list_of d >>= all_of (proxy_of common.value)) proxies.value (list_whole (proxy_of common.value) (proxy_whole common.value)) order proxies_at.gave proxies.gave
    also tt
    )

-- requests

keys_tested : (values : List Data) (made : List (List ℕ)) → keys_of values ≡ Ok made → are_keys values ≡ true
keys_tested values made e = left_true (are_keys values) _ (kept _ _ made e)

get_whole : (value : Data) (made : Request) → IsInOrder value → IsWholeAt (codes "kind") value → get_of value ≡ Ok made → has_float value ≡ false
get_whole value made order kind e =
    let checked = taken (object_check get_keys value) _ made e in
    let keys = taken (field (codes "keys") value >>= list_of >>= keys_of) _ made checked.went in
    let values = taken (field (codes "keys") value >>= list_of) keys_of keys.value keys.gave in
    let held = taken (field (codes "keys") value) list_of values.value values.gave in
    let all : (items : Items) → are_keys (values_in items) ≡ true → items_have_float items ≡ false = λ items. tested_whole (λ d. is_ok (key_of d)) are_keys items is_key (λ d ds. refl) in
    let listed = listed_whole are_keys held.value values.value all held.went (keys_tested values.value keys.value values.went) in
    object_whole get_keys value checked.value checked.gave order (key_stands (codes "keys") value held.value held.gave listed also kind also tt)

set_whole : (format : Format) (value : Data) (made : Request) → IsInOrder value → IsWholeAt (codes "kind") value → set_of format value ≡ Ok made → has_float value ≡ false
set_whole format value made order kind e =
    let keys = taken (object_check set_keys value) _ made e in
    let block = taken (field (codes "data") value >>= block_of format) _ made keys.went in
    let exptime = taken (field (codes "exptime") value >>= signed_whole_number) _ made block.went in
    let flags = taken (field (codes "flags") value >>= small_number) _ made exptime.went in
    let key = taken (field (codes "key") value >>= key_of) _ made flags.went in
    let noreply = taken (flag_of (get (codes "noreply") value)) _ made key.went in
    object_whole set_keys value keys.value keys.gave order (
    key_read (codes "data") value (block_of format) block.value (block_whole format) order block.gave
    also key_read (codes "exptime") value signed_whole_number exptime.value signed_whole order exptime.gave
    also key_read (codes "flags") value small_number flags.value small_whole order flags.gave
    also key_read (codes "key") value key_of key.value key_whole order key.gave
    also kind
    also key_maybe (codes "noreply") value flag_of noreply.value flag_whole order noreply.gave
    also tt
    )

delete_whole : (value : Data) (made : Request) → IsInOrder value → IsWholeAt (codes "kind") value → delete_of value ≡ Ok made → has_float value ≡ false
delete_whole value made order kind e =
    let keys = taken (object_check delete_keys value) _ made e in
    let key = taken (field (codes "key") value >>= key_of) _ made keys.went in
    let noreply = taken (flag_of (get (codes "noreply") value)) _ made key.went in
    object_whole delete_keys value keys.value keys.gave order (
    key_read (codes "key") value key_of key.value key_whole order key.gave
    also kind
    also key_maybe (codes "noreply") value flag_of noreply.value flag_whole order noreply.gave
    also tt
    )

request_whole : (format : Format) → ReadsWhole (request_of format)
request_whole format value made order e =
    let kind = taken (field (codes "kind") value >>= text_of) _ made e in
    let named = key_read (codes "kind") value text_of kind.value text_whole order kind.gave in
    by_kind (bytes_eq kind.value (codes "get")) (bytes_eq kind.value (codes "set")) (bytes_eq kind.value (codes "delete")) named kind.went
  where
    by_kind : (a b c : Bool) → IsWholeAt (codes "kind") value
        → (if a then get_of value else if b then set_of format value else if c then delete_of value else Err WrongKind) ≡ Ok made → has_float value ≡ false
    by_kind true b c named e = get_whole value made order named e
    by_kind false true c named e = set_whole format value made order named e
    by_kind false false true named e = delete_whole value made order named e
    by_kind false false false named e = cc

-- events

op_whole : ReadsWhole op_of
op_whole null made order e = refl
op_whole (boolean b) made order e = refl
op_whole (number n) made order e = cc
op_whole (string s) made order e = refl
op_whole (array no_items) made order e = refl
op_whole (array (item a no_items)) made order e = cc
op_whole (array (item a (item b no_items))) made order e = cc
op_whole (array (item a (item b (item c no_items)))) made order e =
    let proxy = taken (small_number a) _ made e in
    let incarnation = taken (whole_number b) _ made proxy.went in
    let count = taken (whole_number c) _ made incarnation.went in
    let first = small_whole a proxy.value order.0 proxy.gave in
    let second = number_whole b incarnation.value order.1.0 incarnation.gave in
    let third = number_whole c count.value order.1.1.0 count.gave in
    rw (first, second, third) refl
op_whole (array (item a (item b (item c (item d items))))) made order e = cc
op_whole (object _) made order e = cc

-- events of each kind, whose kind is a text
abbrev EventWhole : (Data → Result Event PlanError) → Type 0
EventWhole reads = (value : Data) (made : Event) → IsInOrder value → IsWholeAt (codes "do") value → reads value ≡ Ok made → has_float value ≡ false

clock_whole : EventWhole clock_of
clock_whole value made order kind e =
    let keys = taken (object_check clock_keys value) _ made e in
    let proxy = taken (field (codes "proxy") value >>= small_number) _ made keys.went in
    let reading = taken (field (codes "reading") value >>= whole_number) _ made proxy.went in
    object_whole clock_keys value keys.value keys.gave order (
    kind
    also key_read (codes "proxy") value small_number proxy.value small_whole order proxy.gave
    also key_read (codes "reading") value whole_number reading.value number_whole order reading.gave
    also tt
    )

client_whole : (format : Format) → EventWhole (client_of format)
client_whole format value made order kind e =
    let keys = taken (object_check client_keys value) _ made e in
    let proxy = taken (field (codes "proxy") value >>= small_number) _ made keys.went in
    let request = taken (field (codes "request") value >>= request_of format) _ made proxy.went in
    object_whole client_keys value keys.value keys.gave order (
    kind
    also key_read (codes "proxy") value small_number proxy.value small_whole order proxy.gave
    also key_read (codes "request") value (request_of format) request.value (request_whole format) order request.gave
    also tt
    )

deliver_whole : EventWhole deliver_of
deliver_whole value made order kind e =
    let keys = taken (object_check deliver_keys value) _ made e in
    let message = taken (field (codes "message") value >>= whole_number) _ made keys.went in
    let now = taken (field (codes "now") value >>= whole_number) _ made message.went in
    object_whole deliver_keys value keys.value keys.gave order (
    kind
    also key_read (codes "message") value whole_number message.value number_whole order message.gave
    also key_read (codes "now") value whole_number now.value number_whole order now.gave
    also tt
    )

-- an event with one key beside its kind
single_whole : {X : Type 0} (key : Text) (reads : Data → Result X PlanError) (made : X → Event) → ReadsWhole reads
    → EventWhole (λ value. object_check (codes "do" ∷ key ∷ []) value >>= λ _. field key value >>= reads >>= λ x. Ok (made x))
single_whole key reads made whole value event order kind e =
    let keys = taken (object_check (codes "do" ∷ key ∷ []) value) _ event e in
    let held = taken (field key value >>= reads) _ event keys.went in
    object_whole (codes "do" ∷ key ∷ []) value keys.value keys.gave order (kind also key_read key value reads held.value whole order held.gave also tt)

event_whole : (format : Format) → ReadsWhole (event_of format)
event_whole format value made order e =
    let kind = taken (field (codes "do") value >>= text_of) _ made e in
    let named = key_read (codes "do") value text_of kind.value text_whole order kind.gave in
    by_kind (bytes_eq kind.value (codes "clock")) (bytes_eq kind.value (codes "client")) (bytes_eq kind.value (codes "deliver")) (bytes_eq kind.value (codes "return"))
    (bytes_eq kind.value (codes "give_up")) (bytes_eq kind.value (codes "node_restart")) (bytes_eq kind.value (codes "proxy_restart")) named kind.went
  where
    by_kind : (a b c d f g h : Bool) → IsWholeAt (codes "do") value
        → (if a then clock_of value else if b then client_of format value else if c then deliver_of value else if d then return_of value
        else if f then give_up_of value else if g then node_restart_of value else if h then proxy_restart_of value else Err WrongKind) ≡ Ok made
        → has_float value ≡ false
    by_kind true b c d f g h named e = clock_whole value made order named e
    by_kind false true c d f g h named e = client_whole format value made order named e
    by_kind false false true d f g h named e = deliver_whole value made order named e
    by_kind false false false true f g h named e = single_whole (codes "reply") whole_number Return number_whole value made order named e
    by_kind false false false false true g h named e = single_whole (codes "op") op_of GiveUp op_whole value made order named e
    by_kind false false false false false true h named e = single_whole (codes "node") node_name_of NodeRestart name_whole value made order named e
    by_kind false false false false false false true named e = single_whole (codes "proxy") small_number ProxyRestart small_whole value made order named e
    by_kind false false false false false false false named e = cc

at_index : (index : ℕ) (read : Result Event PlanError) (event : Event) → event_at index read ≡ Ok event → read ≡ Ok event
at_index index (Ok made) event e = e
at_index index (Err refusal) event e = cc

each_whole : (format : Format) (index : ℕ) (items : Items) (made : List Event) → ItemsAreInOrder items → events_of format index (values_in items) ≡ Ok made
    → items_have_float items ≡ false
each_whole format index no_items made order e = refl
each_whole format index (item value items) made order e =
    let first = taken (event_at index (event_of format value)) _ made e in
    let rest = taken (events_of format (index + 1) (values_in items)) _ made first.went in
    let here = event_whole format value first.value order.0 (at_index index (event_of format value) first.value first.gave) in
    let later = each_whole format (index + 1) items rest.value order.1 rest.gave in
    rw (here, later) refl

events_whole : (format : Format) → ReadsWhole (λ value. list_of value >>= events_of format 0)
events_whole format null made order e = refl
events_whole format (boolean b) made order e = refl
events_whole format (number n) made order e = cc
events_whole format (string s) made order e = refl
events_whole format (array items) made order e = each_whole format 0 items made order e
events_whole format (object _) made order e = cc

-- scripts

format_whole : ReadsWhole format_in
format_whole value made order e = let format = taken (whole_number value) _ made e in number_whole value format.value order format.gave

script_whole : ReadsWhole script_of
script_whole value made order e =
    let keys = taken (object_check script_keys value) _ made e in
    let events_at = taken (field (codes "events") value) _ made keys.went in
    let format_at = taken (field (codes "format") value) _ made events_at.went in
    let setup_at = taken (field (codes "setup") value) _ made format_at.went in
    let format = taken (format_in format_at.value) _ made setup_at.went in
    let setup = taken (setup_of format.value setup_at.value) _ made format.went in
    let counts = taken (counts_check (length setup.value.held) (length setup.value.proxies) (count_in events_at.value)) _ made setup.went in
    let events = taken (list_of events_at.value >>= events_of format.value 0) _ made counts.went in
    object_whole script_keys value keys.value keys.gave order (
    key_taken (codes "events") value events_at.value (λ d. list_of d >>= events_of format.value 0) events.value (events_whole format.value) order events_at.gave events.gave
    also key_taken (codes "format") value format_at.value format_in format.value format_whole order format_at.gave format.gave
    also key_taken (codes "setup") value setup_at.value (setup_of format.value) setup.value (setup_whole format.value) order setup_at.gave setup.gave
    also tt
    )

-- a script that was read
pub read_whole : (bytes : List ℕ) (value : Data) (parts : ScriptParts) → IsJson bytes value → script_of value ≡ Ok parts → has_float value ≡ false
read_whole bytes value parts is e = script_whole value parts (read_in_order bytes value is.1) e
