-- The nodes that are looked up in the JSON values of a setup are those of the proxies that the values are.
use Rattle.std.proofs.Common.{rules, ◌≡◌, ℕ, zero, suc, ◌||◌, ◌&&◌, ◌++◌, List, [], ◌∷◌, Bool, true, false, nat_le, if◌then◌else◌, Option, Some, None, Ok, Err, Result, refl, sym, ap, ◌∙◌}
use Rattle.std.specs.Prelude.{IsOk, is_ok, is_some, ok_or, option_and_then, option_map, unwrap_or, codes}
use Rattle.std.proofs.lemmas.List.{map-append}
use Rattle.serde_json.specs.Data.{Data, Items}
use Rattle.serde_json.specs.Find.{get, as_str, as_array}
use Rattle.mr_phases.specs.Schedule.{most_hops}
use Rattle.mr_pools.specs.Routing.{RoutingView}
use Rattle.mr_pools.specs.declared.hash.NamedHash.{NamedHash}
use Rattle.mr_world.specs.Setup.{SetupView}
use Rattle.mr_proxy.specs.declared.world_error.WorldError.TheVariants.{NoSuchNode}
use Rattle.mr_world.specs.declared.setup.HeldItem.{HeldItem}
use Rattle.mr_world.specs.declared.setup.ProxySetup.{ProxySetup}
use Rattle.mr_shown.specs.declared.format.Format.{Format}
use Rattle.mr_configs.specs.Chain.{Migration, Chain, chain_at, chain_with, pools_of, schedule_of}
use Rattle.mr_configs.specs.Checking.{◌>>=◌, only_if}
use Rattle.mr_configs.specs.Config.{ConfigView, config_of, config_keys, routing_of, hash_of}
use Rattle.mr_configs.specs.Fields.{Text, object_check, field, list_of, values_in, whole_number, text_of}
use Rattle.mr_scripts.specs.Homes.{servers_at, names_behind, names_after, pools_by, pools_along, pools_at, config_at, values_name, node_at, are_housed, values_have_room}
use Rattle.mr_scripts.specs.Lists.{all_of}
use Rattle.mr_configs.specs.Pools.{names_in, texts_of, pool_of_names, pool_in, pools_check}
use Rattle.mr_configs.specs.Route.{name_pointed_to, pool_named, pool_behind, is_migration, route_keys, interval_of, chain_before, chain_of}
use Rattle.mr_scripts.specs.Setups.{held_of, proxy_of, config_or, proxy_keys, held_keys, pools_name, proxies_name, have_homes, have_room}
use Rattle.mr_scripts.specs.Numbers.{small_number}
use Rattle.mr_scripts.specs.SetupDraft.{setup_between}
use Rattle.mr_scripts.specs.Texts.{key_of, block_of, node_name_of, node_name_of_text}
use Rattle.mr_configs.specs.declared.error.PlanError.{PlanError}
use Rattle.mr_configs.specs.declared.error.PlanError.TheVariants.{WrongKind, MissingKey, BadRoute, BadSetup}
use Rattle.mr_configs.proofs.CheckingLemmas.{taken, there}

-- the names of the nodes that a pool lists
abbrev names_listed : Option Data → List Text
names_listed pool = unwrap_or (option_map (λ items. names_in (values_in items)) (option_and_then as_array (option_and_then (get (codes "servers")) pool))) []

texts_same : (values : List Data) (texts : List Text) → texts_of values ≡ Ok texts → texts ≡ names_in values
texts_same values texts e = search (rules, e)

pool_same : (names made : List Text) → pool_of_names names ≡ Ok made → made ≡ names
pool_same names made e = search (rules, e)

list_same : (value : Data) (values : List Data) → list_of value ≡ Ok values → option_map values_in (as_array value) ≡ Some values
list_same value values e = go (as_array value) e
  where
    go : (items : Option Items) → (ok_or items WrongKind >>= λ items. Ok (values_in items)) ≡ Ok values → option_map values_in items ≡ Some values
    go None e = cc
    go (Some items) e = cc

pool_names : (value : Data) (names : List Text) → pool_in value ≡ Ok names → names_listed (Some value) ≡ names
pool_names value names e =
    let keys = taken (object_check (codes "servers" ∷ []) value) (λ _. field (codes "servers") value >>= list_of >>= texts_of >>= pool_of_names) names e in
    let made = taken (field (codes "servers") value >>= list_of >>= texts_of) pool_of_names names keys.went in
    let texts = taken (field (codes "servers") value >>= list_of) texts_of made.value made.gave in
    let listed = taken (field (codes "servers") value) list_of texts.value texts.gave in
    let servers : get (codes "servers") value ≡ Some listed.value = there (get (codes "servers") value) MissingKey listed.value listed.gave in
    rw servers (go (as_array listed.value) (list_same listed.value texts.value listed.went) ∙ sym (texts_same texts.value made.value texts.went)
    ∙ sym (pool_same made.value names made.went))
  where
    go : (items : Option Items) {values : List Data} → option_map values_in items ≡ Some values →
        unwrap_or (option_map (λ items. names_in (values_in items)) items) [] ≡ names_in values
    go None e = cc
    go (Some items) e = ap names_in (cc)

-- the pool that a text points to
named_names : (config pools : Data) (text : Text) (names : List Text) → get (codes "pools") config ≡ Some pools → pool_named pools text ≡ Ok names →
    unwrap_or (option_map (λ items. names_in (values_in items)) (option_and_then (servers_at config) (name_pointed_to text))) [] ≡ names
named_names config pools text names is_pools e =
    let pool = taken (ok_or (option_and_then (λ name. get name pools) (name_pointed_to text)) BadRoute) pool_in names e in
    let found : option_and_then (λ name. get name pools) (name_pointed_to text) ≡ Some pool.value =
    there (option_and_then (λ name. get name pools) (name_pointed_to text)) BadRoute pool.value pool.gave in
    go (name_pointed_to text) found (pool_names pool.value names pool.went)
  where
    go : (name : Option Text) {pool : Data} → option_and_then (λ name. get name pools) name ≡ Some pool → names_listed (Some pool) ≡ names →
        unwrap_or (option_map (λ items. names_in (values_in items)) (option_and_then (servers_at config) name)) [] ≡ names
    go None at listed = cc
    go (Some name) at listed = rw is_pools (rw at listed)

-- the pool that a value points to
behind_names : (config pools value : Data) (names : List Text) → get (codes "pools") config ≡ Some pools → pool_behind pools value ≡ Ok names →
    names_behind config value ≡ names
behind_names config pools value names is_pools e =
    let text = taken (ok_or (as_str value) BadRoute) (pool_named pools) names e in
    rw (there (as_str value) BadRoute text.value text.gave) (named_names config pools text.value names is_pools text.went)

-- what leads to the pool that a migration leaves
before_names : (config pools from : Data) (inner : Data → List (List Text)) (chain : Result Chain PlanError) (before : Chain) →
    get (codes "pools") config ≡ Some pools → ((made : Chain) → chain ≡ Ok made → inner from ≡ pools_of made) →
    chain_before pools (as_str from) chain ≡ Ok before → pools_by inner config (Some from) ≡ pools_of before
before_names config pools from inner chain before is_pools along e = go (as_str from) refl e
  where
    pool_alone : (text : Text) → (pool_named pools text >>= λ first. Ok (chain_at first)) ≡ Ok before →
        unwrap_or (option_map (λ items. names_in (values_in items)) (option_and_then (servers_at config) (name_pointed_to text))) [] ∷ [] ≡ pools_of before
    pool_alone text is =
        let first = taken (pool_named pools text) (λ first. Ok (chain_at first)) before is in
        let same : chain_at first.value ≡ before = cc in
        ap (λ (pool : List Text). pool ∷ []) (named_names config pools text first.value is_pools first.gave) ∙ ap pools_of same

    go : (text : Option Text) → as_str from ≡ text → chain_before pools text chain ≡ Ok before →
        (if is_some (as_str from) then names_behind config from ∷ [] else inner from) ≡ pools_of before
    go None at is = rw at (along before is)
    go (Some text) at is = rw at (pool_alone text is)

-- the pools of a chain with one migration more
one_onto : (chain : Chain) (migration : Migration) → pools_of (chain_with chain migration) ≡ pools_of chain ++ migration.new ∷ []
one_onto chain migration =
    ap (λ (pools : List (List Text)). chain.first ∷ pools) (map-append (λ (m : Migration). m.new) chain.migrations (migration ∷ []))

-- what comes of a route once its pools are there
abbrev with_start : Data → Chain → List Text → ℕ → Result Chain PlanError
with_start route before new start =
    interval_of (get (codes "interval") route) >>= λ interval. Ok (chain_with before (record { new = new; start = start; interval = interval }))

abbrev with_new : Data → Data → Chain → List Text → Result Chain PlanError
with_new route start_time before new = whole_number start_time >>= with_start route before new

-- once what leads to it is there
abbrev with_before : Data → Data → Data → Data → Chain → Result Chain PlanError
with_before pools route to start_time before = pool_behind pools to >>= with_new route start_time before

-- once its keys are there
abbrev with_keys : (Data → Result Chain PlanError) → Data → Data → Data → Data → Data → Result Chain PlanError
with_keys inner pools route from to start_time = chain_before pools (as_str from) (inner from) >>= with_before pools route to start_time

abbrev after_check : (Data → Result Chain PlanError) → Data → Data → Result Chain PlanError
after_check inner pools route =
    field (codes "from") route >>= λ from. field (codes "to") route >>= λ to. field (codes "start_time") route >>= λ start_time.
    with_keys inner pools route from to start_time

-- the pools of a route that leads on from a chain
joined : (config route from to : Data) (inner : Data → List (List Text)) (before chain : Chain) (migration : Migration) →
    get (codes "from") route ≡ Some from → get (codes "to") route ≡ Some to →
    pools_by inner config (Some from) ≡ pools_of before → names_behind config to ≡ migration.new →
    ◌≡◌ {A = Result Chain PlanError} (Ok (chain_with before migration)) (Ok chain) →
    pools_by inner config (get (codes "from") route) ++ names_after config route ∷ [] ≡ pools_of chain
joined config route from to inner before chain migration has_from has_to first last e =
    let same : chain_with before migration ≡ chain = cc in
    let left : pools_by inner config (get (codes "from") route) ≡ pools_of before = ap (pools_by inner config) has_from ∙ first in
    let right : names_after config route ≡ migration.new = ap (λ (o : Option Data). unwrap_or (option_map (names_behind config) o) []) has_to ∙ last in
    ap (λ (pools : List (List Text)). pools ++ names_after config route ∷ []) left
    ∙ ap (λ (pool : List Text). pools_of before ++ pool ∷ []) right
    ∙ sym (one_onto before migration) ∙ ap pools_of same

-- the pools of a chain are those that its route names
along_names : (routes : ℕ) (config pools route : Data) (chain : Chain) → get (codes "pools") config ≡ Some pools → chain_of routes pools route ≡ Ok chain →
    pools_along routes config route ≡ pools_of chain
unfolding chain_of pools_along
along_names zero config pools route chain is_pools e = absurd (cc)
along_names (suc fewer) config pools route chain is_pools e =
    let kind = taken (only_if (is_migration route) BadRoute) (λ _. object_check route_keys route >>= λ _. after_check (chain_of fewer pools) pools route) chain e in
    let keys = taken (object_check route_keys route) (λ _. after_check (chain_of fewer pools) pools route) chain kind.went in
    let from = taken (field (codes "from") route)
    (λ from. field (codes "to") route >>= λ to. field (codes "start_time") route >>= λ start_time. with_keys (chain_of fewer pools) pools route from to start_time) chain keys.went in
    let to = taken (field (codes "to") route)
    (λ to. field (codes "start_time") route >>= λ start_time. with_keys (chain_of fewer pools) pools route from.value to start_time) chain from.went in
    let start_time = taken (field (codes "start_time") route) (λ start_time. with_keys (chain_of fewer pools) pools route from.value to.value start_time) chain to.went in
    let before = taken (chain_before pools (as_str from.value) (chain_of fewer pools from.value)) (with_before pools route to.value start_time.value) chain start_time.went in
    let new = taken (pool_behind pools to.value) (with_new route start_time.value before.value) chain before.went in
    let start = taken (whole_number start_time.value) (with_start route before.value new.value) chain new.went in
    let interval = taken (interval_of (get (codes "interval") route))
    (λ interval. Ok (chain_with before.value (record { new = new.value; start = start.value; interval = interval }))) chain start.went in
    joined config route from.value to.value (pools_along fewer config) before.value chain (record { new = new.value; start = start.value; interval = interval.value })
    (there (get (codes "from") route) MissingKey from.value from.gave) (there (get (codes "to") route) MissingKey to.value to.gave)
    (before_names config pools from.value (pools_along fewer config) (chain_of fewer pools from.value) before.value is_pools
    (λ made is. along_names fewer config pools from.value made is_pools is) before.gave)
    (behind_names config pools to.value new.value is_pools new.gave) interval.went

routed_pools : (pools : List (List Text)) (hash : NamedHash) (routing : RoutingView) → routing_of pools hash ≡ Ok routing → routing.pools ≡ pools
routed_pools pools hash routing e = search (rules, e)

-- what comes of a configuration once its route was looked at
abbrev after_route : Data → Chain → Result ConfigView PlanError
after_route value chain =
    schedule_of chain.migrations >>= λ schedule.
    hash_of (get (codes "hash") value) >>= λ hash.
    routing_of (pools_of chain) hash >>= λ routing.
    Ok (record { routing = routing; schedule = schedule })

routing_kept : (value : Data) (chain : Chain) (config : ConfigView) → after_route value chain ≡ Ok config → config.routing.pools ≡ pools_of chain
routing_kept value chain config e =
    let schedule = taken (schedule_of chain.migrations) _ config e in
    let hash = taken (hash_of (get (codes "hash") value)) _ config schedule.went in
    let routing = taken (routing_of (pools_of chain) hash.value) (λ routing. Ok (record { routing = routing; schedule = schedule.value })) config hash.went in
    let same : record { routing = routing.value; schedule = schedule.value } ≡ config = cc in
    ap (λ (c : ConfigView). c.routing.pools) (sym same) ∙ routed_pools (pools_of chain) hash.value routing.value routing.gave

-- once its keys are there
abbrev after_keys : Data → Data → Data → Result ConfigView PlanError
after_keys value pools route = pools_check pools >>= λ _. chain_of most_hops pools route >>= after_route value

named_at : (value route : Data) (made pools : List (List Text)) → get (codes "route") value ≡ Some route → made ≡ pools →
    pools_along most_hops value route ≡ pools → made ≡ pools_at value
named_at value route made pools is_route same along =
    let named : pools_at value ≡ pools_along most_hops value route = ap (λ (o : Option Data). unwrap_or (option_map (pools_along most_hops value) o) []) is_route in
    cc

-- the pools of a configuration are those that its value names
pub config_pools : (value : Data) (config : ConfigView) → config_of value ≡ Ok config → config.routing.pools ≡ pools_at value
config_pools value config e =
    let keys = taken (object_check config_keys value)
    (λ _. field (codes "pools") value >>= λ pools. field (codes "route") value >>= λ route. after_keys value pools route) config e in
    let pools = taken (field (codes "pools") value) (λ pools. field (codes "route") value >>= λ route. after_keys value pools route) config keys.went in
    let route = taken (field (codes "route") value) (λ route. after_keys value pools.value route) config pools.went in
    let checked = taken (pools_check pools.value) (λ _. chain_of most_hops pools.value route.value >>= after_route value) config route.went in
    let chain = taken (chain_of most_hops pools.value route.value) (after_route value) config checked.went in
    let is_pools = there (get (codes "pools") value) MissingKey pools.value pools.gave in
    let is_route = there (get (codes "route") value) MissingKey route.value route.gave in
    named_at value route.value config.routing.pools (pools_of chain.value) is_route (routing_kept value chain.value config chain.went)
    (along_names most_hops value pools.value route.value chain.value is_pools chain.gave)

-- ---- the proxies and the items

-- the pools of a proxy are those that its configuration names
abbrev with_config : ConfigView → Data → Data → Result ProxySetup PlanError
with_config config reading room =
    whole_number reading >>= λ reading.
    whole_number room >>= λ room.
    Ok (record { routing = config.routing; schedule = config.schedule; room = room; reading = reading })

abbrev after_fields : ConfigView → Data → Data → Data → Result ProxySetup PlanError
after_fields common value reading room = config_or common (get (codes "config") value) >>= λ config. with_config config reading room

proxy_kept : (config : ConfigView) (reading room : Data) (proxy : ProxySetup) → with_config config reading room ≡ Ok proxy → proxy.routing ≡ config.routing
proxy_kept config reading room proxy e = go (whole_number reading) (whole_number room) e
  where
    go : (reading room : Result ℕ PlanError) →
        (reading >>= λ reading. room >>= λ room. Ok (record { routing = config.routing; schedule = config.schedule; room = room; reading = reading })) ≡ Ok proxy →
        proxy.routing ≡ config.routing
    go (Ok reading) (Ok room) is = let same : record { routing = config.routing; schedule = config.schedule; room = room; reading = reading } ≡ proxy = cc in
        sym (ap (λ (p : ProxySetup). p.routing) same)
    go (Ok reading) (Err refusal) is = absurd (cc)
    go (Err refusal) room is = absurd (cc)

proxy_pools : (config : Data) (common : ConfigView) (value : Data) (proxy : ProxySetup) → config_of config ≡ Ok common → proxy_of common value ≡ Ok proxy →
    proxy.routing.pools ≡ pools_at (config_at config value)
proxy_pools config common value proxy is e =
    let keys = taken (object_check proxy_keys value)
    (λ _. field (codes "reading") value >>= λ reading. field (codes "room") value >>= λ room. after_fields common value reading room) proxy e in
    let reading = taken (field (codes "reading") value) (λ reading. field (codes "room") value >>= λ room. after_fields common value reading room) proxy keys.went in
    let room = taken (field (codes "room") value) (λ room. after_fields common value reading.value room) proxy reading.went in
    let own = taken (config_or common (get (codes "config") value)) (λ config. with_config config reading.value room.value) proxy room.went in
    go (get (codes "config") value) own.gave (proxy_kept own.value reading.value room.value proxy own.went)
  where
    go : (own : Option Data) {chosen : ConfigView} → config_or common own ≡ Ok chosen → proxy.routing ≡ chosen.routing → proxy.routing.pools ≡ pools_at (unwrap_or own config)
    go None {chosen} at kept = let same : common ≡ chosen = cc in
        ap (λ (r : RoutingView). r.pools) kept ∙ ap (λ (c : ConfigView). c.routing.pools) (sym same) ∙ config_pools config common is
    go (Some own) {chosen} at kept = ap (λ (r : RoutingView). r.pools) kept ∙ config_pools own chosen at

one_named : (here : List (List Text)) (first : ProxySetup) (rest proxies : List ProxySetup) (name : Text) (found : Bool) → first.routing.pools ≡ here →
    found ≡ proxies_name rest name → ◌≡◌ {A = Result (List ProxySetup) PlanError} (Ok (first ∷ rest)) (Ok proxies) →
    (pools_name here name || found) ≡ proxies_name proxies name
one_named here first rest proxies name found at others is =
    let same : first ∷ rest ≡ proxies = cc in
    rw others (ap (λ pools. pools_name pools name || proxies_name rest name) (sym at)) ∙ ap (λ (fleet : List ProxySetup). proxies_name fleet name) same

one_housed : (fleet : List ProxySetup) (first : HeldItem) (rest items : List HeldItem) (found housed : Bool) → found ≡ proxies_name fleet first.node →
    housed ≡ have_homes fleet rest → ◌≡◌ {A = Result (List HeldItem) PlanError} (Ok (first ∷ rest)) (Ok items) → (found && housed) ≡ have_homes fleet items
one_housed fleet first rest items found housed at others is =
    let same : first ∷ rest ≡ items = cc in
    rw at (rw others (ap (λ (all : List HeldItem). have_homes fleet all) same))

one_there : (capacity : ℕ) (first : ProxySetup) (rest proxies : List ProxySetup) →
    ◌≡◌ {A = Result (List ProxySetup) PlanError} (Ok (first ∷ rest)) (Ok proxies) → nat_le 1 capacity ≡ have_room capacity proxies
one_there capacity first rest proxies is =
    let same : first ∷ rest ≡ proxies = cc in ap (λ (fleet : List ProxySetup). have_room capacity fleet) same

-- a name is found among the values where it is found among the proxies that they are
names_found : (config : Data) (common : ConfigView) (values : List Data) (proxies : List ProxySetup) (name : Text) → config_of config ≡ Ok common →
    all_of (proxy_of common) values ≡ Ok proxies → values_name config values name ≡ proxies_name proxies name
names_found config common [] proxies name is e = let none : [] ≡ proxies = cc in ap (λ (fleet : List ProxySetup). proxies_name fleet name) none
names_found config common (value ∷ values) proxies name is e =
    let first = taken (proxy_of common value) (λ proxy. all_of (proxy_of common) values >>= λ fleet. Ok (proxy ∷ fleet)) proxies e in
    let rest = taken (all_of (proxy_of common) values) (λ fleet. Ok (first.value ∷ fleet)) proxies first.went in
    one_named (pools_at (config_at config value)) first.value rest.value proxies name (values_name config values name)
    (proxy_pools config common value first.value is first.gave) (names_found config common values rest.value name is rest.gave) rest.went

-- the node of an item is the one that its value names
abbrev with_node : List ℕ → ℕ → List ℕ → Data → Result HeldItem PlanError
with_node block flags key node = node_name_of node >>= λ node. Ok (record { node = node; key = key; flags = flags; block = block })

node_kept : (block : List ℕ) (flags : ℕ) (key : List ℕ) (node : Data) (item : HeldItem) → with_node block flags key node ≡ Ok item → as_str node ≡ Some item.node
node_kept block flags key node item e =
    let name = taken (node_name_of node) (λ node. Ok (record { node = node; key = key; flags = flags; block = block })) item e in
    let text = taken (text_of node) node_name_of_text name.value name.gave in
    same_node (there (as_str node) WrongKind text.value text.gave) (name_same text.value name.value text.went) name.went
  where
    name_same : (text name : Text) → node_name_of_text text ≡ Ok name → text ≡ name
    name_same text name is = search (rules, is)

    same_node : {text name : Text} → as_str node ≡ Some text → text ≡ name →
        ◌≡◌ {A = Result HeldItem PlanError} (Ok (record { node = name; key = key; flags = flags; block = block })) (Ok item) → as_str node ≡ Some item.node
    same_node {text} {name} at same is = let made : record { node = name; key = key; flags = flags; block = block } ≡ item = cc in
        at ∙ ap Some same ∙ ap (λ (i : HeldItem). Some i.node) made

abbrev with_values : Format → Data → Data → Data → Data → Result HeldItem PlanError
with_values format block flags key node = block_of format block >>= λ block. small_number flags >>= λ flags. key_of key >>= λ key. with_node block flags key node

item_node : (format : Format) (value : Data) (item : HeldItem) → held_of format value ≡ Ok item → node_at value ≡ item.node
item_node format value item e =
    let keys = taken (object_check held_keys value)
    (λ _. field (codes "data") value >>= λ block. field (codes "flags") value >>= λ flags. field (codes "key") value >>= λ key. field (codes "node") value >>= λ node.
    with_values format block flags key node) item e in
    let block = taken (field (codes "data") value)
    (λ block. field (codes "flags") value >>= λ flags. field (codes "key") value >>= λ key. field (codes "node") value >>= λ node.
    with_values format block flags key node) item keys.went in
    let flags = taken (field (codes "flags") value)
    (λ flags. field (codes "key") value >>= λ key. field (codes "node") value >>= λ node. with_values format block.value flags key node) item block.went in
    let key = taken (field (codes "key") value) (λ key. field (codes "node") value >>= λ node. with_values format block.value flags.value key node) item flags.went in
    let node = taken (field (codes "node") value) (λ node. with_values format block.value flags.value key.value node) item key.went in
    let bytes = taken (block_of format block.value) (λ block. small_number flags.value >>= λ flags. key_of key.value >>= λ key. with_node block flags key node.value) item node.went in
    let number = taken (small_number flags.value) (λ flags. key_of key.value >>= λ key. with_node bytes.value flags key node.value) item bytes.went in
    let named = taken (key_of key.value) (λ key. with_node bytes.value number.value key node.value) item number.went in
    let kept = node_kept bytes.value number.value named.value node.value item named.went in
    let is_node = there (get (codes "node") value) MissingKey node.value node.gave in
    rw is_node (rw kept refl)

-- an item is housed among the values where it is housed among the proxies and items that they are
homes_found : (format : Format) (config : Data) (common : ConfigView) (proxies held : List Data) (fleet : List ProxySetup) (items : List HeldItem) → config_of config ≡ Ok common →
    all_of (proxy_of common) proxies ≡ Ok fleet → all_of (held_of format) held ≡ Ok items → are_housed config proxies held ≡ have_homes fleet items
homes_found format config common proxies [] fleet items is proxies_are e = let none : [] ≡ items = cc in ap (λ (items : List HeldItem). have_homes fleet items) none
homes_found format config common proxies (value ∷ held) fleet items is proxies_are e =
    let first = taken (held_of format value) (λ item. all_of (held_of format) held >>= λ items. Ok (item ∷ items)) items e in
    let rest = taken (all_of (held_of format) held) (λ items. Ok (first.value ∷ items)) items first.went in
    one_housed fleet first.value rest.value items (values_name config proxies (node_at value)) (are_housed config proxies held)
    (ap (values_name config proxies) (item_node format value first.value first.gave) ∙ names_found config common proxies fleet first.value.node is proxies_are)
    (homes_found format config common proxies held fleet rest.value is proxies_are rest.gave) rest.went

-- there is room among the values where there is among the proxies that they are
room_found : (common : ConfigView) (capacity : ℕ) (values : List Data) (proxies : List ProxySetup) → all_of (proxy_of common) values ≡ Ok proxies →
    values_have_room capacity values ≡ have_room capacity proxies
room_found common capacity [] proxies e = let none : [] ≡ proxies = cc in ap (have_room capacity) none
room_found common capacity (value ∷ values) proxies e =
    let first = taken (proxy_of common value) (λ proxy. all_of (proxy_of common) values >>= λ fleet. Ok (proxy ∷ fleet)) proxies e in
    let rest = taken (all_of (proxy_of common) values) (λ fleet. Ok (first.value ∷ fleet)) proxies first.went in
    one_there capacity first.value rest.value proxies rest.went

-- ---- the whole setup

pub read_as : {X E : Type 0} (outcome : Result X E) → IsOk outcome → (value : X) × (outcome ≡ Ok value)
read_as (Ok value) is = (value, refl)
read_as (Err refusal) is = absurd (cc)

-- the tests on the values decide
setup_decided : (format : Format) (config : Data) (common : ConfigView) (capacity : ℕ) (held proxies : List Data) → config_of config ≡ Ok common → IsOk (all_of (held_of format) held) →
    IsOk (all_of (proxy_of common) proxies) → (setup : SetupView) ×
    (setup_between format common capacity held proxies ≡ (if values_have_room capacity proxies && are_housed config proxies held then Ok setup else Err (BadSetup NoSuchNode)))
setup_decided format config common capacity held proxies is held_ok proxies_ok =
    let (items, items_are) = read_as (all_of (held_of format) held) held_ok in
    let (fleet, fleet_is) = read_as (all_of (proxy_of common) proxies) proxies_ok in (
      record { proxies = fleet; capacity = capacity; held = items },
      decided_by (room_found common capacity proxies fleet fleet_is) (homes_found format config common proxies held fleet items is fleet_is items_are) items_are fleet_is,
    )
  where
    decided_by : {fleet : List ProxySetup} {items : List HeldItem} → values_have_room capacity proxies ≡ have_room capacity fleet →
        are_housed config proxies held ≡ have_homes fleet items → all_of (held_of format) held ≡ Ok items → all_of (proxy_of common) proxies ≡ Ok fleet →
        setup_between format common capacity held proxies ≡ (if values_have_room capacity proxies && are_housed config proxies held
        then Ok (record { proxies = fleet; capacity = capacity; held = items }) else Err (BadSetup NoSuchNode))
    decided_by room homes items_are fleet_is = rw room (rw homes (rw items_are (rw fleet_is refl)))

pub setup_refused : (format : Format) (config : Data) (common : ConfigView) (capacity : ℕ) (held proxies : List Data) → config_of config ≡ Ok common → IsOk (all_of (held_of format) held) →
    IsOk (all_of (proxy_of common) proxies) → (values_have_room capacity proxies && are_housed config proxies held) ≡ false →
    setup_between format common capacity held proxies ≡ Err (BadSetup NoSuchNode)
setup_refused format config common capacity held proxies is held_ok proxies_ok bad =
    let decided = setup_decided format config common capacity held proxies is held_ok proxies_ok in
    rw bad at decided.1

pub setup_ready : (format : Format) (config : Data) (common : ConfigView) (capacity : ℕ) (held proxies : List Data) → config_of config ≡ Ok common → IsOk (all_of (held_of format) held) →
    IsOk (all_of (proxy_of common) proxies) → (values_have_room capacity proxies && are_housed config proxies held) ≡ true →
    IsOk (setup_between format common capacity held proxies)
setup_ready format config common capacity held proxies is held_ok proxies_ok good =
    let decided = setup_decided format config common capacity held proxies is held_ok proxies_ok in
    ap is_ok (rw good at decided.1)
