-- The nodes of a setup's proxies, looked up in its JSON values without making them.
use Rattle.std.specs.Prelude.{ℕ, zero, suc, ◌&&◌, ◌||◌, List, [], ◌∷◌, ◌++◌, Bool, true, false, nat_le, if◌then◌else◌, Option, Some, None, is_some, option_and_then, option_map, unwrap_or, codes}
use Rattle.serde_json.specs.Data.{Data, Items}
use Rattle.serde_json.specs.Find.{get, as_str, as_array}
use Rattle.mr_phases.specs.Schedule.{most_hops}
use Rattle.mr_configs.specs.Fields.{Text, values_in}
use Rattle.mr_configs.specs.Pools.{names_in}
use Rattle.mr_configs.specs.Route.{name_pointed_to}
use Rattle.mr_scripts.specs.Setups.{pools_name}

-- the nodes of a configuration's pool of this name
abbrev pub servers_at : Data → Text → Option Items
servers_at config name = option_and_then as_array (option_and_then (get (codes "servers")) (option_and_then (get name) (get (codes "pools") config)))

-- the names of the pool that a value points to; none where there is no such pool
abbrev pub names_behind : Data → Data → List Text
names_behind config value =
    unwrap_or (option_map (λ items. names_in (values_in items)) (option_and_then (servers_at config) (option_and_then name_pointed_to (as_str value)))) []

-- the names of the pool that a route moves to
abbrev pub names_after : Data → Data → List Text
names_after config route = unwrap_or (option_map (names_behind config) (get (codes "to") route)) []

-- the pools before that one: the pool that a text points to, or those of the route in its place, which `inner` says
abbrev pub pools_by : (Data → List (List Text)) → Data → Option Data → List (List Text)
pools_by inner config None = []
pools_by inner config (Some from) = if is_some (as_str from) then names_behind config from ∷ [] else inner from

-- the pools of a route, in order: no more routes than this are looked at, of which each stands inside the one before
unfoldable pub pools_along : ℕ → Data → Data → List (List Text)
pools_along zero config route = []
pools_along (suc fewer) config route = pools_by (pools_along fewer config) config (get (codes "from") route) ++ names_after config route ∷ []

-- the pools before the one that a route moves to
abbrev pub pools_before : ℕ → Data → Data → List (List Text)
pools_before routes config route = pools_by (pools_along routes config) config (get (codes "from") route)

-- the pools of a configuration, in order
abbrev pub pools_at : Data → List (List Text)
pools_at config = unwrap_or (option_map (pools_along most_hops config) (get (codes "route") config)) []

-- the configuration of a proxy: its own, or else the common one
abbrev pub config_at : Data → Data → Data
config_at common proxy = unwrap_or (get (codes "config") proxy) common

-- some proxy has a node of this name
abbrev pub values_name : Data → List Data → Text → Bool
values_name common [] name = false
values_name common (proxy ∷ proxies) name = pools_name (pools_at (config_at common proxy)) name || values_name common proxies name

-- the name of the node that holds an item
abbrev pub node_at : Data → Text
node_at item = unwrap_or (option_and_then as_str (get (codes "node") item)) []

-- each item is held by a node of some proxy
abbrev pub are_housed : Data → List Data → List Data → Bool
are_housed common proxies [] = true
are_housed common proxies (item ∷ items) = values_name common proxies (node_at item) && are_housed common proxies items

-- the nodes can hold something, or there is none
abbrev pub values_have_room : ℕ → List Data → Bool
values_have_room capacity [] = true
values_have_room capacity (proxy ∷ proxies) = nat_le 1 capacity
