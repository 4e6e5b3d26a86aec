-- The fleet that a JSON value sets up.
use Rattle.std.specs.Prelude.{ℕ, ◌&&◌, ◌||◌, List, [], ◌∷◌, Bool, true, false, nat_le, if◌then◌else◌, Option, Some, None, Result, Ok, Err, codes}
use Rattle.serde_json.specs.Data.{Data}
use Rattle.serde_json.specs.Find.{get}
use Rattle.mr_world.specs.Setup.{SetupView}
use Rattle.mr_proxy.specs.declared.world_error.WorldError.TheVariants.{NoSuchNode}
use Rattle.mr_world.specs.declared.setup.HeldItem.{HeldItem}
use Rattle.mr_world.specs.declared.setup.ProxySetup.{ProxySetup}
use Rattle.mr_shown.specs.declared.format.Format.{Format}
use Rattle.mr_configs.specs.Checking.{◌>>=◌}
use Rattle.mr_configs.specs.Config.{ConfigView, config_of}
use Rattle.mr_configs.specs.Fields.{Text, is_one_of, object_check, field, whole_number, list_of}
use Rattle.mr_scripts.specs.Lists.{all_of}
use Rattle.mr_scripts.specs.Numbers.{small_number}
use Rattle.mr_scripts.specs.Texts.{key_of, block_of, node_name_of}
use Rattle.mr_configs.specs.declared.error.PlanError.{PlanError}
use Rattle.mr_configs.specs.declared.error.PlanError.TheVariants.{BadSetup}

-- the keys of an item that is held
abbrev pub held_keys : List Text
held_keys = codes "data" ∷ codes "flags" ∷ codes "key" ∷ codes "node" ∷ []

-- the item that a node holds at the beginning, its data in a format
abbrev pub held_of : Format → Data → Result HeldItem PlanError
held_of format value =
    object_check held_keys value >>= λ _.
    field (codes "data") value >>= λ block.
    field (codes "flags") value >>= λ flags.
    field (codes "key") value >>= λ key.
    field (codes "node") value >>= λ node.
    block_of format block >>= λ block.
    small_number flags >>= λ flags.
    key_of key >>= λ key.
    node_name_of node >>= λ node.
    Ok (record { node = node; key = key; flags = flags; block = block })

-- a proxy's own configuration, or else the common one
abbrev pub config_or : ConfigView → Option Data → Result ConfigView PlanError
config_or common None = Ok common
config_or common (Some value) = config_of value

-- the keys of a proxy
abbrev pub proxy_keys : List Text
proxy_keys = codes "config" ∷ codes "reading" ∷ codes "room" ∷ []

-- a proxy as it is at the beginning
abbrev pub proxy_of : ConfigView → Data → Result ProxySetup PlanError
proxy_of common value =
    object_check proxy_keys value >>= λ _.
    field (codes "reading") value >>= λ reading.
    field (codes "room") value >>= λ room.
    config_or common (get (codes "config") value) >>= λ config.
    whole_number reading >>= λ reading.
    whole_number room >>= λ room.
    Ok (record { routing = config.routing; schedule = config.schedule; room = room; reading = reading })

-- one of the pools has a node of this name
abbrev pub pools_name : List (List Text) → Text → Bool
pools_name [] name = false
pools_name (pool ∷ pools) name = is_one_of pool name || pools_name pools name

-- some proxy's routing has a node of this name
abbrev pub proxies_name : List ProxySetup → Text → Bool
proxies_name [] name = false
proxies_name (proxy ∷ proxies) name = pools_name proxy.routing.pools name || proxies_name proxies name

-- each item is held by a node that there is
abbrev pub have_homes : List ProxySetup → List HeldItem → Bool
have_homes proxies [] = true
have_homes proxies (item ∷ items) = proxies_name proxies item.node && have_homes proxies items

-- the nodes can hold something, or there is none
abbrev pub have_room : ℕ → List ProxySetup → Bool
have_room capacity [] = true
have_room capacity (proxy ∷ proxies) = nat_le 1 capacity

-- the fleet, unless its nodes could hold nothing or an item's node isn't there
abbrev pub checked_setup : SetupView → Result SetupView PlanError
checked_setup setup =
    if have_room setup.capacity setup.proxies && have_homes setup.proxies setup.held then Ok setup else Err (BadSetup NoSuchNode)

-- the keys of a setup
abbrev pub setup_keys : List Text
setup_keys = codes "capacity" ∷ codes "config" ∷ codes "held" ∷ codes "proxies" ∷ []

-- the fleet that a value sets up in a format, or the first of the refusals, in this order
abbrev pub setup_of : Format → Data → Result SetupView PlanError
setup_of format value =
    object_check setup_keys value >>= λ _.
    field (codes "capacity") value >>= λ capacity.
    field (codes "config") value >>= λ config.
    field (codes "held") value >>= λ held.
    field (codes "proxies") value >>= λ proxies.
    whole_number capacity >>= λ capacity.
    config_of config >>= λ common.
    list_of held >>= all_of (held_of format) >>= λ held.
    list_of proxies >>= all_of (proxy_of common) >>= λ proxies.
    checked_setup (record { proxies = proxies; capacity = capacity; held = held })
