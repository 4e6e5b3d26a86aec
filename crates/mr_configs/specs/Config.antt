-- The configuration that a JSON value is.
use Rattle.std.specs.Prelude.{◌≡◌, ℕ, ◌<◌, ◌⊎◌, List, [], ◌∷◌, length, if◌then◌else◌, Option, Some, None, Result, Ok, Err, ok_or, codes}
use Rattle.std.specs.Str.{bytes_eq, IsUtf8}
use Rattle.serde_json.specs.Data.{Data}
use Rattle.serde_json.specs.Find.{get, as_str}
use Rattle.serde_json.specs.Read.{read}
use Rattle.mr_pools.specs.Routing.{RoutingView}
use Rattle.mr_pools.specs.declared.error.PoolError.TheVariants.{SharedName}
use Rattle.mr_pools.specs.declared.hash.NamedHash.{NamedHash}
use Rattle.mr_pools.specs.declared.hash.NamedHash.TheVariants.{Sum, Fnv}
use Rattle.mr_phases.specs.Schedule.{Hop, IsSchedule, most_hops}
use Rattle.mr_proxy.specs.Sheets.{HaveAsManyHops}
use Rattle.mr_configs.specs.Chain.{pools_of, are_all_apart, schedule_of}
use Rattle.mr_configs.specs.Checking.{◌>>=◌, only_if}
use Rattle.mr_configs.specs.Fields.{Text, object_check, field}
use Rattle.mr_configs.specs.Pools.{pools_check}
use Rattle.mr_configs.specs.Route.{chain_of}
use Rattle.mr_configs.specs.declared.error.PlanError.{PlanError}
use Rattle.mr_configs.specs.declared.error.PlanError.TheVariants.{NotJson, BadPool, BadHash, OutOfMemory}

-- a configuration: where keys are kept, and when each migration is
pub record ConfigView : Type 0 where
  pub routing : RoutingView
  pub schedule : List Hop

-- what holds of each configuration: hop j of its schedule moves from pool j of its routing to pool j + 1
pub record IsConfig (config : ConfigView) : Type 0 where
  pub matched : HaveAsManyHops config.routing config.schedule
  pub schedule : IsSchedule config.schedule

-- the keys that a configuration may have
abbrev pub config_keys : List Text
config_keys = codes "hash" ∷ codes "pools" ∷ codes "route" ∷ []

-- the hash of this name
abbrev pub hash_named : Text → Result NamedHash PlanError
hash_named text =
    if bytes_eq text (codes "sum") then Ok Sum
    else if bytes_eq text (codes "fnv1a32") then Ok Fnv
    else Err BadHash

-- the hash that a configuration names: FNV-1a where it names none
abbrev pub hash_of : Option Data → Result NamedHash PlanError
hash_of None = Ok Fnv
hash_of (Some value) = ok_or (as_str value) BadHash >>= hash_named

-- the routing through the pools of a chain, of which no two may share a name
abbrev pub routing_of : List (List Text) → NamedHash → Result RoutingView PlanError
routing_of pools hash = only_if (are_all_apart pools) (BadPool SharedName) >>= λ _. Ok (record { pools = pools; hash = hash })

-- the configuration that a value is, or the first of the refusals, in this order
abbrev pub config_of : Data → Result ConfigView PlanError
config_of value =
    object_check config_keys value >>= λ _.
    field (codes "pools") value >>= λ pools.
    field (codes "route") value >>= λ route.
    pools_check pools >>= λ _.
    chain_of most_hops pools route >>= λ chain.
    schedule_of chain.migrations >>= λ schedule.
    hash_of (get (codes "hash") value) >>= λ hash.
    routing_of (pools_of chain) hash >>= λ routing.
    Ok (record { routing = routing; schedule = schedule })

-- the bytes are a JSON text in UTF-8, of this value
abbrev pub IsJson : List ℕ → Data → Type 0
IsJson bytes value = IsUtf8 bytes × (read bytes ≡ Some value)

-- Why the bytes have no value: they are no JSON text, or memory was refused. Whether a text is JSON is known only once it was
-- read, which takes memory; before that it is known whether the bytes are UTF-8, and whether there are any.
abbrev pub IsNoJson : List ℕ → PlanError → Type 0
IsNoJson bytes NotJson = (value : Data) → ¬ IsJson bytes value
IsNoJson bytes refusal = (refusal ≡ OutOfMemory) × IsUtf8 bytes × (0 < length bytes)

-- why the value is no configuration: its first refusal, or want of memory where it has none
abbrev pub RefusesConfig : Data → PlanError → Type 0
RefusesConfig value refusal =
    (config_of value ≡ Err refusal) ⊎ ((refusal ≡ OutOfMemory) × ((config : ConfigView) × (config_of value ≡ Ok config)))

-- What comes of reading bytes as a configuration: the one that their value is, or why it is none, or why the bytes have
-- no value.
abbrev pub ReadsConfig : List ℕ → Result ConfigView PlanError → Type 0
ReadsConfig bytes (Ok config) = (value : Data) × IsJson bytes value × (config_of value ≡ Ok config)
ReadsConfig bytes (Err refusal) = IsNoJson bytes refusal ⊎ ((value : Data) × IsJson bytes value × RefusesConfig value refusal)
