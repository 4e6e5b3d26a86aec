-- The route of a configuration: a migration between two of its pools, or several in a row, each inside the next.
use Rattle.std.specs.Prelude.{ℕ, zero, suc, List, [], ◌∷◌, length, take, drop, Bool, false, if◌then◌else◌, Option, Some, None, Result, Ok, Err, ok_or, option_and_then, option_map, unwrap_or, codes}
use Rattle.std.specs.Str.{bytes_eq}
use Rattle.serde_json.specs.Data.{Data}
use Rattle.serde_json.specs.Find.{get, as_str}
use Rattle.mr_configs.specs.Chain.{Chain, chain_at, chain_with}
use Rattle.mr_configs.specs.Checking.{◌>>=◌, only_if}
use Rattle.mr_configs.specs.Fields.{Text, object_check, field, whole_number}
use Rattle.mr_configs.specs.Defaults.{default_interval}
use Rattle.mr_configs.specs.Pools.{pool_in}
use Rattle.mr_configs.specs.declared.error.PlanError.{PlanError}
use Rattle.mr_configs.specs.declared.error.PlanError.TheVariants.{BadRoute}

-- the keys that a migration may have
abbrev pub route_keys : List Text
route_keys = codes "type" ∷ codes "from" ∷ codes "to" ∷ codes "start_time" ∷ codes "interval" ∷ []

-- it is an object of the only type of route that there is
abbrev pub is_migration : Data → Bool
is_migration route =
    unwrap_or (option_map (λ kind. bytes_eq kind (codes "MigrateRoute")) (option_and_then as_str (get (codes "type") route))) false

-- what comes before the name of a pool
abbrev pub pool_prefix : Text
pool_prefix = codes "PoolRoute|"

-- the name of the pool that a text points to
abbrev pub name_pointed_to : Text → Option Text
name_pointed_to text = if bytes_eq (take (length pool_prefix) text) pool_prefix then Some (drop (length pool_prefix) text) else None

-- the names of the pool that a text points to, which has to be one of the pools
abbrev pub pool_named : Data → Text → Result (List Text) PlanError
pool_named pools text = ok_or (option_and_then (λ name. get name pools) (name_pointed_to text)) BadRoute >>= pool_in

-- the names of the pool that a value points to, which has to be a text
abbrev pub pool_behind : Data → Data → Result (List Text) PlanError
pool_behind pools value = ok_or (as_str value) BadRoute >>= pool_named pools

-- how long each middle phase lasts: the default where it isn't said
abbrev pub interval_of : Option Data → Result ℕ PlanError
interval_of None = Ok default_interval
interval_of (Some value) = whole_number value

-- What leads to the pool that a migration leaves: nothing where a text points to it, or else the chain that stands in its
-- place.
abbrev pub chain_before : Data → Option Text → Result Chain PlanError → Result Chain PlanError
chain_before pools (Some text) chain = pool_named pools text >>= λ first. Ok (chain_at first)
chain_before pools None chain = chain

-- the chain that ends with the migration that a route is, where `inner` says which chain stands in the place of a pool
abbrev pub chain_by : (Data → Result Chain PlanError) → Data → Data → Result Chain PlanError
chain_by inner pools route =
    only_if (is_migration route) BadRoute >>= λ _.
    object_check route_keys route >>= λ _.
    field (codes "from") route >>= λ from.
    field (codes "to") route >>= λ to.
    field (codes "start_time") route >>= λ start_time.
    chain_before pools (as_str from) (inner from) >>= λ before.
    pool_behind pools to >>= λ new.
    whole_number start_time >>= λ start.
    interval_of (get (codes "interval") route) >>= λ interval.
    Ok (chain_with before (record { new = new; start = start; interval = interval }))

-- the chain of migrations that a route is, over these pools: no more objects than this stand inside one another
-- (from: MigrateRoute; refusals and several in a row own)
unfoldable pub chain_of : ℕ → Data → Data → Result Chain PlanError
chain_of zero pools route = Err BadRoute
chain_of (suc fewer) pools route = chain_by (chain_of fewer pools) pools route
