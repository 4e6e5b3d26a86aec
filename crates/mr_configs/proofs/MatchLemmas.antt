-- A configuration has one pool more than hops.
use Rattle.std.proofs.Common.{◌≡◌, ◌+◌, ◌++◌, List, [], ◌∷◌, length, Bool, true, false, if◌then◌else◌, Ok, Err, Result, subst, ap, arith, length-append}
use Rattle.std.specs.Prelude.{◌==◌, ◌*◌, ◌^◌, nat_le, nat_lt, codes}
use Rattle.std.proofs.lemmas.List.{length-map}
use Rattle.serde_json.specs.Data.{Data}
use Rattle.serde_json.specs.Find.{get}
use Rattle.mr_phases.specs.Schedule.{Hop, one_hop, chain_end, most_hops}
use Rattle.mr_phases.specs.declared.error.ScheduleError.TheVariants.{ZeroInterval, TooLate, TooSoon}
use Rattle.mr_pools.specs.Routing.{RoutingView}
use Rattle.mr_pools.specs.declared.hash.NamedHash.{NamedHash}
use Rattle.mr_pools.specs.declared.error.PoolError.TheVariants.{SharedName}
use Rattle.mr_proxy.specs.Sheets.{HaveAsManyHops}
use Rattle.mr_configs.specs.Chain.{Migration, Chain, pools_of, are_all_apart, schedule_with, schedule_from, schedule_of}
use Rattle.mr_configs.specs.Checking.{◌>>=◌, only_if}
use Rattle.mr_configs.specs.Config.{ConfigView, config_keys, hash_of, routing_of, config_of}
use Rattle.mr_configs.specs.Fields.{object_check, field}
use Rattle.mr_configs.specs.Pools.{pools_check}
use Rattle.mr_configs.specs.Route.{chain_of}
use Rattle.mr_configs.specs.declared.error.PlanError.{PlanError}
use Rattle.mr_configs.specs.declared.error.PlanError.TheVariants.{BadSchedule, BadPool}
use Rattle.mr_configs.proofs.CheckingLemmas.{taken}

-- one hop more
one_counted : (hops : List Hop) (migration : Migration) (longer : List Hop) → schedule_with hops migration ≡ Ok longer → length longer ≡ length hops + 1
one_counted hops migration longer e =
    go (migration.interval == 0) (nat_le (2 ^ 64) (migration.start + 2 * migration.interval)) (nat_lt migration.start (chain_end hops)) e
  where
    go : (a b c : Bool) →
        (if a then Err (BadSchedule ZeroInterval) else if b then Err (BadSchedule TooLate) else if c then Err (BadSchedule TooSoon)
        else Ok (hops ++ one_hop migration.start migration.interval)) ≡ Ok longer → length longer ≡ length hops + 1
    go true b c is = absurd (cc)
    go false true c is = absurd (cc)
    go false false true is = absurd (cc)
    go false false false is =
        let same : hops ++ one_hop migration.start migration.interval ≡ longer = cc in
        let sum = length-append hops (one_hop migration.start migration.interval) in
        let counted = ap length same in
        omega arith

-- a hop for each migration
counted : (hops : List Hop) (migrations : List Migration) (schedule : List Hop) → schedule_from hops migrations ≡ Ok schedule →
    length schedule ≡ length hops + length migrations
counted hops [] schedule e = let same : hops ≡ schedule = cc in let sum = ap length same in omega arith
counted hops (migration ∷ migrations) schedule e =
    let first = taken (schedule_with hops migration) (λ longer. schedule_from longer migrations) schedule e in
    let one = one_counted hops migration first.value first.gave in
    let rest = counted first.value migrations schedule first.went in
    omega arith

-- a pool before the first migration, and one behind each
routed : (chain : Chain) (hash : NamedHash) (routing : RoutingView) → routing_of (pools_of chain) hash ≡ Ok routing →
    length routing.pools ≡ length chain.migrations + 1
routed chain hash routing e = go (are_all_apart (pools_of chain)) e
  where
    go : (b : Bool) → (only_if b (BadPool SharedName) >>= λ _. Ok (record { pools = pools_of chain; hash = hash })) ≡ Ok routing →
        length routing.pools ≡ length chain.migrations + 1
    go true is =
        let same : record { pools = pools_of chain; hash = hash } ≡ routing = cc in
        let sum = length-map chain.migrations (λ migration. migration.new) in
        let many = ap (λ (r : RoutingView). length r.pools) same in
        omega arith
    go false is = absurd (cc)

-- what comes of the chain of a route
abbrev with_chain : Data → Chain → Result ConfigView PlanError
with_chain value chain =
    schedule_of chain.migrations >>= λ schedule.
    hash_of (get (codes "hash") value) >>= λ hash.
    routing_of (pools_of chain) hash >>= λ routing.
    Ok (record { routing = routing; schedule = schedule })

chain_matches : (value : Data) (chain : Chain) (config : ConfigView) → with_chain value chain ≡ Ok config → HaveAsManyHops config.routing config.schedule
chain_matches value chain config e =
    let schedule = taken (schedule_of chain.migrations) (λ schedule. hash_of (get (codes "hash") value) >>= λ hash.
    routing_of (pools_of chain) hash >>= λ routing. Ok (record { routing = routing; schedule = schedule })) config e in
    let hash = taken (hash_of (get (codes "hash") value)) (λ hash.
    routing_of (pools_of chain) hash >>= λ routing. Ok (record { routing = routing; schedule = schedule.value })) config schedule.went in
    let routing = taken (routing_of (pools_of chain) hash.value) (λ routing. Ok (record { routing = routing; schedule = schedule.value })) config hash.went in
    let hops = counted [] chain.migrations schedule.value schedule.gave in
    let pools = routed chain hash.value routing.value routing.gave in
    let same : record { routing = routing.value; schedule = schedule.value } ≡ config = cc in
    let P : ConfigView → Type 0 = λ c. HaveAsManyHops c.routing c.schedule in
    let own : P (record { routing = routing.value; schedule = schedule.value }) = omega arith in
    subst P same own

pub matches : (value : Data) (config : ConfigView) → config_of value ≡ Ok config → HaveAsManyHops config.routing config.schedule
matches value config e =
    let keys = taken (object_check config_keys value) (λ _. field (codes "pools") value >>= λ pools. field (codes "route") value >>= λ route.
    pools_check pools >>= λ _. chain_of most_hops pools route >>= with_chain value) config e in
    let pools = taken (field (codes "pools") value) (λ pools. field (codes "route") value >>= λ route.
    pools_check pools >>= λ _. chain_of most_hops pools route >>= with_chain value) config keys.went in
    let route = taken (field (codes "route") value) (λ route.
    pools_check pools.value >>= λ _. chain_of most_hops pools.value route >>= with_chain value) config pools.went in
    let checked = taken (pools_check pools.value) (λ _. chain_of most_hops pools.value route.value >>= with_chain value) config route.went in
    let chain = taken (chain_of most_hops pools.value route.value) (with_chain value) config checked.went in
    chain_matches value chain.value config chain.went
