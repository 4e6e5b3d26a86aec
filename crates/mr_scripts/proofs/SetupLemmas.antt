-- The tests of a setup say whether the fleet can be made.
use Rattle.std.proofs.Common.{◌≡◌, ℕ, zero, suc, ◌<◌, ◌≤◌, ◌||◌, ◌&&◌, Bool, true, false, List, [], ◌∷◌, length, slice_index_or, nat_le, Option, Some, None, Result, Ok, Err, if◌then◌else◌, All, Contains, inl, inr, ◌⊎◌, refl, subst, arith, leb-true}
use Rattle.std.specs.Prelude.{codes}
use Rattle.serde_json.specs.Data.{Data}
use Rattle.serde_json.specs.Find.{get}
use Rattle.serde_json.specs.View.{view}
use Rattle.std.specs.Str.{bytes_eq}
use Rattle.std.proofs.lemmas.Slice.Eq.{bytes_eq-Decides}
use Rattle.mr_proxy.specs.Sheets.{HaveAsManyHops}
use Rattle.mr_world.specs.Setup.{SetupView, CanBeMade, HasHomes, ChainsMatch, IsNamed}
use Rattle.mr_proxy.specs.declared.world_error.WorldError.TheVariants.{NoSuchNode}
use Rattle.mr_world.specs.declared.event.Event.{Event}
use Rattle.mr_world.specs.declared.setup.HeldItem.{HeldItem}
use Rattle.mr_world.specs.declared.setup.ProxySetup.{ProxySetup}
use Rattle.mr_shown.specs.declared.format.Format.{Format}
use Rattle.mr_configs.specs.Checking.{◌>>=◌, only_if}
use Rattle.mr_configs.specs.Config.{ConfigView, config_of}
use Rattle.mr_scripts.specs.Events.{events_of}
use Rattle.mr_configs.specs.Fields.{Text, is_one_of, object_check, field, whole_number, list_of}
use Rattle.mr_scripts.specs.Limits.{most_events, most_held, most_proxies}
use Rattle.mr_scripts.specs.Lists.{all_of}
use Rattle.mr_scripts.specs.Script.{ScriptParts, ScriptView, script_keys, format_in, count_in, counts_check, script_in, IsScript, IsPlayable}
use Rattle.mr_scripts.specs.Setups.{pools_name, proxies_name, have_homes, have_room, checked_setup, held_of, config_or, proxy_keys, proxy_of, setup_keys, setup_of}
use Rattle.mr_configs.specs.declared.error.PlanError.{PlanError}
use Rattle.mr_configs.specs.declared.error.PlanError.TheVariants.{BadSetup, TooLarge}
use Rattle.mr_configs.proofs.CheckingLemmas.{taken}

left_true : (a b : Bool) → (a && b) ≡ true → a ≡ true
left_true true b e = refl
left_true false b e = e

right_true : (a b : Bool) → (a && b) ≡ true → b ≡ true
right_true true b e = e
right_true false b e = cc

-- a name that is one of these stands among them
is_there : (names : List Text) (name : Text) → is_one_of names name ≡ true → Contains names name
is_there [] name e = absurd (cc)
is_there (first ∷ names) name e = go (bytes_eq first name) refl e (λ found. is_there names name found)
  where
    go : (test : Bool) → bytes_eq first name ≡ test → (test || is_one_of names name) ≡ true → (is_one_of names name ≡ true → Contains names name) →
        Contains (first ∷ names) name
    go true is found later = (0, omega arith, (bytes_eq-Decides first name).0 is)
    go false is found later = let (place, within, at) = later found in (suc place, omega arith, at)

record IsInPool (pools : List (List Text)) (name : Text) : Type 0 where
  pool : ℕ
  there : pool < length pools
  names : Contains (slice_index_or pools pool []) name

in_pool : (pools : List (List Text)) (name : Text) → pools_name pools name ≡ true → IsInPool pools name
in_pool [] name e = absurd (cc)
in_pool (first ∷ pools) name e = go (is_one_of first name) refl e (λ found. in_pool pools name found)
  where
    go : (test : Bool) → is_one_of first name ≡ test → (test || pools_name pools name) ≡ true → (pools_name pools name ≡ true → IsInPool pools name) →
        IsInPool (first ∷ pools) name
    go true is found later = record { pool = 0; there = omega arith; names = is_there first name is }
    go false is found later = let at = later found in record { pool = suc at.pool; there = omega arith; names = at.names }

-- a name that is found among proxies is the name of a node
is_named : (proxies : List ProxySetup) (name : Text) → proxies_name proxies name ≡ true → IsNamed proxies name
is_named [] name e = absurd (cc)
is_named (first ∷ proxies) name e = go (pools_name first.routing.pools name) refl e (λ found. is_named proxies name found)
  where
    go : (test : Bool) → pools_name first.routing.pools name ≡ test → (test || proxies_name proxies name) ≡ true →
        (proxies_name proxies name ≡ true → IsNamed proxies name) → IsNamed (first ∷ proxies) name
    go true is found later = let here = in_pool first.routing.pools name is in record {
      proxy = first;
      home = (0, omega arith, refl);
      names = record { pool = here.pool; has = record { there = here.there; names = here.names } };
    }
    go false is found later = let at = later found in record {
      proxy = at.proxy;
      home = (suc at.home.0, omega arith, at.home.2);
      names = at.names;
    }

are_named : (proxies : List ProxySetup) (items : List HeldItem) → have_homes proxies items ≡ true → All (λ item. IsNamed proxies item.node) items
are_named proxies [] e k d within = absurd (omega arith)
are_named proxies (item ∷ items) e zero d within = is_named proxies item.node (left_true (proxies_name proxies item.node) (have_homes proxies items) e)
are_named proxies (item ∷ items) e (suc k) d within =
    are_named proxies items (right_true (proxies_name proxies item.node) (have_homes proxies items) e) k d (omega arith)

not_zero : (capacity : ℕ) (proxies : List ProxySetup) → have_room capacity proxies ≡ true → (proxies ≡ []) ⊎ (1 ≤ capacity)
not_zero capacity [] e = inl refl
not_zero capacity (proxy ∷ proxies) e = inr (leb-true 1 capacity e)

-- each item of a setup that passes the tests has a node
passes : (setup : SetupView) → (have_room setup.capacity setup.proxies && have_homes setup.proxies setup.held) ≡ true → HasHomes setup
passes setup e = record {
  not_zero = not_zero setup.capacity setup.proxies (left_true (have_room setup.capacity setup.proxies) (have_homes setup.proxies setup.held) e);
  named = are_named setup.proxies setup.held (right_true (have_room setup.capacity setup.proxies) (have_homes setup.proxies setup.held) e);
}

-- the hops of a proxy's configuration, and so of the proxy, are as many by its pools as by its schedule
abbrev pub ConfigurationsMatch : Type 0
ConfigurationsMatch = (value : Data) (config : ConfigView) → config_of value ≡ Ok config → HaveAsManyHops config.routing config.schedule

config_matches : ConfigurationsMatch → (common : ConfigView) (own : Option Data) (config : ConfigView) → HaveAsManyHops common.routing common.schedule →
    config_or common own ≡ Ok config → HaveAsManyHops config.routing config.schedule
config_matches matches common None config matched e =
    let same : common ≡ config = cc in let P : ConfigView → Type 0 = λ c. HaveAsManyHops c.routing c.schedule in subst P same matched
config_matches matches common (Some own) config matched e = matches own config e

proxy_matches : ConfigurationsMatch → (common : ConfigView) (value : Data) (proxy : ProxySetup) → HaveAsManyHops common.routing common.schedule →
    proxy_of common value ≡ Ok proxy → HaveAsManyHops proxy.routing proxy.schedule
proxy_matches matches common value proxy matched e =
    let keys = taken (object_check proxy_keys value) _ proxy e in
    let reading_at = taken (field (codes "reading") value) _ proxy keys.went in
    let room_at = taken (field (codes "room") value) _ proxy reading_at.went in
    let config = taken (config_or common (get (codes "config") value)) _ proxy room_at.went in
    let reading = taken (whole_number reading_at.value) _ proxy config.went in
    let room = taken (whole_number room_at.value)
    (λ room. Ok (record { routing = config.value.routing; schedule = config.value.schedule; room = room; reading = reading.value })) proxy reading.went in
    let same : record { routing = config.value.routing; schedule = config.value.schedule; room = room.value; reading = reading.value } ≡ proxy = cc in
    let P : ProxySetup → Type 0 = λ p. HaveAsManyHops p.routing p.schedule in
    subst P same (config_matches matches common (get (codes "config") value) config.value matched config.gave)

proxies_match : ConfigurationsMatch → (common : ConfigView) (values : List Data) (proxies : List ProxySetup) → HaveAsManyHops common.routing common.schedule →
    all_of (proxy_of common) values ≡ Ok proxies → ChainsMatch proxies
proxies_match matches common [] proxies matched e =
    let none : [] ≡ proxies = cc in subst ChainsMatch none (λ k d within. absurd (omega arith))
proxies_match matches common (value ∷ values) proxies matched e =
    let first = taken (proxy_of common value) (λ proxy. all_of (proxy_of common) values >>= λ fleet. Ok (proxy ∷ fleet)) proxies e in
    let rest = taken (all_of (proxy_of common) values) (λ fleet. Ok (first.value ∷ fleet)) proxies first.went in
    let same : first.value ∷ rest.value ≡ proxies = cc in
    subst ChainsMatch same (both first.value rest.value (proxy_matches matches common value first.value matched first.gave) (proxies_match matches common values rest.value matched rest.gave))
  where
    both : (first : ProxySetup) (rest : List ProxySetup) → HaveAsManyHops first.routing first.schedule → ChainsMatch rest → ChainsMatch (first ∷ rest)
    both first rest here later zero d within = here
    both first rest here later (suc k) d within = later k d (omega arith)

-- a setup that is settled can be made
settled_made : (setup made : SetupView) → ChainsMatch setup.proxies → checked_setup setup ≡ Ok made → CanBeMade made
settled_made setup made chains e = go (have_room setup.capacity setup.proxies && have_homes setup.proxies setup.held) refl e
  where
    go : (test : Bool) → (have_room setup.capacity setup.proxies && have_homes setup.proxies setup.held) ≡ test →
        (if test then Ok setup else Err (BadSetup NoSuchNode)) ≡ Ok made → CanBeMade made
    go true is same = let kept : setup ≡ made = cc in subst CanBeMade kept (record { chains = chains; homes = passes setup is })
    go false is same = absurd (cc)

-- what comes of a setup's values
abbrev with_values : Format → Data → Data → Data → Data → Result SetupView PlanError
with_values format capacity config held proxies =
    whole_number capacity >>= λ capacity.
    config_of config >>= λ common.
    list_of held >>= all_of (held_of format) >>= λ held.
    list_of proxies >>= all_of (proxy_of common) >>= λ proxies.
    checked_setup (record { proxies = proxies; capacity = capacity; held = held })

values_made : ConfigurationsMatch → (format : Format) (capacity config held proxies : Data) (setup : SetupView) → with_values format capacity config held proxies ≡ Ok setup → CanBeMade setup
values_made matches format capacity config held proxies setup e =
    let number = taken (whole_number capacity) (λ capacity. config_of config >>= λ common. list_of held >>= all_of (held_of format) >>= λ held.
    list_of proxies >>= all_of (proxy_of common) >>= λ proxies. checked_setup (record { proxies = proxies; capacity = capacity; held = held })) setup e in
    let common = taken (config_of config) (λ common. list_of held >>= all_of (held_of format) >>= λ held.
    list_of proxies >>= all_of (proxy_of common) >>= λ proxies. checked_setup (record { proxies = proxies; capacity = number.value; held = held })) setup number.went in
    let items = taken (list_of held >>= all_of (held_of format)) (λ held.
    list_of proxies >>= all_of (proxy_of common.value) >>= λ proxies. checked_setup (record { proxies = proxies; capacity = number.value; held = held })) setup common.went in
    let fleet = taken (list_of proxies >>= all_of (proxy_of common.value))
    (λ proxies. checked_setup (record { proxies = proxies; capacity = number.value; held = items.value })) setup items.went in
    let values = taken (list_of proxies) (all_of (proxy_of common.value)) fleet.value fleet.gave in
    settled_made (record { proxies = fleet.value; capacity = number.value; held = items.value }) setup
    (proxies_match matches common.value values.value fleet.value (matches config common.value common.gave) values.went) fleet.went

abbrev with_fleet : Format → Data → SetupView → Result ScriptParts PlanError
with_fleet format events setup =
    counts_check (length setup.held) (length setup.proxies) (count_in events) >>= λ _.
    list_of events >>= events_of format 0 >>= λ events.
    Ok (record { format = format; setup = setup; events = events })

abbrev with_setup : Data → Data → Data → Result ScriptParts PlanError
with_setup events format setup = format_in format >>= λ format. setup_of format setup >>= with_fleet format events

few_proxies : (held proxies events : ℕ) (unit : Unit {0}) → counts_check held proxies events ≡ Ok unit → proxies ≤ most_proxies
few_proxies held proxies events unit e = leb-true proxies most_proxies (go (nat_le held most_held) (nat_le proxies most_proxies) e)
  where
    go : (a b : Bool) → (only_if a TooLarge >>= λ _. only_if b TooLarge >>= λ _. only_if (nat_le events most_events) TooLarge) ≡ Ok unit → b ≡ true
    go true true is = refl
    go true false is = cc
    go false b is = cc

playable : (format : Format) (setup : SetupView) (events : List Event) (parts : ScriptParts) →
    ◌≡◌ {A = Result ScriptParts PlanError} (Ok (record { format = format; setup = setup; events = events })) (Ok parts) → CanBeMade setup → length setup.proxies ≤ most_proxies →
    IsPlayable parts.setup
playable format setup events parts e made few =
    let same : record { format = format; setup = setup; events = events } ≡ parts = cc in
    let P : ScriptParts → Type 0 = λ parts. IsPlayable parts.setup in
    subst P same (record { made = made; few = few })

setup_made : ConfigurationsMatch → (format : Format) (value : Data) (setup : SetupView) → setup_of format value ≡ Ok setup → CanBeMade setup
setup_made matches format value setup e =
    let keys = taken (object_check setup_keys value)
    (λ _. field (codes "capacity") value >>= λ capacity. field (codes "config") value >>= λ config. field (codes "held") value >>= λ held.
    field (codes "proxies") value >>= λ proxies. with_values format capacity config held proxies) setup e in
    let capacity = taken (field (codes "capacity") value)
    (λ capacity. field (codes "config") value >>= λ config. field (codes "held") value >>= λ held. field (codes "proxies") value >>= λ proxies.
    with_values format capacity config held proxies) setup keys.went in
    let config = taken (field (codes "config") value)
    (λ config. field (codes "held") value >>= λ held. field (codes "proxies") value >>= λ proxies. with_values format capacity.value config held proxies) setup capacity.went in
    let held = taken (field (codes "held") value)
    (λ held. field (codes "proxies") value >>= λ proxies. with_values format capacity.value config.value held proxies) setup config.went in
    let proxies = taken (field (codes "proxies") value) (λ proxies. with_values format capacity.value config.value held.value proxies) setup held.went in
    values_made matches format capacity.value config.value held.value proxies.value setup proxies.went

pub parts_playable : ConfigurationsMatch → (value : Data) (parts : ScriptParts) → script_in value ≡ Ok parts → IsPlayable parts.setup
parts_playable matches value parts e =
    let events = taken (field (codes "events") value)
    (λ events. field (codes "format") value >>= λ format. field (codes "setup") value >>= λ setup. with_setup events format setup) parts e in
    let format = taken (field (codes "format") value)
    (λ format. field (codes "setup") value >>= λ setup. with_setup events.value format setup) parts events.went in
    let setup = taken (field (codes "setup") value) (λ setup. with_setup events.value format.value setup) parts format.went in
    let read = taken (format_in format.value) (λ format. setup_of format setup.value >>= with_fleet format events.value) parts setup.went in
    let fleet = taken (setup_of read.value setup.value) (with_fleet read.value events.value) parts read.went in
    let counts = taken (counts_check (length fleet.value.held) (length fleet.value.proxies) (count_in events.value))
    (λ _. list_of events.value >>= events_of read.value 0 >>= λ events. Ok (record { format = read.value; setup = fleet.value; events = events })) parts fleet.went in
    let happened = taken (list_of events.value >>= events_of read.value 0) (λ events. Ok (record { format = read.value; setup = fleet.value; events = events })) parts counts.went in
    playable read.value fleet.value happened.value parts happened.went (setup_made matches read.value setup.value fleet.value fleet.gave)
    (few_proxies (length fleet.value.held) (length fleet.value.proxies) (count_in events.value) counts.value counts.gave)

pub script_playable : ConfigurationsMatch → (script : ScriptView) → IsScript script → IsPlayable script.setup
script_playable matches script is =
    let value = view script.json in
    let parts : ScriptParts = record { format = script.format; setup = script.setup; events = script.events } in
    let keys = taken (object_check script_keys value) (λ _. script_in value) parts is.says in
    parts_playable matches value parts keys.went
