-- A script in format 2 says what it said in format 1.
use Rattle.std.proofs.Common.{◌≡◌, ℕ, ◌+◌, ◌<◌, ◌≤◌, Bool, true, false, List, [], ◌∷◌, map, length, Option, Some, None, Result, Ok, Err, inl, inr, refl, sym, ap, ◌∙◌, arith, if◌then◌else◌, codes}
use Rattle.std.specs.Prelude.{ok_or, option_map, option_and_then, unwrap_or}
use Rattle.std.specs.Str.{bytes_eq, chars, IsUtf8}
use Rattle.std.proofs.lemmas.Slice.Eq.{bytes_eq-Decides}
use Rattle.serde_json.specs.Data.{Data, number, unsigned, depth}
use Rattle.serde_json.specs.Find.{get, as_str}
use Rattle.serde_json.specs.Read.{max_depth, read}
use Rattle.serde_json.specs.View.{view}
use Rattle.serde_json.specs.Written.{has_float, compact_text}
use Rattle.serde_json.proofs.Nesting.{depth-read}
use Rattle.mr_shown.specs.Data.{data_of}
use Rattle.mr_shown.specs.declared.format.Format.{Format}
use Rattle.mr_shown.specs.declared.format.Format.TheVariants.{One, Two}
use Rattle.mr_shown.proofs.DataLemmas.{data_is_bytes, read_back}
use Rattle.mr_text.specs.declared.request.Request.{Request}
use Rattle.mr_text.specs.declared.request.Request.TheVariants.{Set}
use Rattle.mr_world.specs.Setup.{SetupView}
use Rattle.mr_world.specs.declared.event.Event.{Event}
use Rattle.mr_world.specs.declared.event.Event.TheVariants.{Client}
use Rattle.mr_world.specs.declared.setup.HeldItem.{HeldItem}
use Rattle.mr_configs.specs.Checking.{◌>>=◌}
use Rattle.mr_configs.specs.Config.{ConfigView, IsJson, config_of}
use Rattle.mr_configs.specs.Fields.{Text, object_check, field, whole_number, text_of, list_of}
use Rattle.mr_configs.specs.declared.error.PlanError.{PlanError}
use Rattle.mr_configs.specs.declared.error.PlanError.TheVariants.{MissingKey, WrongKind, TooLarge}
use Rattle.mr_configs.proofs.CheckingLemmas.{taken, there}
use Rattle.mr_scripts.specs.Events.{event_of, event_of_kind, event_at, events_of, clock_of, client_keys, client_of, deliver_of, return_of, give_up_of, node_restart_of, proxy_restart_of}
use Rattle.mr_scripts.specs.Lists.{all_of}
use Rattle.mr_scripts.specs.Limits.{most_bytes}
use Rattle.mr_scripts.specs.Numbers.{small_number, signed_whole_number, flag_of}
use Rattle.mr_scripts.specs.Requests.{request_of, request_of_kind, get_of, set_keys, set_of, delete_of}
use Rattle.mr_scripts.specs.Script.{ScriptParts, ScriptView, ReadsScript, count_in, counts_check, format_in, script_keys, script_of}
use Rattle.mr_scripts.specs.Setups.{held_keys, held_of, proxy_of, checked_setup, setup_keys, setup_of}
use Rattle.mr_scripts.specs.Texts.{key_of, block_of, block_of_text, node_name_of}
use Rattle.mr_scripts.specs.Upgrade.{changed_at, each_changed, says_at, digits_json, upgraded_data, with_digits, upgraded_request, upgraded_event, upgraded_setup, upgraded, IsUpgrade, RefusesUpgrade}
use Rattle.mr_scripts.proofs.WholeLemmas.{read_whole}
use Rattle.mr_scripts.proofs.MemberLemmas.{apart, checked_changed, other_changed, field_changed, field_other, checked_put, field_put, field_kept, list_changed, list_read, count_changed, IsNoDeeper, deep_with, deep_changed, deep_each}

-- data

digits_read : (block : List ℕ) (text : List ℕ) → data_of One text ≡ Some block → block_of Two (digits_json block) ≡ Ok block
digits_read block text is =
    let bytes = data_is_bytes One text block is in
    ap (λ (o : Option (List ℕ)). ok_or o WrongKind) (read_back Two block bytes.0 (omega (arith, bytes.1)))

pub data_upgraded : (value : Data) (block : List ℕ) → block_of One value ≡ Ok block → block_of Two (upgraded_data value) ≡ Ok block
data_upgraded value block e =
    let text = taken (text_of value) (block_of_text One) block e in
    let is = there (as_str value) WrongKind text.value text.gave in
    let shows = there (data_of One (chars text.value)) WrongKind block text.went in
    ap (λ (o : Option Text). block_of Two (unwrap_or (option_map digits_json (option_and_then (data_of One) (option_map chars o))) value)) is
    ∙ ap (λ (o : Option (List ℕ)). block_of Two (unwrap_or (option_map digits_json o) value)) shows
    ∙ digits_read block (chars text.value) shows

-- held items

-- what is made of the members of a held item
abbrev item_made : Format → Result (Unit {0}) PlanError → Result Data PlanError → Result Data PlanError → Result Data PlanError → Result Data PlanError → Result HeldItem PlanError
item_made format checked data_at flags_at key_at node_at =
    checked >>= λ _.
    data_at >>= λ block.
    flags_at >>= λ flags.
    key_at >>= λ key.
    node_at >>= λ node.
    block_of format block >>= λ block.
    small_number flags >>= λ flags.
    key_of key >>= λ key.
    node_name_of node >>= λ node.
    Ok (record { node = node; key = key; flags = flags; block = block })

-- what the data alone changes
same_item : (checked : Result (Unit {0}) PlanError) (data_at others flags_at key_at node_at : Result Data PlanError) (item : HeldItem)
    → ((held : Data) → data_at ≡ Ok held → others ≡ Ok (upgraded_data held))
    → item_made One checked data_at flags_at key_at node_at ≡ Ok item → item_made Two checked others flags_at key_at node_at ≡ Ok item
same_item (Ok unit) (Ok held) others (Ok flags_held) (Ok key_held) (Ok node_held) item changed e =
    let block = taken (block_of One held) _ item e in
    rw (changed held refl) (rw (data_upgraded held block.value block.gave) block.went)
same_item (Ok unit) (Ok held) others (Ok flags_held) (Ok key_held) (Err refusal) item changed e = cc
same_item (Ok unit) (Ok held) others (Ok flags_held) (Err refusal) node_at item changed e = cc
same_item (Ok unit) (Ok held) others (Err refusal) key_at node_at item changed e = cc
same_item (Ok unit) (Err refusal) others flags_at key_at node_at item changed e = cc
same_item (Err refusal) data_at others flags_at key_at node_at item changed e = cc

pub held_upgraded : (value : Data) (item : HeldItem) → held_of One value ≡ Ok item → held_of Two (with_digits value) ≡ Ok item
held_upgraded value item e =
    let name = codes "data" in
    rw (checked_changed held_keys name upgraded_data value refl)
    (rw (field_other (codes "flags") name upgraded_data value (apart (codes "flags") name refl refl))
    (rw (field_other (codes "key") name upgraded_data value (apart (codes "key") name refl refl))
    (rw (field_other (codes "node") name upgraded_data value (apart (codes "node") name refl refl))
    (same_item (object_check held_keys value) (field name value) (field name (with_digits value)) (field (codes "flags") value) (field (codes "key") value) (field (codes "node") value) item
    (λ held gave. field_changed name upgraded_data value held gave) e))))

-- requests

abbrev set_made : Format → Result (Unit {0}) PlanError → Result Data PlanError → Result Data PlanError → Result Data PlanError → Result Data PlanError → Option Data → Result Request PlanError
set_made format checked data_at exptime_at flags_at key_at noreply_at =
    checked >>= λ _.
    data_at >>= block_of format >>= λ block.
    exptime_at >>= signed_whole_number >>= λ exptime.
    flags_at >>= small_number >>= λ flags.
    key_at >>= key_of >>= λ key.
    flag_of noreply_at >>= λ noreply.
    Ok (Set key flags exptime block noreply)

same_set : (checked : Result (Unit {0}) PlanError) (data_at others exptime_at flags_at key_at : Result Data PlanError) (noreply_at : Option Data) (made : Request)
    → ((held : Data) → data_at ≡ Ok held → others ≡ Ok (upgraded_data held))
    → set_made One checked data_at exptime_at flags_at key_at noreply_at ≡ Ok made → set_made Two checked others exptime_at flags_at key_at noreply_at ≡ Ok made
same_set (Ok unit) (Ok held) others exptime_at flags_at key_at noreply_at made changed e =
    let block = taken (block_of One held) _ made e in
    rw (changed held refl) (rw (data_upgraded held block.value block.gave) block.went)
same_set (Ok unit) (Err refusal) others exptime_at flags_at key_at noreply_at made changed e = cc
same_set (Err refusal) data_at others exptime_at flags_at key_at noreply_at made changed e = cc

set_upgraded : (value : Data) (made : Request) → set_of One value ≡ Ok made → set_of Two (with_digits value) ≡ Ok made
set_upgraded value made e =
    let name = codes "data" in
    rw (checked_changed set_keys name upgraded_data value refl)
    (rw (field_other (codes "exptime") name upgraded_data value (apart (codes "exptime") name refl refl))
    (rw (field_other (codes "flags") name upgraded_data value (apart (codes "flags") name refl refl))
    (rw (field_other (codes "key") name upgraded_data value (apart (codes "key") name refl refl))
    (rw (other_changed (codes "noreply") name upgraded_data value (apart (codes "noreply") name refl refl))
    (same_set (object_check set_keys value) (field name value) (field name (with_digits value)) (field (codes "exptime") value) (field (codes "flags") value) (field (codes "key") value)
    (get (codes "noreply") value) made (λ held gave. field_changed name upgraded_data value held gave) e)))))

-- a text that is found under a key is the one that is told apart there
said : (key text : Text) (value : Data) (found : Text) → (field key value >>= text_of) ≡ Ok found → says_at key text value ≡ bytes_eq found text
said key text value found e =
    let held = taken (field key value) text_of found e in
    ap (λ (o : Option Data). unwrap_or (option_map (λ said. bytes_eq said text) (option_and_then as_str o)) false) (there (get key value) MissingKey held.value held.gave)
    ∙ ap (λ (o : Option Text). unwrap_or (option_map (λ said. bytes_eq said text) o) false) (there (as_str held.value) WrongKind found held.went)

pub request_upgraded : (value : Data) (made : Request) → request_of One value ≡ Ok made → request_of Two (upgraded_request value) ≡ Ok made
request_upgraded value made e =
    let kind = taken (field (codes "kind") value >>= text_of) (request_of_kind One value) made e in
    let tells = said (codes "kind") (codes "set") value kind.value kind.gave in
    by_kind (bytes_eq kind.value (codes "set")) kind.value refl kind.gave kind.went tells
  where
    as_set : (kind : Text) → kind ≡ codes "set" → request_of_kind One value kind ≡ Ok made → set_of One value ≡ Ok made
    as_set kind is read = sym (ap (request_of_kind One value) is) ∙ read

    not_set : (kind : Text) → bytes_eq kind (codes "set") ≡ false → request_of_kind One value kind ≡ Ok made → request_of_kind Two value kind ≡ Ok made
    not_set kind other read = go (bytes_eq kind (codes "set")) other read
      where
        go : (b : Bool) → b ≡ false
            → (if bytes_eq kind (codes "get") then get_of value else if b then set_of One value else if bytes_eq kind (codes "delete") then delete_of value else Err WrongKind) ≡ Ok made
            → (if bytes_eq kind (codes "get") then get_of value else if b then set_of Two value else if bytes_eq kind (codes "delete") then delete_of value else Err WrongKind) ≡ Ok made
        go true other read = cc
        go false other read = read

    by_kind : (b : Bool) (kind : Text) → bytes_eq kind (codes "set") ≡ b → (field (codes "kind") value >>= text_of) ≡ Ok kind
        → request_of_kind One value kind ≡ Ok made → says_at (codes "kind") (codes "set") value ≡ bytes_eq kind (codes "set")
        → request_of Two (upgraded_request value) ≡ Ok made
    by_kind true kind is gave read tells =
        let same : kind ≡ codes "set" = (bytes_eq-Decides kind (codes "set")).0 is in
        rw (tells ∙ is)
        (rw (field_other (codes "kind") (codes "data") upgraded_data value (apart (codes "kind") (codes "data") refl refl))
        (rw gave (ap (request_of_kind Two (with_digits value)) same ∙ set_upgraded value made (as_set kind same read))))
    by_kind false kind is gave read tells = rw (tells ∙ is) (rw gave (not_set kind is read))

-- events

client_upgraded : (value : Data) (made : Event) → client_of One value ≡ Ok made → client_of Two (changed_at (codes "request") upgraded_request value) ≡ Ok made
client_upgraded value made e =
    let name = codes "request" in
    rw (checked_changed client_keys name upgraded_request value refl)
    (rw (field_other (codes "proxy") name upgraded_request value (apart (codes "proxy") name refl refl))
    (same_client (object_check client_keys value) (field (codes "proxy") value) (field name value) (field name (changed_at name upgraded_request value))
    (λ held gave. field_changed name upgraded_request value held gave) e))
  where
    same_client : (checked : Result (Unit {0}) PlanError) (proxy_at request_at others : Result Data PlanError)
        → ((held : Data) → request_at ≡ Ok held → others ≡ Ok (upgraded_request held))
        → (checked >>= λ _. proxy_at >>= small_number >>= λ proxy. request_at >>= request_of One >>= λ request. Ok (Client proxy request)) ≡ Ok made
        → (checked >>= λ _. proxy_at >>= small_number >>= λ proxy. others >>= request_of Two >>= λ request. Ok (Client proxy request)) ≡ Ok made
    same_client (Ok unit) proxy_at (Ok held) others changed e =
        let proxy = taken (proxy_at >>= small_number) (λ proxy. request_of One held >>= λ request. Ok (Client proxy request)) made e in
        let request = taken (request_of One held) (λ request. Ok (Client proxy.value request)) made proxy.went in
        rw proxy.gave (rw (changed held refl) (rw (request_upgraded held request.value request.gave) request.went))
    same_client (Ok unit) proxy_at (Err refusal) others changed e =
        let proxy = taken (proxy_at >>= small_number) (λ proxy. Err refusal) made e in cc
    same_client (Err refusal) proxy_at request_at others changed e = cc

pub event_upgraded : (value : Data) (made : Event) → event_of One value ≡ Ok made → event_of Two (upgraded_event value) ≡ Ok made
event_upgraded value made e =
    let kind = taken (field (codes "do") value >>= text_of) (event_of_kind One value) made e in
    let tells = said (codes "do") (codes "client") value kind.value kind.gave in
    by_kind (bytes_eq kind.value (codes "client")) kind.value refl kind.gave kind.went tells
  where
    name : Text
    name = codes "request"

    as_client : (kind : Text) → kind ≡ codes "client" → event_of_kind One value kind ≡ Ok made → client_of One value ≡ Ok made
    as_client kind is read = sym (ap (event_of_kind One value) is) ∙ read

    others : Text → Result Event PlanError
    others kind =
        if bytes_eq kind (codes "deliver") then deliver_of value
        else if bytes_eq kind (codes "return") then return_of value
        else if bytes_eq kind (codes "give_up") then give_up_of value
        else if bytes_eq kind (codes "node_restart") then node_restart_of value
        else if bytes_eq kind (codes "proxy_restart") then proxy_restart_of value
        else Err WrongKind

    not_client : (kind : Text) → bytes_eq kind (codes "client") ≡ false → event_of_kind One value kind ≡ Ok made → event_of_kind Two value kind ≡ Ok made
    not_client kind other read = go (bytes_eq kind (codes "client")) other read
      where
        go : (b : Bool) → b ≡ false
            → (if bytes_eq kind (codes "clock") then clock_of value else if b then client_of One value else others kind) ≡ Ok made
            → (if bytes_eq kind (codes "clock") then clock_of value else if b then client_of Two value else others kind) ≡ Ok made
        go true other read = cc
        go false other read = read

    by_kind : (b : Bool) (kind : Text) → bytes_eq kind (codes "client") ≡ b → (field (codes "do") value >>= text_of) ≡ Ok kind
        → event_of_kind One value kind ≡ Ok made → says_at (codes "do") (codes "client") value ≡ bytes_eq kind (codes "client")
        → event_of Two (upgraded_event value) ≡ Ok made
    by_kind true kind is gave read tells =
        let same : kind ≡ codes "client" = (bytes_eq-Decides kind (codes "client")).0 is in
        rw (tells ∙ is)
        (rw (field_other (codes "do") name upgraded_request value (apart (codes "do") name refl refl))
        (rw gave (ap (event_of_kind Two (changed_at name upgraded_request value)) same ∙ client_upgraded value made (as_client kind same read))))
    by_kind false kind is gave read tells = rw (tells ∙ is) (rw gave (not_client kind is read))

at_index : (index : ℕ) (read : Result Event PlanError) (event : Event) → event_at index read ≡ Ok event → read ≡ Ok event
at_index index (Ok made) event e = e
at_index index (Err refusal) event e = cc

each_upgraded : (index : ℕ) (values : List Data) (made : List Event) → events_of One index values ≡ Ok made → events_of Two index (map upgraded_event values) ≡ Ok made
each_upgraded index [] made e = e
each_upgraded index (value ∷ values) made e =
    let first = taken (event_at index (event_of One value)) (λ event. events_of One (index + 1) values >>= λ events. Ok (event ∷ events)) made e in
    let rest = taken (events_of One (index + 1) values) (λ events. Ok (first.value ∷ events)) made first.went in
    rw (event_upgraded value first.value (at_index index (event_of One value) first.value first.gave))
    (rw (each_upgraded (index + 1) values rest.value rest.gave) rest.went)

pub events_upgraded : (value : Data) (made : List Event) → (list_of value >>= events_of One 0) ≡ Ok made
    → (list_of (each_changed upgraded_event value) >>= events_of Two 0) ≡ Ok made
events_upgraded value made e =
    let values = taken (list_of value) (events_of One 0) made e in
    rw (list_changed upgraded_event value values.value values.gave) (each_upgraded 0 values.value made values.went)

-- setups

abbrev setup_made : Format → Result (Unit {0}) PlanError → Result Data PlanError → Result Data PlanError → Result Data PlanError → Result Data PlanError → Result SetupView PlanError
setup_made format checked capacity_at config_at held_at proxies_at =
    checked >>= λ _.
    capacity_at >>= λ capacity.
    config_at >>= λ config.
    held_at >>= λ held.
    proxies_at >>= λ proxies.
    whole_number capacity >>= λ capacity.
    config_of config >>= λ common.
    list_of held >>= all_of (held_of format) >>= λ held.
    list_of proxies >>= all_of (proxy_of common) >>= λ proxies.
    checked_setup (record { proxies = proxies; capacity = capacity; held = held })

same_setup : (checked : Result (Unit {0}) PlanError) (capacity_at config_at held_at others proxies_at : Result Data PlanError) (setup : SetupView)
    → ((held : Data) → held_at ≡ Ok held → others ≡ Ok (each_changed with_digits held))
    → setup_made One checked capacity_at config_at held_at proxies_at ≡ Ok setup → setup_made Two checked capacity_at config_at others proxies_at ≡ Ok setup
same_setup (Ok unit) (Ok capacity_held) (Ok config_held) (Ok held) others (Ok proxies_held) setup changed e =
    rw (changed held refl)
    (by_values (whole_number capacity_held) (config_of config_held) (list_of held >>= all_of (held_of One)) (list_of (each_changed with_digits held) >>= all_of (held_of Two))
    (λ items gave. list_read (held_of One) (held_of Two) with_digits held_upgraded held items gave) e)
  where
    settled : ConfigView → ℕ → List HeldItem → Result SetupView PlanError
    settled common capacity held =
        list_of proxies_held >>= all_of (proxy_of common) >>= λ proxies. checked_setup (record { proxies = proxies; capacity = capacity; held = held })

    by_values : (capacity : Result ℕ PlanError) (common : Result ConfigView PlanError) (items others : Result (List HeldItem) PlanError)
        → ((made : List HeldItem) → items ≡ Ok made → others ≡ Ok made)
        → (capacity >>= λ capacity. common >>= λ common. items >>= λ held. settled common capacity held) ≡ Ok setup
        → (capacity >>= λ capacity. common >>= λ common. others >>= λ held. settled common capacity held) ≡ Ok setup
    by_values (Ok capacity) (Ok common) (Ok items) others same e = rw (same items refl) e
    by_values (Ok capacity) (Ok common) (Err refusal) others same e = cc
    by_values (Ok capacity) (Err refusal) items others same e = cc
    by_values (Err refusal) common items others same e = cc
same_setup (Ok unit) (Ok capacity_held) (Ok config_held) (Ok held) others (Err refusal) setup changed e = cc
same_setup (Ok unit) (Ok capacity_held) (Ok config_held) (Err refusal) others proxies_at setup changed e = cc
same_setup (Ok unit) (Ok capacity_held) (Err refusal) held_at others proxies_at setup changed e = cc
same_setup (Ok unit) (Err refusal) config_at held_at others proxies_at setup changed e = cc
same_setup (Err refusal) capacity_at config_at held_at others proxies_at setup changed e = cc

pub setup_upgraded : (value : Data) (setup : SetupView) → setup_of One value ≡ Ok setup → setup_of Two (upgraded_setup value) ≡ Ok setup
setup_upgraded value setup e =
    let name = codes "held" in
    let change = each_changed with_digits in
    rw (checked_changed setup_keys name change value refl)
    (rw (field_other (codes "capacity") name change value (apart (codes "capacity") name refl refl))
    (rw (field_other (codes "config") name change value (apart (codes "config") name refl refl))
    (rw (field_other (codes "proxies") name change value (apart (codes "proxies") name refl refl))
    (same_setup (object_check setup_keys value) (field (codes "capacity") value) (field (codes "config") value) (field name value) (field name (upgraded_setup value))
    (field (codes "proxies") value) setup (λ held gave. field_changed name change value held gave) e))))

-- scripts

abbrev script_made : Result (Unit {0}) PlanError → Result Data PlanError → Result Data PlanError → Result Data PlanError → Result ScriptParts PlanError
script_made checked events_at format_at setup_at =
    checked >>= λ _.
    events_at >>= λ events.
    format_at >>= λ format.
    setup_at >>= λ setup.
    format_in format >>= λ format.
    setup_of format setup >>= λ setup.
    counts_check (length setup.held) (length setup.proxies) (count_in events) >>= λ _.
    list_of events >>= events_of format 0 >>= λ events.
    Ok (record { format = format; setup = setup; events = events })

-- what is read in format 2 where it was read in format 1
abbrev in_two : ScriptParts → ScriptParts
in_two parts = record { format = Two; setup = parts.setup; events = parts.events }

abbrev told_in_two : ScriptParts → Result ScriptParts PlanError
told_in_two parts = Ok (in_two parts)

same_script : (events format_held setup : Data) (parts : ScriptParts) → parts.format ≡ One
    → script_made (Ok tt) (Ok events) (Ok format_held) (Ok setup) ≡ Ok parts
    → script_made (Ok tt) (Ok (each_changed upgraded_event events)) (Ok (number (unsigned 2))) (Ok (upgraded_setup setup)) ≡ Ok (in_two parts)
same_script events format_held setup parts one e =
    let format = taken (format_in format_held) _ parts e in
    let fleet = taken (setup_of format.value setup) _ parts format.went in
    let counts = taken (counts_check (length fleet.value.held) (length fleet.value.proxies) (count_in events)) _ parts fleet.went in
    let happened = taken (list_of events >>= events_of format.value 0) (λ events. Ok (record { format = format.value; setup = fleet.value; events = events })) parts counts.went in
    go format.value fleet.value happened.value fleet.gave counts.value counts.gave happened.gave happened.went
  where
    go : (format : Format) (fleet : SetupView) (happened : List Event) → setup_of format setup ≡ Ok fleet → (unit : Unit {0})
        → counts_check (length fleet.held) (length fleet.proxies) (count_in events) ≡ Ok unit → (list_of events >>= events_of format 0) ≡ Ok happened
        → ◌≡◌ {A = Result ScriptParts PlanError} (Ok (record { format = format; setup = fleet; events = happened })) (Ok parts)
        → script_made (Ok tt) (Ok (each_changed upgraded_event events)) (Ok (number (unsigned 2))) (Ok (upgraded_setup setup)) ≡ Ok (in_two parts)
    go One fleet happened set unit counts read is =
        let same : record { format = One; setup = fleet; events = happened } ≡ parts = cc in
        rw (setup_upgraded setup fleet set) (rw (count_changed upgraded_event events) (rw counts (rw (events_upgraded events happened read)
        (ap told_in_two same))))
    go Two fleet happened set unit counts read is =
        let same : record { format = Two; setup = fleet; events = happened } ≡ parts = cc in
        let two : Two ≡ parts.format = ap (λ (p : ScriptParts). p.format) same in
        cc

one_upgraded : (value : Data) (parts : ScriptParts) → parts.format ≡ One → script_of value ≡ Ok parts → script_of (upgraded One value) ≡ Ok (in_two parts)
one_upgraded value parts one e =
    let with_events = changed_at (codes "events") (each_changed upgraded_event) value in
    let with_setup = changed_at (codes "setup") upgraded_setup with_events in
    let whole = upgraded One value in
    let keys = taken (object_check script_keys value) _ parts e in
    let events_at = taken (field (codes "events") value) _ parts keys.went in
    let format_at = taken (field (codes "format") value) _ parts events_at.went in
    let setup_at = taken (field (codes "setup") value) _ parts format_at.went in
    let checked : object_check script_keys whole ≡ Ok keys.value =
    checked_put script_keys (codes "format") (number (unsigned 2)) with_setup refl
    ∙ checked_changed script_keys (codes "setup") upgraded_setup with_events refl
    ∙ checked_changed script_keys (codes "events") (each_changed upgraded_event) value refl ∙ keys.gave in
    let events_there : field (codes "events") whole ≡ Ok (each_changed upgraded_event events_at.value) =
    field_kept (codes "events") (codes "format") (number (unsigned 2)) with_setup (apart (codes "events") (codes "format") refl refl)
    ∙ field_other (codes "events") (codes "setup") upgraded_setup with_events (apart (codes "events") (codes "setup") refl refl)
    ∙ field_changed (codes "events") (each_changed upgraded_event) value events_at.value events_at.gave in
    let format_between : field (codes "format") with_setup ≡ Ok format_at.value =
    field_other (codes "format") (codes "setup") upgraded_setup with_events (apart (codes "format") (codes "setup") refl refl)
    ∙ field_other (codes "format") (codes "events") (each_changed upgraded_event) value (apart (codes "format") (codes "events") refl refl) ∙ format_at.gave in
    let format_there : field (codes "format") whole ≡ Ok (number (unsigned 2)) =
    field_put (codes "format") (number (unsigned 2)) with_setup format_at.value format_between in
    let setup_between : field (codes "setup") with_events ≡ Ok setup_at.value =
    field_other (codes "setup") (codes "events") (each_changed upgraded_event) value (apart (codes "setup") (codes "events") refl refl) ∙ setup_at.gave in
    let setup_there : field (codes "setup") whole ≡ Ok (upgraded_setup setup_at.value) =
    field_kept (codes "setup") (codes "format") (number (unsigned 2)) with_setup (apart (codes "setup") (codes "format") refl refl)
    ∙ field_changed (codes "setup") upgraded_setup with_events setup_at.value setup_between in
    made_of (object_check script_keys whole) (field (codes "events") whole) (field (codes "format") whole) (field (codes "setup") whole)
    keys.value events_at.value format_at.value setup_at.value checked events_there format_there setup_there setup_at.went
  where
    made_of : (checked : Result (Unit {0}) PlanError) (events_at format_at setup_at : Result Data PlanError) (unit : Unit {0}) (events format_held setup : Data)
        → checked ≡ Ok unit → events_at ≡ Ok (each_changed upgraded_event events) → format_at ≡ Ok (number (unsigned 2)) → setup_at ≡ Ok (upgraded_setup setup)
        → script_made (Ok tt) (Ok events) (Ok format_held) (Ok setup) ≡ Ok parts
        → script_made checked events_at format_at setup_at ≡ Ok (in_two parts)
    made_of checked events_at format_at setup_at unit events format_held setup a b c d e =
        rw (a, b, c, d) (same_script events format_held setup parts one e)

-- The script of format 2 says the same: reading it gives the setup and the events of the script that it was made of.
pub script_upgraded : (value : Data) (parts : ScriptParts) → script_of value ≡ Ok parts
    → script_of (upgraded parts.format value) ≡ Ok (record { format = Two; setup = parts.setup; events = parts.events })
script_upgraded value parts e = go parts.format refl
  where
    go : (format : Format) → parts.format ≡ format → script_of (upgraded format value) ≡ Ok (record { format = Two; setup = parts.setup; events = parts.events })
    go One is = one_upgraded value parts is e
    go Two is = e ∙ ap (λ (f : Format). as_result f) is
      where
        as_result : Format → Result ScriptParts PlanError
        as_result f = Ok (record { format = f; setup = parts.setup; events = parts.events })

-- a script of format 2 nests no deeper
data_deep : IsNoDeeper upgraded_data
data_deep value = go (option_and_then (data_of One) (option_map chars (as_str value)))
  where
    go : (o : Option (List ℕ)) → depth (unwrap_or (option_map digits_json o) value) ≤ depth value
    go None = omega arith
    go (Some bytes) = omega arith

digits_deep : IsNoDeeper with_digits
digits_deep = deep_changed (codes "data") upgraded_data data_deep

request_deep : IsNoDeeper upgraded_request
request_deep value = go (says_at (codes "kind") (codes "set") value)
  where
    go : (b : Bool) → depth (if b then with_digits value else value) ≤ depth value
    go true = digits_deep value
    go false = omega arith

event_deep : IsNoDeeper upgraded_event
event_deep value = go (says_at (codes "do") (codes "client") value)
  where
    go : (b : Bool) → depth (if b then changed_at (codes "request") upgraded_request value else value) ≤ depth value
    go true = deep_changed (codes "request") upgraded_request request_deep value
    go false = omega arith

pub upgraded_deep : (format : Format) (value : Data) → depth (upgraded format value) ≤ depth value
upgraded_deep One value =
    let with_events = changed_at (codes "events") (each_changed upgraded_event) value in
    let with_setup = changed_at (codes "setup") upgraded_setup with_events in
    let first = deep_changed (codes "events") (each_changed upgraded_event) (deep_each upgraded_event event_deep) value in
    let second = deep_changed (codes "setup") upgraded_setup (deep_changed (codes "held") (each_changed with_digits) (deep_each with_digits digits_deep)) with_events in
    let third = deep_with (codes "format") (number (unsigned 2)) with_setup refl in
    omega (arith, first, second, third)
upgraded_deep Two value = omega arith

-- what comes of a script that was read

pub upgrade_made : (bytes text : List ℕ) (script : ScriptView) (made : Data) → ReadsScript bytes (Ok script) → made ≡ upgraded script.format (view script.json)
    → (has_float made ≡ false → text ≡ compact_text made) → (depth made ≤ max_depth → read text ≡ Some made) → IsUtf8 text → length text + 1 ≤ most_bytes
    → IsUpgrade bytes text
upgrade_made bytes text script made reads is written back utf8 small =
    let value = view script.json in
    let parts : ScriptParts = record { format = script.format; setup = script.setup; events = script.events } in
    let low = depth-read bytes value reads.1.1 in
    let deep = upgraded_deep script.format value in
    let shallow : depth made ≤ max_depth = rw is (omega (arith, low, deep)) in
    let json : IsJson text (upgraded script.format value) = (utf8, back shallow ∙ ap Some is) in
    let kept = script_upgraded value parts reads.2.says in
    let whole : has_float made ≡ false = rw is (read_whole text (upgraded script.format value) (in_two parts) json kept) in
    record {
      script = value;
      parts = parts;
      fits = reads.0;
      is_json = reads.1;
      says = reads.2.says;
      compact = written whole ∙ ap compact_text is;
      reads = json;
      kept = kept;
      small = small;
    }

pub upgrade_refused : (bytes text : List ℕ) (script : ScriptView) (made : Data) → ReadsScript bytes (Ok script) → made ≡ upgraded script.format (view script.json)
    → (has_float made ≡ false → text ≡ compact_text made) → (depth made ≤ max_depth → read text ≡ Some made) → IsUtf8 text → most_bytes < length text + 1
    → RefusesUpgrade bytes TooLarge
upgrade_refused bytes text script made reads is written back utf8 large =
    let value = view script.json in
    let parts : ScriptParts = record { format = script.format; setup = script.setup; events = script.events } in
    let low = depth-read bytes value reads.1.1 in
    let deep = upgraded_deep script.format value in
    let shallow : depth made ≤ max_depth = rw is (omega (arith, low, deep)) in
    let json : IsJson text (upgraded script.format value) = (utf8, back shallow ∙ ap Some is) in
    let kept = script_upgraded value parts reads.2.says in
    let whole : has_float made ≡ false = rw is (read_whole text (upgraded script.format value) (in_two parts) json kept) in
    let compact : text ≡ compact_text (upgraded script.format value) = written whole ∙ ap compact_text is in
    inr (value, parts, reads.0, reads.1, reads.2.says, inl (refl, rw compact at large))
