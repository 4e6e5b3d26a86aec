-- The lists of a script, counted before they are made.
use Rattle.std.proofs.Common.{rules, ◌≡◌, ◌≤◌, ℕ, suc, List, [], ◌∷◌, length, map, Ok, Err, Result, IsErrAnd, inr, refl, sym, ap, ◌∙◌}
use Rattle.std.proofs.lemmas.List.{length-map}
use Rattle.std.specs.Prelude.{IsOk}
use Rattle.serde_json.specs.Data.{Data}
use Rattle.serde_json.specs.View.{view}
use Rattle.mr_world.specs.Setup.{SetupView}
use Rattle.serde_json.specs.declared.value.Value.{Value}
use Rattle.mr_world.specs.declared.event.Event.{Event}
use Rattle.mr_shown.specs.declared.format.Format.{Format}
use Rattle.mr_configs.specs.Checking.{◌>>=◌}
use Rattle.mr_configs.specs.Config.{ConfigView, IsJson}
use Rattle.mr_scripts.specs.Events.{events_of}
use Rattle.mr_configs.specs.Fields.{list_of}
use Rattle.mr_scripts.specs.Limits.{most_bytes}
use Rattle.mr_scripts.specs.Lists.{all_of}
use Rattle.mr_scripts.specs.Script.{ScriptParts, ScriptView, ReadsScript, count_in, counts_check, script_of}
use Rattle.mr_scripts.specs.ScriptDraft.{script_between, parts_between, parts_drafted, IsScriptReady}
use Rattle.mr_scripts.specs.SetupDraft.{setup_between, setup_drafted}
use Rattle.mr_scripts.specs.Setups.{held_of, proxy_of, checked_setup}
use Rattle.mr_configs.specs.declared.error.PlanError.{PlanError}
use Rattle.mr_configs.specs.declared.error.PlanError.TheVariants.{OutOfMemory}
use Rattle.mr_scripts.specs.declared.script.ScriptDraft.{ScriptDraft}
use Rattle.mr_configs.proofs.CheckingLemmas.{taken}
use Rattle.mr_scripts.proofs.HomeLemmas.{read_as}

one_counted : {Y : Type 0} (first : Y) (rest items : List Y) {count : ℕ} → count ≡ length rest → ◌≡◌ {A = Result (List Y) PlanError} (Ok (first ∷ rest)) (Ok items) →
    suc count ≡ length items
one_counted first rest items at is = let same : first ∷ rest ≡ items = cc in ap suc at ∙ ap length same

-- each value is one item
all_counted : {X Y : Type 0} (read : X → Result Y PlanError) (values : List X) (items : List Y) → all_of read values ≡ Ok items → length values ≡ length items
all_counted read [] items e = let none : [] ≡ items = cc in ap length none
all_counted read (value ∷ values) items e =
    let first = taken (read value) (λ item. all_of read values >>= λ items. Ok (item ∷ items)) items e in
    let rest = taken (all_of read values) (λ items. Ok (first.value ∷ items)) items first.went in
    one_counted first.value rest.value items (all_counted read values rest.value rest.gave) rest.went

-- a setup has as many items and proxies as its values
record AreCounted (held proxies : List Value) (setup : SetupView) : Type 0 where
  items : length setup.held ≡ length held
  fleet : length setup.proxies ≡ length proxies

setup_counted : (format : Format) (common : ConfigView) (capacity : ℕ) (held proxies : List Value) (setup : SetupView) →
    setup_between format common capacity (map view held) (map view proxies) ≡ Ok setup → AreCounted held proxies setup
setup_counted format common capacity held proxies setup e =
    let items = taken (all_of (held_of format) (map view held))
    (λ items. all_of (proxy_of common) (map view proxies) >>= λ fleet. checked_setup (record { proxies = fleet; capacity = capacity; held = items })) setup e in
    let fleet = taken (all_of (proxy_of common) (map view proxies)) (λ fleet. checked_setup (record { proxies = fleet; capacity = capacity; held = items.value })) setup items.went in
    let same = settled_same (record { proxies = fleet.value; capacity = capacity; held = items.value }) setup fleet.went in
    record {
      items = ap (λ (s : SetupView). length s.held) (sym same) ∙ sym (all_counted (held_of format) (map view held) items.value items.gave) ∙ length-map held view;
      fleet = ap (λ (s : SetupView). length s.proxies) (sym same) ∙ sym (all_counted (proxy_of common) (map view proxies) fleet.value fleet.gave) ∙ length-map proxies view;
    }
  where
    settled_same : (made setup : SetupView) → checked_setup made ≡ Ok setup → made ≡ setup
    settled_same made setup is = search (rules, is)

-- the lists can be counted before they are made
pub counted : (format : Format) (common : ConfigView) (capacity : ℕ) (held proxies : List Value) (events : Data) → IsOk (setup_between format common capacity (map view held) (map view proxies)) →
    script_between format (setup_between format common capacity (map view held) (map view proxies)) events
    ≡ (counts_check (length held) (length proxies) (count_in events) >>= λ _. list_of events >>= parts_between format (setup_between format common capacity (map view held) (map view proxies)))
counted format common capacity held proxies events ok =
    let (setup, is) = read_as (setup_between format common capacity (map view held) (map view proxies)) ok in
    by_counts is (setup_counted format common capacity held proxies setup is)
  where
    by_counts : {made : Result SetupView PlanError} {setup : SetupView} → made ≡ Ok setup → AreCounted held proxies setup →
        script_between format made events ≡ (counts_check (length held) (length proxies) (count_in events) >>= λ _. list_of events >>= parts_between format made)
    by_counts {made} {setup} is counts = rw is (rw counts.items (rw counts.fleet (
        in_turn (counts_check (length held) (length proxies) (count_in events)) (list_of events))))
      where
        in_turn : (check : Result (Unit {0}) PlanError) (values : Result (List Data) PlanError) →
            (check >>= λ _. values >>= events_of format 0 >>= λ events. Ok (record { format = format; setup = setup; events = events }))
            ≡ (check >>= λ _. values >>= parts_between format (Ok setup))
        in_turn (Ok unit) (Ok values) = refl
        in_turn (Ok unit) (Err refusal) = refl
        in_turn (Err refusal) values = refl

-- what can be made of a script that was looked at whole
pub parts_ready : (draft : ScriptDraft) → IsScriptReady draft → (parts : ScriptParts) × (parts_drafted draft ≡ Ok parts)
parts_ready draft ready = both (setup_drafted draft.format draft.setup) (events_of draft.format 0 (map view draft.events.now)) ready.setup.whole ready.events
  where
    both : (setup : Result SetupView PlanError) (events : Result (List Event) PlanError) → IsOk setup → IsOk events →
        (parts : ScriptParts) × ((events >>= λ events. setup >>= λ setup. Ok (record { format = draft.format; setup = setup; events = events })) ≡ Ok parts)
    both (Ok setup) (Ok events) setup_is events_are = (record { format = draft.format; setup = setup; events = events }, refl)
    both (Ok setup) (Err refusal) setup_is events_are = absurd (cc)
    both (Err refusal) events setup_is events_are = absurd (cc)

-- memory is refused for a script that was looked at whole
pub lacks_memory : (bytes : List ℕ) (json : Value) (draft : ScriptDraft) (result : Result ScriptView PlanError) → length bytes ≤ most_bytes
    → IsJson bytes (view json) → script_of (view json) ≡ parts_drafted draft → IsScriptReady draft
    → IsErrAnd result (λ e. e ≡ OutOfMemory) → ReadsScript bytes result
lacks_memory bytes json draft (Ok script) few is_json says ready is = absurd is
lacks_memory bytes json draft (Err refusal) few is_json says ready is =
    let (parts, drafted) = parts_ready draft ready in inr (few, inr (view json, is_json, inr (is, (parts, says ∙ drafted))))
