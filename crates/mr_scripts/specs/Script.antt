-- The script that a JSON value is: a fleet, and what happens to it.
use Rattle.std.specs.Prelude.{◌≡◌, ℕ, ◌<◌, ◌≤◌, ◌⊎◌, List, [], ◌∷◌, length, false, nat_le, Result, Ok, Err, ok_or, codes}
use Rattle.std.specs.Result.{result_unwrap_or}
use Rattle.serde_json.specs.Data.{Data}
use Rattle.serde_json.specs.View.{view}
use Rattle.serde_json.specs.Written.{has_float}
use Rattle.serde_json.specs.declared.value.Value.{Value}
use Rattle.mr_shown.specs.Format.{format_of}
use Rattle.mr_shown.specs.declared.format.Format.{Format}
use Rattle.mr_world.specs.Setup.{SetupView, CanBeMade}
use Rattle.mr_world.specs.declared.event.Event.{Event}
use Rattle.mr_configs.specs.Checking.{◌>>=◌, only_if}
use Rattle.mr_configs.specs.Config.{IsJson, IsNoJson}
use Rattle.mr_scripts.specs.Events.{events_of}
use Rattle.mr_configs.specs.Fields.{Text, object_check, field, whole_number, list_of}
use Rattle.mr_scripts.specs.Limits.{most_bytes, most_events, most_held, most_proxies}
use Rattle.mr_scripts.specs.Setups.{setup_of}
use Rattle.mr_configs.specs.declared.error.PlanError.{PlanError}
use Rattle.mr_configs.specs.declared.error.PlanError.TheVariants.{WrongKind, TooLarge, OutOfMemory}

-- what is played: a fleet, and what happens to it, with the format of its data
pub record ScriptParts : Type 0 where
  pub format : Format
  pub setup : SetupView
  pub events : List Event

-- a script
pub record ScriptView : Type 0 where
  -- how data stands in its text
  pub format : Format
  pub setup : SetupView
  pub events : List Event
  -- what it was read from
  pub json : Value

-- the format whose number a value is
abbrev pub format_in : Data → Result Format PlanError
format_in value = whole_number value >>= λ number. ok_or (format_of number) WrongKind

-- how many values a list has; none where it is no list
abbrev pub count_in : Data → ℕ
count_in value = length (result_unwrap_or (list_of value) [])

-- there are no more items, proxies and events than a script may have
abbrev pub counts_check : ℕ → ℕ → ℕ → Result (Unit {0}) PlanError
counts_check held proxies events =
    only_if (nat_le held most_held) TooLarge >>= λ _.
    only_if (nat_le proxies most_proxies) TooLarge >>= λ _.
    only_if (nat_le events most_events) TooLarge

-- What a value's keys of a script say, or the first of the refusals, in this order. Whether it has other keys was looked at
-- before.
abbrev pub script_in : Data → Result ScriptParts PlanError
script_in value =
    field (codes "events") value >>= λ events.
    field (codes "format") value >>= λ format.
    field (codes "setup") value >>= λ setup.
    format_in format >>= λ format.
    setup_of format setup >>= λ setup.
    counts_check (length setup.held) (length setup.proxies) (count_in events) >>= λ _.
    list_of events >>= events_of format 0 >>= λ events.
    Ok (record { format = format; setup = setup; events = events })

-- the keys of a script
abbrev pub script_keys : List Text
script_keys = codes "events" ∷ codes "format" ∷ codes "setup" ∷ []

-- the script that a value is, or the first of the refusals, in this order
abbrev pub script_of : Data → Result ScriptParts PlanError
script_of value = object_check script_keys value >>= λ _. script_in value

-- a script is what its value says, which has no number that isn't whole
pub record IsScript (script : ScriptView) : Type 0 where
  pub says : script_of (view script.json) ≡ Ok (record { format = script.format; setup = script.setup; events = script.events })
  pub whole : has_float (view script.json) ≡ false

-- the fleet of a script can be made, and is small
pub record IsPlayable (setup : SetupView) : Type 0 where
  pub made : CanBeMade setup
  pub few : length setup.proxies ≤ most_proxies

-- why a value's keys of a script say nothing: their first refusal, or want of memory where they have none
abbrev pub RefusesParts : Data → PlanError → Type 0
RefusesParts value refusal = (script_in value ≡ Err refusal) ⊎ ((refusal ≡ OutOfMemory) × ((parts : ScriptParts) × (script_in value ≡ Ok parts)))

-- why the value is no script: its first refusal, or want of memory where it has none
abbrev pub RefusesScript : Data → PlanError → Type 0
RefusesScript value refusal =
    (script_of value ≡ Err refusal) ⊎ ((refusal ≡ OutOfMemory) × ((parts : ScriptParts) × (script_of value ≡ Ok parts)))

-- What comes of reading bytes as a script: the one that their value is, or why it is none, or why the bytes have no value;
-- before all this that they are too many.
abbrev pub ReadsScript : List ℕ → Result ScriptView PlanError → Type 0
ReadsScript bytes (Ok script) = (length bytes ≤ most_bytes) × IsJson bytes (view script.json) × IsScript script
ReadsScript bytes (Err refusal) =
    ((refusal ≡ TooLarge) × (most_bytes < length bytes)) ⊎
    ((length bytes ≤ most_bytes) × (IsNoJson bytes refusal ⊎ ((value : Data) × IsJson bytes value × RefusesScript value refusal)))
