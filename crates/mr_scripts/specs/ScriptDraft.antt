-- A script that was looked at whole, and is yet to be made.
use Rattle.std.specs.Prelude.{List, length, map, IsOk, Result, Ok}
use Rattle.serde_json.specs.Data.{Data}
use Rattle.serde_json.specs.View.{view}
use Rattle.mr_world.specs.Setup.{SetupView}
use Rattle.mr_shown.specs.declared.format.Format.{Format}
use Rattle.mr_configs.specs.Checking.{◌>>=◌}
use Rattle.mr_scripts.specs.Events.{events_of}
use Rattle.mr_configs.specs.Fields.{list_of}
use Rattle.mr_scripts.specs.Script.{ScriptParts, count_in, counts_check}
use Rattle.mr_scripts.specs.SetupDraft.{setup_drafted, IsSetupReady}
use Rattle.mr_configs.specs.declared.error.PlanError.{PlanError}
use Rattle.mr_scripts.specs.declared.script.ScriptDraft.{ScriptDraft}

-- what comes of a setup and of the value of the events
abbrev pub script_between : Format → Result SetupView PlanError → Data → Result ScriptParts PlanError
script_between format setup events =
    setup >>= λ setup.
    counts_check (length setup.held) (length setup.proxies) (count_in events) >>= λ _.
    list_of events >>= events_of format 0 >>= λ events.
    Ok (record { format = format; setup = setup; events = events })

-- what comes of a setup and of the values of the events, once they were counted
abbrev pub parts_between : Format → Result SetupView PlanError → List Data → Result ScriptParts PlanError
parts_between format setup events =
    events_of format 0 events >>= λ events.
    setup >>= λ setup.
    Ok (record { format = format; setup = setup; events = events })

-- what it becomes
abbrev pub parts_drafted : ScriptDraft → Result ScriptParts PlanError
parts_drafted draft = parts_between draft.format (setup_drafted draft.format draft.setup) (map view draft.events.now)

-- nothing but want of memory keeps it from being made
pub record IsScriptReady (draft : ScriptDraft) : Type 0 where
  pub setup : IsSetupReady draft.format draft.setup
  pub events : IsOk (events_of draft.format 0 (map view draft.events.now))
