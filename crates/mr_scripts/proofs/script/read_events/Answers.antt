use Rattle.std.proofs.Common.{◌≡◌, ◌∙◌, ◌≤◌, length, rules, Ok}
use Rattle.serde_json.specs.View.{view}
use Rattle.mr_scripts.specs.Limits.{most_bytes}
use Rattle.mr_scripts.specs.Script.{ScriptParts, script_of}
use Rattle.mr_scripts.proofs.ScriptLemmas.{lacks_memory}
use Rattle.mr_scripts.proofs.WholeLemmas.{read_whole}
use Rattle.mr_scripts.proofs.script.read_events.Goals as goal

pub invariant_of-result : goal.invariant_of-result
invariant_of-result c =
    let made = c.in_ok-format-in-Ok in
    let parts : ScriptParts = record { format = made.format; setup = made.setup; events = made.events.items } in
    let says : script_of (view c.in_ok-json.json) ≡ Ok parts = c.in-Ok.ensures.parts ∙ made.ensures in
    record { says = says; whole = read_whole c.args.bytes.now (view c.in_ok-json.json) parts c.in_ok-json.ensures.value says }

pub returns : goal.returns
returns c =
    let made = c.in_ok-format-in-Ok in
    let parts : ScriptParts = record { format = made.format; setup = made.setup; events = made.events.items } in
    let says : script_of (view c.in_ok-json.json) ≡ Ok parts = c.in-Ok.ensures.parts ∙ made.ensures in
    let fits : length c.args.bytes.now ≤ most_bytes = search rules in
    (fits, c.in_ok-json.ensures.value, record { says = says; whole = read_whole c.args.bytes.now (view c.in_ok-json.json) parts c.in_ok-json.ensures.value says })

pub returns-in_err-format-in-Ok : goal.returns-in_err-format-in-Ok
returns-in_err-format-in-Ok c =
    let few : length c.args.bytes.now ≤ most_bytes = search rules in
    lacks_memory c.args.bytes.now c.in_ok-json.json c.in-Ok.draft c.from_residual-in_err-format-in-Ok.result few c.in_ok-json.ensures.value
    c.in-Ok.ensures.parts c.in-Ok.ensures.ready c.from_residual-in_err-format-in-Ok.ensures.1
