use Rattle.std.proofs.Common.{◌∙◌}
use Rattle.serde_json.specs.View.{view}
use Rattle.mr_scripts.proofs.SetupLemmas.{parts_playable}
use Rattle.mr_scripts.proofs.script.read_parts.Goals as goal

pub returns-in_ok-make-in-Ok-clause-playable : goal.returns-in_ok-make-in-Ok-clause-playable
returns-in_ok-make-in-Ok-clause-playable c =
    let made = c.in_ok-make-in-Ok.field-0 in
    parts_playable c.configurations_match.ensures (view c.args.value.now) (record { format = made.0; setup = made.1; events = made.2.items }) (c.in-Ok.ensures.parts ∙ c.in_ok-make-in-Ok.ensures)
