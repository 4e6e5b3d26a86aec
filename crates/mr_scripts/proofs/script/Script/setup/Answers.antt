use Rattle.mr_scripts.proofs.SetupLemmas.{script_playable}
use Rattle.mr_scripts.proofs.script.Script.setup.Goals as goal

pub returns-clause-playable : goal.returns-clause-playable
returns-clause-playable c =
    let script = c.self.inside in
    script_playable c.configurations_match.ensures (record { format = script.format; setup = script.setup; events = script.events.items; json = script.json }) c.self.invariant
