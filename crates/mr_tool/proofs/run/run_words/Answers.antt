use Rattle.std.proofs.Common.{map}
use Rattle.mr_tool.proofs.WholeRun.{whole_run}
use Rattle.mr_tool.specs.Devices.{machine}
use Rattle.mr_tool.proofs.run.run_words.Goals as goal

pub returns : goal.returns
returns g c =
    let before = machine (g.S.Sources.told c.args.sources.now) (g.I.Source.told c.args.input.now) (g.O.Sink.told c.args.output.now) (g.F.Sink.told c.args.faults.now)
    c.args.servers.now in
    let after = machine (g.S.Sources.told c.run_wanted.new.sources) (g.I.Source.told c.run_wanted.new.input) (g.O.Sink.told c.run_wanted.new.output)
    (g.F.Sink.told c.run_wanted.new.faults) c.run_wanted.new.servers in
    whole_run (map (λ word. word.now) c.args.words.now) before after c.run_wanted.result c.run_wanted.ensures
