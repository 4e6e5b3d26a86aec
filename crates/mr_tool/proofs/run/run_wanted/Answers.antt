use Rattle.std.proofs.Common.{inl, inr, refl}
use Rattle.mr_tool.proofs.RunLemmas.{command_run}
use Rattle.mr_tool.proofs.run.run_wanted.Goals as goal

pub returns-in-Ok : goal.returns-in-Ok
returns-in-Ok g c =
    inl (command_run _ c.in-Ok.wanted _ _ _ _ _ _ _ c.in-Ok.ensures.exactly (c.give.ensures (g.F.Sink.told c.args.faults.now)) refl
    (c.finish.ensures (g.S.Sources.told c.give.new.sources) (g.I.Source.told c.give.new.input) (g.O.Sink.told c.give.new.output)))

pub returns-in-Err : goal.returns-in-Err
returns-in-Err g c =
    inr (c.tell_no_command.ensures _ (g.S.Sources.told c.args.sources.now) (g.I.Source.told c.args.input.now) c.in-Err.ensures.exactly, refl)
