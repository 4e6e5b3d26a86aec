use Rattle.std.proofs.Common.{sym, ap}
use Rattle.mr_loop.specs.Turns.{text_of_turn}
use Rattle.mr_loop.proofs.FlushLemmas.{waits, nothing}
use Rattle.mr_loop.proofs.client.Client.tell_first.Goals as goal

pub returns-in_default-clause-none : goal.returns-in_default-clause-none
returns-in_default-clause-none c = λ e. nothing c.args.self.now (sym c.in_default.ensures)

pub returns-in-Waits-clause-none : goal.returns-in-Waits-clause-none
returns-in-Waits-clause-none c = λ e. waits c.args.self.now c.in-Some.turn.now (sym c.in-Some.ensures) (ap text_of_turn c.in-Waits.is)
