use Rattle.mr_text.proofs.Fitting.{good_result}
use Rattle.mr_text.proofs.reading.commands.command_of.Goals as goal

pub returns-clause-good : goal.returns-clause-good
returns-clause-good c = good_result c.args.line.now c.read_command.result c.read_command.ensures c.requires
