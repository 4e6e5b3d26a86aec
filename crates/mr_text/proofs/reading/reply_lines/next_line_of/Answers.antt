use Rattle.mr_lines.specs.Words.{words_of}
use Rattle.mr_text.proofs.ReplyLines.{good_next}
use Rattle.mr_text.proofs.reading.reply_lines.next_line_of.Goals as goal

pub returns-clause-good : goal.returns-clause-good
returns-clause-good c = good_next c.args.room (words_of c.args.line.now) c.next_said.result c.next_said.ensures
