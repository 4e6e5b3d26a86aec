use Rattle.mr_watch.proofs.LineLemmas.{no_line, first_line}
use Rattle.mr_watch.proofs.lines.next_line.Goals as goal

pub returns-in-Some-clause-lines : goal.returns-in-Some-clause-lines
returns-in-Some-clause-lines c = first_line c.args.bytes.now c.place_of_byte.result c.in-Some.end c.place_of_byte.ensures.place c.in-Some.is

pub returns-in-None-clause-lines : goal.returns-in-None-clause-lines
returns-in-None-clause-lines c = no_line c.args.bytes.now c.place_of_byte.result c.place_of_byte.ensures.place c.in-None.is
