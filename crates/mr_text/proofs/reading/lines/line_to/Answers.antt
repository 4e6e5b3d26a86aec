use Rattle.std.proofs.Common.{take, sym, ◌∙◌, subst}
use Rattle.mr_text.specs.Line.{HasLineFeed}
use Rattle.mr_lines.proofs.ByteLemmas.{place_splits, place_none}
use Rattle.mr_text.proofs.OneLine.{cut_one_line}
use Rattle.mr_text.proofs.reading.lines.line_to.Goals as goal

pub returns-clause-one_line : goal.returns-clause-one_line
returns-clause-one_line c =
    let at = place_splits 10 c.args.bytes.now c.in-Some.place (sym c.requires.end ∙ c.in-Some.is) in
    subst (λ s. ¬ HasLineFeed s) (sym c.without_carriage_return-line.ensures) (cut_one_line (take c.in-Some.place c.args.bytes.now) (place_none 10 (take c.in-Some.place c.args.bytes.now) at.before))
