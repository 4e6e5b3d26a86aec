use Rattle.std.proofs.Common.{◌∙◌, sym}
use Rattle.mr_drawing.proofs.TitleLemmas.{text_of_map}
use Rattle.mr_drawing.proofs.over.title_at.Goals as goal

pub returns : goal.returns
returns c = c.bytes_at.ensures ∙ sym (text_of_map c.args.titles.now c.args.column)
