use Rattle.std.proofs.Common.{◌-◌, drop, length, sym, subst, arith, length-drop}
use Rattle.std.proofs.lemmas.List.{take_all}
use Rattle.mr_text.specs.steps.ReplyView.{IsOneLine}
use Rattle.mr_text.proofs.OneLine.{text_one_line}
use Rattle.mr_text.proofs.reading.reply_lines.error_text.Goals as goal

pub returns-in-len1-up-clause-one_line : goal.returns-in-len1-up-clause-one_line
returns-in-len1-up-clause-one_line c =
    let rest = c.args.rest.now in
    let size = length-drop 1 rest in
    subst IsOneLine (sym (take_all (length rest - 1) (drop 1 rest) (omega arith)))
    (text_one_line c.args.line.now rest c.args.word_length c.requires.word c.requires.behind c.requires.one_line c.requires.not_long)
