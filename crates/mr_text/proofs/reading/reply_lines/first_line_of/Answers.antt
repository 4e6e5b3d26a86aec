use Rattle.std.proofs.Common.{sym, ◌∙◌, subst}
use Rattle.mr_lines.specs.Words.{words_of}
use Rattle.mr_text.specs.steps.ReplyView.{IsReplyLine}
use Rattle.mr_text.proofs.ReplyFirst.{value_line, client_error_line, server_error_line, unknown_line}
use Rattle.mr_text.proofs.reading.reply_lines.first_line_of.Goals as goal

pub returns-then-is_text-clause-line : goal.returns-then-is_text-clause-line
returns-then-is_text-clause-line c =
    let line = c.args.line.now in
    subst (λ l. IsReplyLine l c.item.result)
    (sym (value_line line (words_of line) c.in-Some.word.now (words_of c.in-Some.rest.now) c.in-Some.ensures.words (sym c.is_text.ensures ∙ c.if-is_text.true))) c.item.ensures.line

pub returns-then-is_text-2-clause-line : goal.returns-then-is_text-2-clause-line
returns-then-is_text-2-clause-line c =
    let line = c.args.line.now in
    client_error_line line (words_of line) c.in-Some.word.now (words_of c.in-Some.rest.now) c.in-Some.ensures.words
    c.in-Some.rest.now c.error_text.result.now (sym c.is_text-2.ensures ∙ c.if-is_text-2.true) c.in-Some.ensures.behind c.error_text.ensures.text

pub returns-then-is_text-3-clause-line : goal.returns-then-is_text-3-clause-line
returns-then-is_text-3-clause-line c =
    let line = c.args.line.now in
    server_error_line line (words_of line) c.in-Some.word.now (words_of c.in-Some.rest.now) c.in-Some.ensures.words
    c.in-Some.rest.now c.error_text-then-is_text-3.result.now (sym c.is_text-3.ensures ∙ c.if-is_text-3.true) c.in-Some.ensures.behind c.error_text-then-is_text-3.ensures.text

pub returns-in-None-clause-line : goal.returns-in-None-clause-line
returns-in-None-clause-line c =
    let line = c.args.line.now in
    unknown_line line (words_of line) c.in-Some.word.now (words_of c.in-Some.rest.now) c.in-Some.ensures.words
    (sym c.is_text.ensures ∙ c.if-is_text.false) (sym c.is_text-2.ensures ∙ c.if-is_text-2.false) (sym c.is_text-3.ensures ∙ c.if-is_text-3.false) c.in-None.ensures.line
