use Rattle.std.proofs.Common.{◌∙◌, length, None, refl, ap}
use Rattle.mr_probes.proofs.StampLemmas.{length-stamp_text, none_read, parts_of, read_so, unread}
use Rattle.mr_probes.proofs.stamp.read_stamp.Goals as goal

pub returns-then-text-ne-LENGTH : goal.returns-then-text-ne-LENGTH
returns-then-text-ne-LENGTH c stamp ok =
    unread c.args.text.now stamp None refl (λ same. c.if-text-ne-LENGTH.true (ap length same ∙ length-stamp_text stamp))

pub returns-in_err-read_word : goal.returns-in_err-read_word
returns-in_err-read_word c stamp ok = unread c.args.text.now stamp c.from_residual.result c.from_residual.ensures
    (λ same. none_read stamp.run ((c.in_err-read_word.ensures stamp.run ok.run).1 (parts_of c.args.text.now stamp same).run))

pub returns-in_err-read_word-2 : goal.returns-in_err-read_word-2
returns-in_err-read_word-2 c stamp ok = unread c.args.text.now stamp c.from_residual-in_err-read_word-2.result c.from_residual-in_err-read_word-2.ensures
    (λ same. none_read stamp.key ((c.in_err-read_word-2.ensures stamp.key ok.key).1 (parts_of c.args.text.now stamp same).key))

pub returns-in_err-read_word-3 : goal.returns-in_err-read_word-3
returns-in_err-read_word-3 c stamp ok = unread c.args.text.now stamp c.from_residual-in_err-read_word-3.result c.from_residual-in_err-read_word-3.ensures
    (λ same. none_read stamp.value ((c.in_err-read_word-3.ensures stamp.value ok.value).1 (parts_of c.args.text.now stamp same).value))

pub returns-in_err-read_word-4 : goal.returns-in_err-read_word-4
returns-in_err-read_word-4 c stamp ok = unread c.args.text.now stamp c.from_residual-in_err-read_word-4.result c.from_residual-in_err-read_word-4.ensures
    (λ same. none_read stamp.client ((c.in_err-read_word-4.ensures stamp.client ok.client).1 (parts_of c.args.text.now stamp same).client))

pub returns-in_err-read_number : goal.returns-in_err-read_number
returns-in_err-read_number c stamp ok = unread c.args.text.now stamp c.from_residual-in_err-read_number.result c.from_residual-in_err-read_number.ensures
    (λ same. none_read stamp.time ((c.in_err-read_number.ensures stamp.time ok.time).1 (parts_of c.args.text.now stamp same).time))

pub returns : goal.returns
returns c stamp ok = read_so c.args.text.now stamp c.in_ok-read_word.field-0 c.in_ok-read_word-2.field-0 c.in_ok-read_word-3.field-0 c.in_ok-read_word-4.field-0 c.in_ok-read_number.field-0
    (c.in_ok-read_word.ensures stamp.run ok.run) (c.in_ok-read_word-2.ensures stamp.key ok.key) (c.in_ok-read_word-3.ensures stamp.value ok.value)
    (c.in_ok-read_word-4.ensures stamp.client ok.client) (c.in_ok-read_number.ensures stamp.time ok.time)
