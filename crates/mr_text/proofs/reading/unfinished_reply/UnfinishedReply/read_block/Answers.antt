use Rattle.std.proofs.Common.{rules, ◌≡◌, ◌+◌, ◌∷◌, [], ◌++◌, take, true, false, None, Ok, Err, refl, sym, ◌∙◌, ap, subst}
use Rattle.std.proofs.lemmas.Result.{err_from_is_err_and}
use Rattle.mr_text.specs.steps.Reading.{block_reading}
use Rattle.mr_text.specs.steps.ReplyProgress.{TakesStep}
use Rattle.mr_text.specs.steps.StreamView.{with_read}
use Rattle.mr_text.specs.declared.item.Item.{Item}
use Rattle.mr_text.specs.declared.reading.unfinished_reply.UnfinishedReply.{UnfinishedReply}
use Rattle.mr_text.proofs.UnfinishedReplies.{along, block_lacks, block_takes, block_stays, block_never}
use Rattle.mr_text.proofs.reading.unfinished_reply.UnfinishedReply.read_block.Goals as goal

pub returns-in_err-reserve-in-Ok-true : goal.returns-in_err-reserve-in-Ok-true
returns-in_err-reserve-in-Ok-true c =
    let old = c.args.self.now in
    let e = along (λ n s. block_reading n s ≡ Ok true) c.block_length-block_length.result c.in-Some.said.block_length c.as_slice-bytes.result.now old.stream.unread
    c.block_length-block_length.ensures.length c.as_slice-bytes.ensures (sym c.in-Ok-true.ensures.reading ∙ ap Ok c.in-Ok-true.field-0-test) in
    let p = err_from_is_err_and c.from_residual.result c.from_residual.ensures.1 in
    let new : UnfinishedReply = record { stream = old.stream; said = old.said; items = c.reserve.new.self } in
    subst (TakesStep old new) (sym p.1) (block_lacks old c.in-Some.said c.requires.progress c.in-Some.is e new refl refl c.reserve.ensures.items p.0)

pub returns-in_err-key-in-Ok-true : goal.returns-in_err-key-in-Ok-true
returns-in_err-key-in-Ok-true c =
    let old = c.args.self.now in
    let e = along (λ n s. block_reading n s ≡ Ok true) c.block_length-block_length.result c.in-Some.said.block_length c.as_slice-bytes.result.now old.stream.unread
    c.block_length-block_length.ensures.length c.as_slice-bytes.ensures (sym c.in-Ok-true.ensures.reading ∙ ap Ok c.in-Ok-true.field-0-test) in
    let p = err_from_is_err_and c.from_residual-in_err-key-in-Ok-true.result c.from_residual-in_err-key-in-Ok-true.ensures.1 in
    let new : UnfinishedReply = record { stream = old.stream; said = old.said; items = c.reserve.new.self } in
    subst (TakesStep old new) (sym p.1) (block_lacks old c.in-Some.said c.requires.progress c.in-Some.is e new refl refl c.reserve.ensures.items p.0)

pub returns-in_err-block-in-Ok-true : goal.returns-in_err-block-in-Ok-true
returns-in_err-block-in-Ok-true c =
    let old = c.args.self.now in
    let e = along (λ n s. block_reading n s ≡ Ok true) c.block_length-block_length.result c.in-Some.said.block_length c.as_slice-bytes.result.now old.stream.unread
    c.block_length-block_length.ensures.length c.as_slice-bytes.ensures (sym c.in-Ok-true.ensures.reading ∙ ap Ok c.in-Ok-true.field-0-test) in
    let p = err_from_is_err_and c.from_residual-in_err-block-in-Ok-true.result c.from_residual-in_err-block-in-Ok-true.ensures.1 in
    let new : UnfinishedReply = record { stream = c.read_block.new.self; said = old.said; items = c.reserve.new.self } in
    subst (TakesStep old new) (sym p.1) (block_lacks old c.in-Some.said c.requires.progress c.in-Some.is e new c.in_err-block-in-Ok-true.ensures.same refl c.reserve.ensures.items p.0)

pub unreachable-requires-in-Err : goal.unreachable-requires-in-Err
unreachable-requires-in-Err c =
    let old = c.args.self.now in
    let e = along (λ n s. block_reading n s ≡ Err c.in-Err.field-0) c.block_length-block_length.result c.in-Some.said.block_length c.as_slice-bytes.result.now old.stream.unread
    c.block_length-block_length.ensures.length c.as_slice-bytes.ensures (sym c.in-Err.ensures.reading) in
    block_never old c.in-Some.said c.requires.progress c.in-Some.is c.in-Err.field-0 e c.requires.readable

pub returns-in-Ok : goal.returns-in-Ok
returns-in-Ok c =
    let old = c.args.self.now in
    let said = c.in-Some.said in
    let l = c.block_length-block_length.ensures.length in
    let e = along (λ n s. block_reading n s ≡ Ok true) c.block_length-block_length.result said.block_length c.as_slice-bytes.result.now old.stream.unread
    c.block_length-block_length.ensures.length c.as_slice-bytes.ensures (sym c.in-Ok-true.ensures.reading ∙ ap Ok c.in-Ok-true.field-0-test) in
    let new : UnfinishedReply = record { stream = c.read_block.new.self; said = None; items = c.push.new.self } in
    let block : c.in_ok-block-in-Ok-true.block ≡ take said.block_length old.stream.unread =
    c.in_ok-block-in-Ok-true.ensures.block ∙ ap (λ n. take n old.stream.unread) l in
    let made : Item = record { key = c.in_ok-key-in-Ok-true.key; flags = c.flags-flags.result; block = c.in_ok-block-in-Ok-true.block } in
    let said_item : Item = record { key = said.key; flags = said.flags; block = take said.block_length old.stream.unread } in
    let item : made ≡ said_item = search rules in
    block_takes old said c.requires.progress c.in-Some.is e new (c.in_ok-block-in-Ok-true.ensures.read ∙ ap (λ n. with_read (n + 2) old.stream) l) refl
    (c.in-Ok.ensures.items ∙ ap (λ items. items ++ made ∷ []) c.reserve.ensures.items ∙ ap (λ (x : Item). old.items.items ++ x ∷ []) item)

pub returns-in-Ok-false : goal.returns-in-Ok-false
returns-in-Ok-false c =
    let old = c.args.self.now in
    let e = along (λ n s. block_reading n s ≡ Ok false) c.block_length-block_length.result c.in-Some.said.block_length c.as_slice-bytes.result.now old.stream.unread
    c.block_length-block_length.ensures.length c.as_slice-bytes.ensures (sym c.in-Ok-false.ensures.reading ∙ ap Ok c.in-Ok-false.field-0-test) in
    block_stays old c.in-Some.said c.requires.progress c.in-Some.is e
