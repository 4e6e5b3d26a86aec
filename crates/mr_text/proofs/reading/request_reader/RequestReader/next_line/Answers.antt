use Rattle.std.proofs.Common.{rules, ◌≡◌, Ok, Option, Some, take, refl, sym, ◌∙◌, ap, subst}
use Rattle.std.proofs.lemmas.Int.{to_z-of_z}
use mir.Syntax.{w64}
use mir.Val.{SFits}
use Rattle.mr_text.specs.steps.BegunSet.{SetWords, IsBegun}
use Rattle.mr_text.specs.steps.StreamView.{reader_of}
use Rattle.mr_text.specs.steps.RequestView.{FindsRequest, said_request}
use Rattle.mr_text.proofs.NextRequests.{line_lacks, line_gives, line_awaited, line_refused, line_begun, block_begun, read_front, read_is}
use Rattle.mr_text.proofs.reading.request_reader.RequestReader.next_line.Goals as goal

pub returns-in_default : goal.returns-in_default
returns-in_default c =
    let view : reader_of c.line_end-line_end.new.self ≡ c.args.self.now = ap reader_of c.line_end-line_end.ensures.same ∙ c.self.view_is in
    let there = subst (λ o. FindsRequest c.as_slice.result.now (Ok o)) c.in-Ok-Whole.field-0-is c.in-Ok-Whole.ensures in
    line_lacks c.args.self.now c.line_end-line_end.new.self c.as_slice.result.now c.requires.going_on c.requires.nothing view c.as_slice.ensures
    (said_request c.in-Ok-Whole.found) c.in-Ok-Whole.found.length there.0

pub invariant_of-self-in-Ok-Begun : goal.invariant_of-self-in-Ok-Begun
invariant_of-self-in-Ok-Begun c =
    let view : reader_of c.line_end-line_end.new.self ≡ c.args.self.now = ap reader_of c.line_end-line_end.ensures.same ∙ c.self.view_is in
    let there = subst (λ o. FindsRequest c.as_slice.result.now (Ok o)) c.in-Ok-Begun.field-0-is c.in-Ok-Begun.ensures in
    let fits : SFits w64 c.in-Ok-Begun.exptime = search rules in
    let set : SetWords = record { key = c.in-Ok-Begun.key.now; flags = c.in-Ok-Begun.flags; exptime = c.in-Ok-Begun.exptime; block_length = c.in-Ok-Begun.block_length; noreply = c.in-Ok-Begun.noreply } in
    let words : c.keep_words.new.begun ≡ Some set =
    c.keep_words.ensures ∙ ap {B = Option SetWords} (λ e. Some (record { key = c.in-Ok-Begun.key.now; flags = c.in-Ok-Begun.flags; exptime = e; block_length = c.in-Ok-Begun.block_length; noreply = c.in-Ok-Begun.noreply })) (to_z-of_z w64 c.in-Ok-Begun.exptime fits) in
    let line = line_begun c.args.self.now c.line_end-line_end.new.self c.as_slice.result.now c.requires.going_on c.requires.nothing view c.as_slice.ensures
    set c.in-Ok-Begun.key.now c.in-Ok-Begun.flags c.in-Ok-Begun.exptime c.in-Ok-Begun.block_length c.in-Ok-Begun.noreply c.in-Ok-Begun.line_length refl
    there.0 there.1 there.2 there.3 there.4 there.6 in
    let front : c.await_block.new.self.front ≡ take c.in-Ok-Begun.line_length (reader_of c.line_end-line_end.new.self).kept =
    ap (λ s. s.front) (c.await_block.ensures ∙ c.read.ensures)
    ∙ read_front c.args.self.now c.line_end-line_end.new.self c.as_slice.result.now c.requires.going_on c.requires.nothing view c.as_slice.ensures c.in-Ok-Begun.line_length in
    subst (λ f. IsBegun c.keep_words.new.begun f) (sym front)
    (subst (λ b. IsBegun b (take c.in-Ok-Begun.line_length (reader_of c.line_end-line_end.new.self).kept)) (sym words) line)

pub returns-in-Ok : goal.returns-in-Ok
returns-in-Ok c =
    let view : reader_of c.line_end-line_end.new.self ≡ c.args.self.now = ap reader_of c.line_end-line_end.ensures.same ∙ c.self.view_is in
    let there = subst (λ o. FindsRequest c.as_slice.result.now (Ok o)) c.in-Ok-Whole.field-0-is c.in-Ok-Whole.ensures in
    line_gives c.args.self.now c.line_end-line_end.new.self c.as_slice.result.now c.requires.going_on c.requires.nothing view c.as_slice.ensures
    c.give.new.self c.give.result c.in-Ok.request (said_request c.in-Ok-Whole.found) c.in-Ok-Whole.found.length there.0 c.in-Ok.ensures c.give.ensures.request c.give.ensures.reader

pub returns-in-Ok-Begun : goal.returns-in-Ok-Begun
returns-in-Ok-Begun c =
    let view : reader_of c.line_end-line_end.new.self ≡ c.args.self.now = ap reader_of c.line_end-line_end.ensures.same ∙ c.self.view_is in
    let there = subst (λ o. FindsRequest c.as_slice.result.now (Ok o)) c.in-Ok-Begun.field-0-is c.in-Ok-Begun.ensures in
    let set : SetWords = record { key = c.in-Ok-Begun.key.now; flags = c.in-Ok-Begun.flags; exptime = c.in-Ok-Begun.exptime; block_length = c.in-Ok-Begun.block_length; noreply = c.in-Ok-Begun.noreply } in
    let now : reader_of c.await_block.new.self ≡ record (reader_of c.line_end-line_end.new.self) { begun = c.in-Ok-Begun.line_length } =
    ap reader_of (c.await_block.ensures ∙ c.read.ensures)
    ∙ read_is c.args.self.now c.line_end-line_end.new.self c.as_slice.result.now c.requires.going_on c.requires.nothing view c.as_slice.ensures c.in-Ok-Begun.line_length there.4 in
    block_begun c.args.self.now c.line_end-line_end.new.self c.as_slice.result.now c.requires.going_on c.requires.nothing view c.as_slice.ensures
    set c.in-Ok-Begun.key.now c.in-Ok-Begun.flags c.in-Ok-Begun.exptime c.in-Ok-Begun.block_length c.in-Ok-Begun.noreply c.in-Ok-Begun.line_length refl
    there.0 there.1 there.2 there.3 there.4 there.6 (reader_of c.await_block.new.self) c.wait.new.self c.wait.result now c.wait.ensures

pub returns-in-Ok-Nothing : goal.returns-in-Ok-Nothing
returns-in-Ok-Nothing c =
    let view : reader_of c.line_end-line_end.new.self ≡ c.args.self.now = ap reader_of c.line_end-line_end.ensures.same ∙ c.self.view_is in
    let there = subst (λ o. FindsRequest c.as_slice.result.now (Ok o)) c.in-Ok-Nothing.field-0-is c.in-Ok-Nothing.ensures in
    line_awaited c.args.self.now c.line_end-line_end.new.self c.as_slice.result.now c.requires.going_on c.requires.nothing view c.as_slice.ensures
    c.wait-in-Ok-Nothing.new.self c.wait-in-Ok-Nothing.result there c.wait-in-Ok-Nothing.ensures

pub returns-in-Err : goal.returns-in-Err
returns-in-Err c =
    let view : reader_of c.line_end-line_end.new.self ≡ c.args.self.now = ap reader_of c.line_end-line_end.ensures.same ∙ c.self.view_is in
    line_refused c.args.self.now c.line_end-line_end.new.self c.as_slice.result.now c.requires.going_on c.requires.nothing view c.as_slice.ensures
    c.refuse.new.self c.refuse.result c.in-Err.refused.refusal c.in-Err.refused.length c.in-Err.ensures.0 c.refuse.ensures.refusal c.refuse.ensures.reader
