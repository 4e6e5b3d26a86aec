use Rattle.std.proofs.Common.{◌≡◌, ◌+◌, [], true, false, take, drop, Ok, Err, refl, sym, ◌∙◌, ap, subst}
use Rattle.mr_text.specs.Stream.{ReaderView}
use Rattle.mr_text.specs.Requests.{is_quit}
use Rattle.mr_text.specs.steps.RequestNext.{IsNextRequest}
use Rattle.mr_text.specs.steps.StreamView.{reader_of, with_given}
use Rattle.mr_text.specs.declared.error.TextError.TheVariants.{OutOfMemory}
use Rattle.mr_text.specs.declared.request.Request.TheVariants.{Set}
use Rattle.mr_text.proofs.NextRequests.{block_lacks, block_gives, block_awaited, block_refused, given_is}
use Rattle.mr_text.proofs.reading.request_reader.RequestReader.next_block.Goals as goal

pub returns-in_default-key : goal.returns-in_default-key
returns-in_default-key c =
    let whole : c.has_block.result ≡ Ok true = cc in
    block_lacks c.args.self.now c.self.inside.stream c.in-Some.set c.self.inside.begun c.as_slice-bytes.result.now c.block_length-block_length.result c.requires.going_on
    c.self.view_is c.in-Some.is c.self.invariant c.as_slice-bytes.ensures c.block_length-block_length.ensures.length (sym c.has_block.ensures.reading ∙ whole)

pub returns-in_default-read_block : goal.returns-in_default-read_block
returns-in_default-read_block c =
    let whole : c.has_block.result ≡ Ok true = cc in
    let still = ap reader_of c.in_default-read_block.ensures.same ∙ c.self.view_is in
    subst (λ now. IsNextRequest c.args.self.now now (Err OutOfMemory)) (sym still)
    (block_lacks c.args.self.now c.self.inside.stream c.in-Some.set c.self.inside.begun c.as_slice-bytes.result.now c.block_length-block_length.result c.requires.going_on
    c.self.view_is c.in-Some.is c.self.invariant c.as_slice-bytes.ensures c.block_length-block_length.ensures.length (sym c.has_block.ensures.reading ∙ whole))

pub returns-in-Ok-read_block : goal.returns-in-Ok-read_block
returns-in-Ok-read_block c =
    let whole : c.has_block.result ≡ Ok true = cc in
    let set = c.in-Some.set in
    let size = c.block_length-block_length.result in
    let block = c.in-Ok-read_block.ensures.block ∙ ap (take size) (sym c.as_slice-bytes.ensures) in
    let asked : c.with-request.result ≡ Set set.key set.flags set.exptime (take size c.as_slice-bytes.result.now) set.noreply =
    c.with-request.ensures ∙ ap (λ b. Set set.key set.flags set.exptime b set.noreply) block in
    let goes_on : c.self.inside.stream.closed ≡ is_quit c.with-request.result =
    ap (λ v. v.closed) c.self.view_is ∙ c.requires.going_on ∙ sym (ap is_quit asked) in
    let left : c.give.new.self ≡ record { front = []; unread = drop (size + 2) c.self.inside.stream.unread; ended = c.self.inside.stream.ended; closed = c.self.inside.stream.closed } =
    c.give.ensures ∙ ap (with_given 0) c.in-Ok-read_block.ensures.read in
    block_gives c.args.self.now c.self.inside.stream c.in-Some.set c.self.inside.begun c.as_slice-bytes.result.now c.block_length-block_length.result c.requires.going_on
    c.self.view_is c.in-Some.is c.self.invariant c.as_slice-bytes.ensures c.block_length-block_length.ensures.length
    (reader_of c.give.new.self) c.with-request.result c.with-request.result (sym c.has_block.ensures.reading ∙ whole) asked refl
    (ap reader_of left ∙ given_is c.args.self.now c.self.inside.stream (size + 2) c.self.inside.stream.closed c.self.view_is
    ∙ ap (λ b. record { kept = drop (c.args.self.now.begun + (size + 2)) c.args.self.now.kept; begun = 0; ended = c.args.self.now.ended; closed = b }) goes_on)

pub returns-in-Ok-false : goal.returns-in-Ok-false
returns-in-Ok-false c =
    let part : c.has_block.result ≡ Ok false = cc in
    block_awaited c.args.self.now c.self.inside.stream c.in-Some.set c.self.inside.begun c.as_slice-bytes.result.now c.block_length-block_length.result c.requires.going_on
    c.self.view_is c.in-Some.is c.self.invariant c.as_slice-bytes.ensures c.block_length-block_length.ensures.length
    c.wait.new.self c.wait.result (sym c.has_block.ensures.reading ∙ part) c.wait.ensures

pub returns-in-Err : goal.returns-in-Err
returns-in-Err c =
    block_refused c.args.self.now c.self.inside.stream c.in-Some.set c.self.inside.begun c.as_slice-bytes.result.now c.block_length-block_length.result c.requires.going_on
    c.self.view_is c.in-Some.is c.self.invariant c.as_slice-bytes.ensures c.block_length-block_length.ensures.length
    (reader_of c.close.new.self) c.in-Err.refusal (sym c.has_block.ensures.reading ∙ c.in-Err.is)
    (ap reader_of c.close.ensures ∙ ap (λ (v : ReaderView). record v { closed = true }) c.self.view_is)
