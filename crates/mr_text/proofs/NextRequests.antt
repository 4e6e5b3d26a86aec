-- What the reader of requests answers and leaves at each end of its two ways: with a line before it, and with a block.
use Rattle.std.proofs.Common.{◌≡◌, ℕ, ◌+◌, ◌≤◌, Bool, true, false, List, [], ◌++◌, length, take, drop, Option, Some, Result, Ok, Err, refl, sym, ◌∙◌, ap, subst, arith, cond, ℤ}
use Rattle.std.proofs.Math.Seq.{drop-append_seam}
use Rattle.std.proofs.lemmas.List.{append_assoc, nil_from_length, drop-drop, take-append-drop, length-take-le}
use Rattle.mr_lines.specs.Words.{words_of}
use Rattle.mr_text.specs.Limits.{MAX_BLOCK}
use Rattle.mr_text.specs.Requests.{IsSetLine, HasReadLine, is_quit}
use Rattle.mr_text.specs.Stream.{ReaderView, HoldsFew, skips_line}
use Rattle.mr_text.specs.steps.BegunSet.{SetWords, IsBegun}
use Rattle.mr_text.specs.steps.RequestNext.{IsNextRequest}
use Rattle.mr_text.specs.steps.StreamView.{StreamView, reader_of, with_read}
use Rattle.mr_text.specs.steps.Waiting.{WaitIs}
use Rattle.mr_text.specs.steps.Reading.{line_reading, command_line, block_reading, request_reading}
use Rattle.mr_text.specs.steps.Reading.StretchReading.{Waits, Gives, Refused}
use Rattle.mr_text.specs.steps.Reading.CommandLine.{SetLine}
use Rattle.mr_text.specs.declared.error.TextError.{TextError}
use Rattle.mr_text.specs.declared.error.TextError.TheVariants.{OutOfMemory, BadDataEnd}
use Rattle.mr_text.specs.declared.request.Request.{Request}
use Rattle.mr_text.specs.declared.request.Request.TheVariants.{Get, Set, Delete, Quit}
use Rattle.mr_text.proofs.Blocks.{BlockIs, block_is}
use Rattle.mr_text.proofs.BegunSets.{begun_line, begun_unfinished, begun_few, begun_read, begun_gives, begun_waits, begun_refused, nothing_read, nothing_few, nothing_unfinished}
use Rattle.mr_text.proofs.RequestNexts.{request_gives, request_lacks, request_waits, request_refused}

-- a text was given that ends behind so many bytes
pub given_is : (old : ReaderView) (stream : StreamView) (size : ℕ) (last : Bool) → reader_of stream ≡ old
    → reader_of (record { front = []; unread = drop size stream.unread; ended = stream.ended; closed = last })
    ≡ record { kept = drop (old.begun + size) old.kept; begun = 0; ended = old.ended; closed = last }
given_is old stream size last view =
    let seam = drop-append_seam stream.front stream.unread in
    let more : drop size (drop (length stream.front) (stream.front ++ stream.unread)) ≡ drop (length stream.front + size) (stream.front ++ stream.unread) =
    drop-drop size (length stream.front) (stream.front ++ stream.unread) ∙ ap (λ n. drop n (stream.front ++ stream.unread)) (omega arith) in
    let left : drop size stream.unread ≡ drop (length stream.front + size) (stream.front ++ stream.unread) = ap (drop size) (sym seam) ∙ more in
    let whole : reader_of (record { front = []; unread = drop size stream.unread; ended = stream.ended; closed = last })
    ≡ record { kept = drop (length stream.front + size) (stream.front ++ stream.unread); begun = 0; ended = stream.ended; closed = last } =
    ap (λ s. record { kept = s; begun = 0; ended = stream.ended; closed = last }) left in
    whole ∙ ap (λ (v : ReaderView). record { kept = drop (v.begun + size) v.kept; begun = 0; ended = v.ended; closed = last }) view

-- a request that closes nothing
pub not_quit : (request : Request) → (request ≡ Quit → ⊥) → is_quit request ≡ false
not_quit request other = go request other
  where
    go : (r : Request) → (r ≡ Quit → ⊥) → is_quit r ≡ false
    go (Get keys) other = refl
    go (Set key flags exptime block noreply) other = refl
    go (Delete key noreply) other = refl
    go Quit other = absurd (other refl)

-- where nothing was read
module _ (old : ReaderView) (stream : StreamView) (bytes : List ℕ) (still : old.closed ≡ false) (nothing : old.begun ≡ 0) (view : reader_of stream ≡ old) (seen : bytes ≡ stream.unread) where
  kept_is : bytes ≡ old.kept
  kept_is =
      let none : length stream.front ≡ 0 = ap (λ v. v.begun) view ∙ nothing in
      seen ∙ ap (λ f. f ++ stream.unread) (sym (nil_from_length stream.front none)) ∙ ap (λ v. v.kept) view

  front_is : stream.front ≡ []
  front_is = nil_from_length stream.front (ap (λ v. v.begun) view ∙ nothing)

  -- what was read then is what stands first
  pub read_front : (size : ℕ) → (with_read size stream).front ≡ take size (reader_of stream).kept
  read_front size =
      ap (λ f. f ++ take size stream.unread) front_is ∙ sym (ap (λ f. take size (f ++ stream.unread)) front_is)

  pub read_is : (size : ℕ) → size ≤ length bytes → reader_of (with_read size stream) ≡ record (reader_of stream) { begun = size }
  read_is size within =
      let fits : size ≤ length stream.unread = subst (λ b. size ≤ length b) seen within in
      let kept : (stream.front ++ take size stream.unread) ++ drop size stream.unread ≡ stream.front ++ stream.unread =
      append_assoc stream.front (take size stream.unread) (drop size stream.unread) ∙ ap (λ u. stream.front ++ u) (take-append-drop size stream.unread) in
      let begun : length (stream.front ++ take size stream.unread) ≡ size =
      ap (λ f. length (f ++ take size stream.unread)) front_is ∙ length-take-le size stream.unread fits in
      ap {B = ReaderView} (λ k. record { kept = k; begun = length (stream.front ++ take size stream.unread); ended = stream.ended; closed = stream.closed }) kept
      ∙ ap {B = ReaderView} (λ n. record { kept = stream.front ++ stream.unread; begun = n; ended = stream.ended; closed = stream.closed }) begun

  pub line_lacks : (said : Request) (size : ℕ) → request_reading bytes ≡ Gives said size → IsNextRequest old (reader_of stream) (Err OutOfMemory)
  line_lacks said size e = request_lacks old (reader_of stream) still said size (subst (λ s. request_reading s ≡ Gives said size) kept_is e) view

  pub line_gives : (new : ReaderView) (given asked said : Request) (size : ℕ) → request_reading bytes ≡ Gives said size → asked ≡ said → given ≡ asked
      → new ≡ record { kept = drop ((reader_of stream).begun + size) (reader_of stream).kept; begun = 0; ended = (reader_of stream).ended; closed = is_quit asked }
      → IsNextRequest old new (Ok (Some given))
  line_gives new given asked said size e says gives is =
      let behind : old.begun + size ≡ size = omega arith in
      let now : new ≡ record { kept = drop size old.kept; begun = 0; ended = old.ended; closed = is_quit said } =
      is ∙ ap (λ (v : ReaderView). record { kept = drop (v.begun + size) v.kept; begun = 0; ended = v.ended; closed = is_quit asked }) view
      ∙ ap (λ n. record { kept = drop n old.kept; begun = 0; ended = old.ended; closed = is_quit asked }) behind
      ∙ ap (λ q. record { kept = drop size old.kept; begun = 0; ended = old.ended; closed = is_quit q }) says in
      subst (λ q. IsNextRequest old new (Ok (Some q))) (sym (gives ∙ says))
      (request_gives old new still said size (subst (λ s. request_reading s ≡ Gives said size) kept_is e) now)

  pub line_awaited : (new : ReaderView) (result : Result (Option Request) TextError) → line_reading bytes ≡ Waits → WaitIs (reader_of stream) new result → IsNextRequest old new result
  line_awaited new result e h =
      let there : line_reading old.kept ≡ Waits = subst (λ s. line_reading s ≡ Waits) kept_is e in
      request_waits old new still (reader_of stream) result (nothing_unfinished old.kept there) (ap (λ v. v.kept) view) (ap (λ v. v.ended) view) (ap (λ v. v.closed) view)
      (subst (λ (v : ReaderView). HasReadLine old.kept v.begun) (sym view) (nothing_read old nothing there)) (subst HoldsFew (sym view) (nothing_few old nothing there)) h

  pub line_refused : (new : ReaderView) (given refusal : TextError) (size : ℕ) → request_reading bytes ≡ Refused refusal size → given ≡ refusal
      → new ≡ (cond (skips_line refusal) (record (reader_of stream) { kept = drop size (reader_of stream).kept; begun = 0 }) (record (reader_of stream) { closed = true }))
      → IsNextRequest old new (Err given)
  line_refused new given refusal size e same is =
      subst (λ r. IsNextRequest old new (Err r)) (sym same)
      (request_refused old new still refusal size (subst (λ s. request_reading s ≡ Refused refusal size) kept_is e)
      (subst (λ (v : ReaderView). new ≡ (cond (skips_line refusal) (record v { kept = drop size v.kept; begun = 0 }) (record v { closed = true }))) view is))

  module _ (set : SetWords) (key : List ℕ) (flags : ℕ) (exptime : ℤ) (n : ℕ) (noreply : Bool) (size : ℕ)
      (words : set ≡ record { key = key; flags = flags; exptime = exptime; block_length = n; noreply = noreply })
      (line : List ℕ) (reads : line_reading bytes ≡ Gives line size) (says : command_line (words_of line) ≡ Ok (SetLine key flags exptime n noreply))
      (awaited : block_reading n (drop size bytes) ≡ Ok false) (within : size ≤ length bytes) (allowed : n ≤ MAX_BLOCK) where
    pub line_begun : IsBegun (Some set) (take size (reader_of stream).kept)
    line_begun =
        let there : bytes ≡ (reader_of stream).kept = kept_is ∙ ap (λ v. v.kept) (sym view) in
        subst (λ s. IsBegun (Some set) (take size s)) there
        (subst (λ w. IsBegun (Some w) (take size bytes)) (sym words) (begun_line key flags exptime n noreply bytes line size reads says, allowed))

    -- the reader once it has read the line
    pub block_begun : (now new : ReaderView) (result : Result (Option Request) TextError) → now ≡ record (reader_of stream) { begun = size } → WaitIs now new result
        → IsNextRequest old new result
    block_begun now new result is h =
        let kept : now.kept ≡ old.kept = ap (λ v. v.kept) is ∙ ap (λ v. v.kept) view in
        let begun : now.begun ≡ size = ap (λ v. v.begun) is in
        let there : bytes ≡ now.kept = kept_is ∙ sym kept in
        let set_line = begun_line key flags exptime n noreply bytes line size reads says in
        request_waits old new still now result
        (subst (λ s. request_reading s ≡ Waits) kept_is (begun_unfinished key flags exptime n noreply bytes line size reads says awaited))
        kept (ap (λ v. v.ended) is ∙ ap (λ v. v.ended) view) (ap (λ v. v.closed) is ∙ ap (λ v. v.closed) view)
        (subst (HasReadLine old.kept) (sym begun) (subst (λ s. HasReadLine s size) kept_is (read_line set_line)))
        (begun_few key flags exptime n noreply now size begun allowed (subst (λ s. block_reading n (drop size s) ≡ Ok false) there awaited))
        h
      where
        read_line : IsSetLine (take size bytes) key flags exptime n noreply → HasReadLine bytes size
        read_line h =
            let whole : take size bytes ++ drop size bytes ≡ bytes = take-append-drop size bytes in
            let front : length (take size bytes) ≡ size = length-take-le size bytes within in
            subst (λ k. HasReadLine bytes k) front (subst (λ s. HasReadLine s (length (take size bytes))) whole (begun_read key flags exptime n noreply (take size bytes) (drop size bytes) h))

-- where the line of a set was read
module _ (old : ReaderView) (stream : StreamView) (set : SetWords) (said : Option SetWords) (bytes : List ℕ) (n : ℕ) (still : old.closed ≡ false)
    (view : reader_of stream ≡ old) (is_said : said ≡ Some set) (kept : IsBegun said stream.front) (seen : bytes ≡ stream.unread) (size_is : n ≡ set.block_length) where
  is_set : IsBegun (Some set) stream.front
  is_set = subst (λ s. IsBegun s stream.front) is_said kept

  read_so : (r : Result Bool TextError) → block_reading n bytes ≡ r → block_reading set.block_length stream.unread ≡ r
  read_so r e = subst (λ m. block_reading m stream.unread ≡ r) size_is (subst (λ s. block_reading n s ≡ r) seen e)

  block_read : block_reading n bytes ≡ Ok true
      → request_reading old.kept ≡ Gives (Set set.key set.flags set.exptime (take n bytes) set.noreply) (old.begun + n + 2)
  block_read e =
      let found = begun_gives set.key set.flags set.exptime set.block_length set.noreply stream.front stream.unread is_set.0 is_set.1 (read_so (Ok true) e) in
      let now : request_reading old.kept ≡ Gives (Set set.key set.flags set.exptime (take set.block_length stream.unread) set.noreply) (old.begun + set.block_length + 2) =
      subst (λ (v : ReaderView). request_reading v.kept ≡ Gives (Set set.key set.flags set.exptime (take set.block_length stream.unread) set.noreply) (v.begun + set.block_length + 2)) view found in
      now ∙ ap (λ m. Gives (Set set.key set.flags set.exptime (take m stream.unread) set.noreply) (old.begun + m + 2)) (sym size_is)
      ∙ ap (λ s. Gives (Set set.key set.flags set.exptime (take n s) set.noreply) (old.begun + n + 2)) (sym seen)

  pub block_lacks : block_reading n bytes ≡ Ok true → IsNextRequest old old (Err OutOfMemory)
  block_lacks e = request_lacks old old still (Set set.key set.flags set.exptime (take n bytes) set.noreply) (old.begun + n + 2) (block_read e) refl

  pub block_gives : (new : ReaderView) (given asked : Request) → block_reading n bytes ≡ Ok true → asked ≡ Set set.key set.flags set.exptime (take n bytes) set.noreply → given ≡ asked
      → new ≡ record { kept = drop (old.begun + (n + 2)) old.kept; begun = 0; ended = old.ended; closed = is_quit asked } → IsNextRequest old new (Ok (Some given))
  block_gives new given asked e says gives is =
      let behind : old.begun + (n + 2) ≡ old.begun + n + 2 = omega arith in
      let set_is : Request = Set set.key set.flags set.exptime (take n bytes) set.noreply in
      subst (λ q. IsNextRequest old new (Ok (Some q))) (sym (gives ∙ says))
      (request_gives old new still set_is (old.begun + n + 2) (block_read e)
      (is ∙ ap (λ m. record { kept = drop m old.kept; begun = 0; ended = old.ended; closed = is_quit asked }) behind
      ∙ ap (λ q. record { kept = drop (old.begun + n + 2) old.kept; begun = 0; ended = old.ended; closed = is_quit q }) says))

  pub block_awaited : (new : ReaderView) (result : Result (Option Request) TextError) → block_reading n bytes ≡ Ok false → WaitIs old new result → IsNextRequest old new result
  block_awaited new result e h =
      let there = read_so (Ok false) e in
      let seam = drop-append_seam stream.front stream.unread in
      let waits = begun_waits set.key set.flags set.exptime set.block_length set.noreply stream.front stream.unread is_set.0 is_set.1 there in
      let read = begun_read set.key set.flags set.exptime set.block_length set.noreply stream.front stream.unread is_set.0 in
      let few = begun_few set.key set.flags set.exptime set.block_length set.noreply (reader_of stream) (length stream.front) refl is_set.1
      (subst (λ s. block_reading set.block_length s ≡ Ok false) (sym seam) there) in
      request_waits old new still old result (subst (λ (v : ReaderView). request_reading v.kept ≡ Waits) view waits) refl refl refl
      (subst (λ (v : ReaderView). HasReadLine v.kept v.begun) view read) (subst HoldsFew view few) h

  pub block_refused : (new : ReaderView) (refusal : TextError) → block_reading n bytes ≡ Err refusal → new ≡ record old { closed = true } → IsNextRequest old new (Err refusal)
  block_refused new refusal e is =
      let there = read_so (Err refusal) e in
      let found = begun_refused set.key set.flags set.exptime set.block_length set.noreply stream.front stream.unread is_set.0 refusal is_set.1 there in
      let bad = subst (BlockIs set.block_length stream.unread) there (block_is set.block_length stream.unread) in
      let refused : request_reading old.kept ≡ Refused refusal 0 = subst (λ (v : ReaderView). request_reading v.kept ≡ Refused refusal 0) view found in
      subst (λ r. IsNextRequest old new (Err r)) (sym bad.0)
      (request_refused old new still BadDataEnd 0 (subst (λ r. request_reading old.kept ≡ Refused r 0) bad.0 refused) is)
