-- What reading on comes to, from what stands in the bytes that weren't read.
use Rattle.std.proofs.Common.{◌≡◌, ◌≢◌, ℕ, ◌+◌, ◌-◌, ◌*◌, ◌<◌, ◌≤◌, Bool, true, false, List, [], ◌∷◌, ◌++◌, length, take, drop, Option, Some, None, Result, Ok, Err, refl, sym, ◌∙◌, ap, subst, arith, inl, inr, append_assoc, length-append, length-drop}
use Rattle.std.proofs.lemmas.List.{take-append-drop}
use Rattle.std.specs.declared.alloc.AllocError.{AllocError}
use Rattle.mr_text.specs.Limits.{MAX_BLOCK, MAX_ITEMS}
use Rattle.mr_text.specs.Replies.{IsItemLine, HoldsItem, HasReadPart, HasReadToBlock}
use Rattle.mr_text.specs.steps.BegunItem.{SaidItem, HasRead, is_begun}
use Rattle.mr_text.specs.steps.Reading.{StretchReading, line_reading, block_reading}
use Rattle.mr_text.specs.steps.Reading.StretchReading.{Waits, Gives, Refused}
use Rattle.mr_text.specs.steps.ReplyReading.{step_reading, with_items, items_reading, as_reply, reply_reading}
use Rattle.mr_text.specs.steps.ReplyReading.Step.{EndStep}
use Rattle.mr_text.specs.steps.ReplyProgress.{IsProgress, IsNextReply, FirstLineIs, LineTaken, MayCopy, ReadsOn, TakesStep, all_of, has_begun, steps_of}
use Rattle.mr_text.specs.steps.ReplySteps.{IsAhead, SaysFirst, lone_reply}
use Rattle.mr_text.specs.steps.StreamView.{StreamView, StreamWaits, reader_of, with_given, with_read}
use Rattle.mr_text.specs.declared.error.TextError.{TextError}
use Rattle.mr_text.specs.declared.error.TextError.TheVariants.{OutOfMemory}
use Rattle.mr_text.specs.declared.item.Item.{Item}
use Rattle.mr_text.specs.declared.reading.reply_lines.SaidLine.{SaidLine}
use Rattle.mr_text.specs.declared.reading.reply_lines.SaidLine.TheVariants as said
use Rattle.mr_text.specs.declared.reading.unfinished_reply.FirstLine.TheVariants as first
use Rattle.mr_text.specs.declared.reading.unfinished_reply.ReadStep.TheVariants as step
use Rattle.mr_text.specs.declared.reading.unfinished_reply.UnfinishedReply.{UnfinishedReply}
use Rattle.mr_text.specs.declared.reply.Reply.{Reply}
use Rattle.mr_text.specs.declared.reply.Reply.TheVariants.{Items}
use Rattle.mr_text.proofs.ReplyNexts.{reply_gives, reply_waits, reply_truncated, reply_lacks, lone_lacks, reply_refused}
use Rattle.mr_text.proofs.ReplyProgress.{ReadTo, begun_reads, begun_to, block_read, first_waits, front_none, front_some, holds_item, item_refused, item_waits, line_read, line_short, next_waits, read_all_blocks, read_all_lines, read_part, read_to_block, to_ahead, to_end, to_refused, to_waits}
use Rattle.mr_text.proofs.Reached.{one_more}
use Rattle.mr_text.proofs.ReplyReading.{item_first}
use Rattle.mr_text.proofs.ReplySteps.{item_found}
use Rattle.mr_text.proofs.ShortRequests.{block_waits}

-- a fact of a number and of bytes, where both go by other names
pub along : (P : ℕ → List ℕ → Type 0) (n m : ℕ) (s t : List ℕ) → n ≡ m → s ≡ t → P n s → P m t
along P n m s t e f h = subst (λ k. P k t) e (subst (P n) f h)

pub reads_same : (stream : StreamView) → ReadsOn stream stream
reads_same stream = record { kept = refl; ended = refl; closed = refl; further = (omega arith) }

pub reads_more : (old new : StreamView) (size : ℕ) → new ≡ with_read size old → ReadsOn old new
reads_more old new size is = record {
  kept = ap all_of is ∙ append_assoc old.front (take size old.unread) (drop size old.unread) ∙ ap (λ s. old.front ++ s) (take-append-drop size old.unread);
  ended = ap (λ v. v.ended) is;
  closed = ap (λ v. v.closed) is;
  further = (let e = ap (λ v. length v.front) is in let sum = length-append old.front (take size old.unread) in omega arith);
}

pub reads_on_by : (old between new : StreamView) → ReadsOn old between → ReadsOn between new → ReadsOn old new
reads_on_by old between new a b = record {
  kept = b.kept ∙ a.kept;
  ended = b.ended ∙ a.ended;
  closed = b.closed ∙ a.closed;
  further = (let one = a.further in let two = b.further in omega arith);
}

fewer_line : (room room' : ℕ) (a b : Option SaidItem) (said : SaidItem) → room' ≡ room → a ≡ None → b ≡ Some said → steps_of room' b < steps_of room a
fewer_line room room' a b said e f g = subst (λ x. steps_of room' x < steps_of room a) (sym g) (subst (λ x. 2 * room' < steps_of room x) (sym f) (omega arith))

fewer_block : (room room' : ℕ) (a b : Option SaidItem) (said : SaidItem) → room' + 1 ≡ room → a ≡ Some said → b ≡ None → steps_of room' b < steps_of room a
fewer_block room room' a b said e f g = subst (λ x. steps_of room' x < steps_of room a) (sym g) (subst (λ x. 2 * room' + 1 < steps_of room x) (sym f) (omega arith))

begun_said : (items : List Item) (said : SaidItem) → is_begun items (Some said) ≡ true
begun_said [] said = refl
begun_said (item ∷ items) said = refl

begun_item : (items : List Item) (item : Item) (said : Option SaidItem) → is_begun (items ++ item ∷ []) said ≡ true
begun_item [] item said = refl
begun_item (other ∷ items) item said = refl

-- what is kept stands for what was read, whatever names it has
moved : (old new : UnfinishedReply) → IsProgress old → new.stream.front ≡ old.stream.front → new.said ≡ old.said → new.items.items ≡ old.items.items → IsProgress new
moved old new h a b c =
    subst (λ s. HasRead s new.items.items new.said) (sym a) (subst (λ l. HasRead old.stream.front l new.said) (sym c) (subst (HasRead old.stream.front old.items.items) (sym b) h))

-- an item whose line was read
module _ (old : UnfinishedReply) (said : SaidItem) (h : IsProgress old) (is : old.said ≡ Some said) where
  progress : HasRead old.stream.front old.items.items (Some said)
  progress = subst (HasRead old.stream.front old.items.items) is h

  some_room : 0 < MAX_ITEMS - length old.items.items
  some_room = (let few = progress.few in omega arith)

  on : ReadTo (all_of old.stream) old.items.items (progress.line ++ old.stream.unread) (MAX_ITEMS - length old.items.items)
  on = begun_to old.stream.front old.stream.unread old.items.items (Some said) progress

  pub block_lacks : block_reading said.block_length old.stream.unread ≡ Ok true → (new : UnfinishedReply) → new.stream ≡ old.stream → new.said ≡ old.said
      → new.items.items ≡ old.items.items → (e : AllocError) → TakesStep old new (Err e)
  block_lacks there new a b c e = record {
    progress = moved old new h (ap (λ v. v.front) a) b c;
    reads_on = subst (ReadsOn old.stream) (sym a) (reads_same old.stream);
    step = (
      holds_item old.stream.front old.stream.unread old.items.items said progress there,
      subst (λ s. HasReadToBlock (all_of s) (length s.front)) (sym a) (read_to_block old.stream.front old.stream.unread old.items.items said progress there),
    );
  }

  pub block_takes : block_reading said.block_length old.stream.unread ≡ Ok true → (new : UnfinishedReply) → new.stream ≡ with_read (said.block_length + 2) old.stream
      → new.said ≡ None → new.items.items ≡ old.items.items ++ record { key = said.key; flags = said.flags; block = take said.block_length old.stream.unread } ∷ []
      → TakesStep old new (Ok step.More)
  block_takes there new a b c =
      let item : Item = record { key = said.key; flags = said.flags; block = take said.block_length old.stream.unread } in
      let read = block_read old.stream.front old.stream.unread old.items.items said progress there in record {
        progress = subst (λ s. HasRead s new.items.items new.said) (sym (ap (λ v. v.front) a))
            (subst (λ l. HasRead (old.stream.front ++ take (said.block_length + 2) old.stream.unread) l new.said) (sym c)
            (subst (HasRead (old.stream.front ++ take (said.block_length + 2) old.stream.unread) (old.items.items ++ item ∷ [])) (sym b) read));
        reads_on = reads_more old.stream new.stream (said.block_length + 2) a;
        step = (
          let count = ap length c ∙ length-append old.items.items (item ∷ []) in
              let few = progress.few in
              fewer_block (MAX_ITEMS - length old.items.items) (MAX_ITEMS - length new.items.items) old.said new.said said (omega arith) is b,
          ap (λ l. is_begun l new.said) c ∙ begun_item old.items.items item new.said,
        );
      }

  pub block_stays : block_reading said.block_length old.stream.unread ≡ Ok false → TakesStep old old (Ok step.Waits)
  block_stays waits = record {
    progress = h;
    reads_on = reads_same old.stream;
    step = (
      refl,
      let short = block_waits said.block_length old.stream.unread waits in let allowed = progress.is_line.1 in omega arith,
      read_all_blocks old.stream.front old.stream.unread old.items.items said progress waits,
      to_waits (all_of old.stream) old.items.items (progress.line ++ old.stream.unread) (MAX_ITEMS - length old.items.items) on
          (item_waits (MAX_ITEMS - length old.items.items) progress.line old.stream.unread said.key said.flags said.block_length some_room progress.is_line.0 progress.is_line.1 waits),
    );
  }

  pub block_never : (refusal : TextError) → block_reading said.block_length old.stream.unread ≡ Err refusal
      → ((refusal : TextError) → items_reading MAX_ITEMS (all_of old.stream) ≢ Refused refusal 0) → ⊥
  block_never refusal e readable =
      readable refusal (to_refused (all_of old.stream) old.items.items (progress.line ++ old.stream.unread) (MAX_ITEMS - length old.items.items) on refusal
      (item_refused (MAX_ITEMS - length old.items.items) progress.line old.stream.unread said.key said.flags said.block_length refusal some_room progress.is_line.0 progress.is_line.1 e))

  -- looking ahead from the block
  pub block_ahead_is : (r : Result Bool TextError)
      → ((line : List ℕ) (key : List ℕ) (flags : ℕ) → IsItemLine line key flags said.block_length → IsAhead (items_reading (MAX_ITEMS - length old.items.items) (line ++ old.stream.unread)) r)
      → IsAhead (items_reading MAX_ITEMS (all_of old.stream)) r
  block_ahead_is r a =
      to_ahead (all_of old.stream) old.items.items (progress.line ++ old.stream.unread) (MAX_ITEMS - length old.items.items) on r
      (a progress.line said.key said.flags progress.is_line.0)

-- the line behind the items
module _ (old : UnfinishedReply) (h : IsProgress old) (none : old.said ≡ None) where
  lines : HasRead old.stream.front old.items.items None
  lines = subst (HasRead old.stream.front old.items.items) none h

  pub line_to_read : ReadTo (all_of old.stream) old.items.items old.stream.unread (MAX_ITEMS - length old.items.items)
  line_to_read =
      subst (λ s. ReadTo (all_of old.stream) old.items.items (s ++ old.stream.unread) (MAX_ITEMS - length old.items.items)) lines.is_line
      (begun_to old.stream.front old.stream.unread old.items.items None lines)

  pub line_ahead_is : (r : Result Bool TextError) → IsAhead (items_reading (MAX_ITEMS - length old.items.items) old.stream.unread) r → IsAhead (items_reading MAX_ITEMS (all_of old.stream)) r
  line_ahead_is r a = to_ahead (all_of old.stream) old.items.items old.stream.unread (MAX_ITEMS - length old.items.items) line_to_read r a

  pub line_stays : line_reading old.stream.unread ≡ Waits → TakesStep old old (Ok step.Waits)
  line_stays waits = record {
    progress = h;
    reads_on = reads_same old.stream;
    step = (
      refl,
      line_short old.stream.unread waits,
      read_all_lines old.stream.front old.stream.unread old.items.items lines waits,
      to_waits (all_of old.stream) old.items.items old.stream.unread (MAX_ITEMS - length old.items.items) line_to_read
          (next_waits (MAX_ITEMS - length old.items.items) old.stream.unread waits),
    );
  }

  pub line_takes : (new : UnfinishedReply) (said : SaidItem) (size : ℕ) → IsItemLine (take size old.stream.unread) said.key said.flags said.block_length
      → said.block_length ≤ MAX_BLOCK → 0 < MAX_ITEMS - length old.items.items → LineTaken old new said size → TakesStep old new (Ok step.More)
  line_takes new said size is allowed some taken =
      let read = line_read old.stream.front old.stream.unread old.items.items said size lines (omega arith) is allowed in record {
        progress = subst (λ s. HasRead s new.items.items new.said) (sym (ap (λ v. v.front) taken.stream))
            (subst (λ l. HasRead (old.stream.front ++ take size old.stream.unread) l.items new.said) (sym taken.items)
            (subst (HasRead (old.stream.front ++ take size old.stream.unread) old.items.items) (sym taken.keeps) read));
        reads_on = reads_more old.stream new.stream size taken.stream;
        step = (
          fewer_line (MAX_ITEMS - length old.items.items) (MAX_ITEMS - length new.items.items) old.said new.said said (ap (λ l. MAX_ITEMS - length l.items) taken.items) none taken.keeps,
          ap (is_begun new.items.items) taken.keeps ∙ begun_said new.items.items said,
        );
      }

  pub line_ends : (size : ℕ) → step_reading (MAX_ITEMS - length old.items.items) old.stream.unread ≡ Gives EndStep size → size ≤ length old.stream.unread
      → TakesStep old old (Ok (step.End size))
  line_ends size e within =
      let to = line_to_read in
      let left = length-drop to.size (all_of old.stream) in
      let same = ap length to.left in
      let sum = length-append old.stream.front old.stream.unread in
      let low = to.reached.within in
      let read : to.size ≡ length old.stream.front = omega arith in
      record {
        progress = h;
        reads_on = reads_same old.stream;
        step = (
          none,
          within,
          to_end (all_of old.stream) old.items.items old.stream.unread (MAX_ITEMS - length old.items.items) to size e
              ∙ ap (λ n. Gives old.items.items (n + size)) read,
        );
      }

  pub line_never : (refusal : TextError) → step_reading (MAX_ITEMS - length old.items.items) old.stream.unread ≡ Refused refusal 0
      → ((refusal : TextError) → items_reading MAX_ITEMS (all_of old.stream) ≢ Refused refusal 0) → ⊥
  line_never refusal e readable =
      readable refusal (to_refused (all_of old.stream) old.items.items old.stream.unread (MAX_ITEMS - length old.items.items) line_to_read refusal e)

nothing_items : (items : List Item) (said : Option SaidItem) → is_begun items said ≡ false → (items ≡ []) × (said ≡ None)
nothing_items [] None e = (refl, refl)
nothing_items [] (Some said) e = cc
nothing_items (item ∷ items) said e = cc

-- a reply that is a line by itself
pub lone_is_read : (bytes : List ℕ) (line : SaidLine) (size : ℕ) → SaysFirst bytes line size → (reply : Reply) → lone_reply line ≡ Some reply → reply_reading bytes ≡ Gives reply size
lone_is_read bytes (said.Item key flags block_length) size says reply e = cc
lone_is_read bytes said.End size says reply e = (let read = says.2 in let one = says.1 in cc)
lone_is_read bytes said.Stored size says reply e = (let read = says.2 in let one = says.1 in cc)
lone_is_read bytes said.Deleted size says reply e = (let read = says.2 in let one = says.1 in cc)
lone_is_read bytes said.NotFound size says reply e = (let read = says.2 in let one = says.1 in cc)
lone_is_read bytes said.Error size says reply e = (let read = says.2 in let one = says.1 in cc)
lone_is_read bytes (said.ClientError text) size says reply e = (let read = says.2 in let one = says.1 in cc)
lone_is_read bytes (said.ServerError text) size says reply e = (let read = says.2 in let one = says.1 in cc)

-- and begins with no item
no_items : (line : SaidLine) (item : Item) (items : List Item) → lone_reply line ≢ Some (Items (item ∷ items))
no_items (said.Item key flags block_length) item items e = cc
no_items said.End item items e = cc
no_items said.Stored item items e = cc
no_items said.Deleted item items e = cc
no_items said.NotFound item items e = cc
no_items said.Error item items e = cc
no_items (said.ClientError text) item items e = cc
no_items (said.ServerError text) item items e = cc

gives_no_items : (line : SaidLine) (reply : Reply) (size : ℕ) (item : Item) (front : ℕ) (r : StretchReading (List Item)) → lone_reply line ≡ Some reply
    → Gives reply size ≢ as_reply (with_items (item ∷ []) front r)
gives_no_items line reply size item front Waits lone e = cc
gives_no_items line reply size item front (Gives items n) lone e = no_items line item items (lone ∙ ap Some (let same : reply ≡ Items (item ∷ items) = cc in same))
gives_no_items line reply size item front (Refused refusal n) lone e = cc

lone_no_item : (bytes : List ℕ) (line : SaidLine) (reply : Reply) (size : ℕ) → lone_reply line ≡ Some reply → reply_reading bytes ≡ Gives reply size → ¬ HoldsItem bytes
lone_no_item bytes line reply size lone read (item, after, (front, behind, splits, spells, rest)) =
    let first = item_first item [] bytes after (front, behind, splits, spells, rest) in
    let step = ap (step_reading MAX_ITEMS) splits ∙ item_found MAX_ITEMS front behind item (omega arith) spells in
    let one = one_more MAX_ITEMS bytes item (length front) (omega arith) step in
    gives_no_items line reply size item (length front) (items_reading (MAX_ITEMS - 1) (drop (length front) bytes)) lone (sym read ∙ first ∙ ap as_reply one)

-- the first line of a reply
module _ (old : UnfinishedReply) (h : IsProgress old) (still : old.stream.closed ≡ false) (nothing : has_begun old ≡ false) where
  none_said : old.said ≡ None
  none_said = (nothing_items old.items.items old.said nothing).1

  all_unread : all_of old.stream ≡ old.stream.unread
  all_unread = ap (λ s. s ++ old.stream.unread) (front_none old.stream.front old.items.items old.said h nothing)

  part : HasReadPart (all_of old.stream) (length old.stream.front)
  part = read_part old.stream.front old.stream.unread old.items.items old.said h

  pub first_stays : line_reading old.stream.unread ≡ Waits → FirstLineIs old old (Ok first.Waits)
  first_stays waits = (
    refl,
    ap reply_reading all_unread ∙ first_waits old.stream.unread waits,
    read_all_lines old.stream.front old.stream.unread old.items.items (subst (HasRead old.stream.front old.items.items) none_said h) waits,
    line_short old.stream.unread waits,
  )

  pub first_takes : (new : UnfinishedReply) (said : SaidItem) (size : ℕ) → IsItemLine (take size old.stream.unread) said.key said.flags said.block_length
      → said.block_length ≤ MAX_BLOCK → LineTaken old new said size → FirstLineIs old new (Ok first.Item)
  first_takes new said size is allowed taken =
      let few : length old.items.items ≡ 0 = ap length (nothing_items old.items.items old.said nothing).0 in
      let taken_so = line_takes old h none_said new said size is allowed (omega arith) taken in
      (taken_so.progress, taken_so.reads_on, ap (is_begun new.items.items) taken.keeps ∙ begun_said new.items.items said)

  pub first_gives : (new : UnfinishedReply) (reply : Reply) (size : ℕ) → reply_reading old.stream.unread ≡ Gives reply size → new.stream ≡ with_given size old.stream
      → new.said ≡ old.said → new.items.items ≡ old.items.items → FirstLineIs old new (Ok (first.Reply reply))
  first_gives new reply size e a b c =
      let front = front_none old.stream.front old.items.items old.said h nothing in (
        moved old new h (ap (λ v. v.front) a ∙ sym front) b c,
        reply_gives old.stream old.stream new.stream still (reads_same old.stream) reply size
            (ap reply_reading all_unread ∙ e ∙ ap (Gives reply) (let none = ap length front in let same : size ≡ length old.stream.front + size = omega arith in same)) a,
      )

  pub first_lacks : (line : SaidLine) (reply : Reply) (size : ℕ) → lone_reply line ≡ Some reply → reply_reading old.stream.unread ≡ Gives reply size
      → FirstLineIs old old (Err OutOfMemory)
  first_lacks line reply size lone e =
      let read = ap reply_reading all_unread ∙ e in
      let nothing_read = ap length (front_none old.stream.front old.items.items old.said h nothing) in
      (h, lone_lacks old.stream reply size still read (inr (nothing_read, lone_no_item (all_of old.stream) line reply size lone read)))

  pub first_refused : (new : UnfinishedReply) (refusal : TextError) → reply_reading old.stream.unread ≡ Refused refusal 0 → new.stream ≡ record old.stream { closed = true }
      → new.said ≡ old.said → new.items.items ≡ old.items.items → FirstLineIs old new (Err refusal)
  first_refused new refusal e a b c =
      (moved old new h (ap (λ v. v.front) a) b c, reply_refused old.stream new.stream refusal still (ap reply_reading all_unread ∙ e) part a)

-- the reply of items, from what the last step came to
module _ (old between now : UnfinishedReply) (h : IsProgress old) (still : old.stream.closed ≡ false) (begun : has_begun old ≡ true)
    (before : ReadsOn old.stream between.stream) where
  reads_items : reply_reading (all_of old.stream) ≡ as_reply (items_reading MAX_ITEMS (all_of old.stream))
  reads_items = begun_reads old.stream.front old.stream.unread old.items.items old.said h begun

  at_between : (r : StretchReading (List Item)) → items_reading MAX_ITEMS (all_of between.stream) ≡ r → reply_reading (all_of old.stream) ≡ as_reply r
  at_between r e = reads_items ∙ ap as_reply (ap (items_reading MAX_ITEMS) (sym before.kept) ∙ e)

  pub items_given : (size : ℕ) (new : StreamView) (list : List Item) → TakesStep between now (Ok (step.End size)) → list ≡ now.items.items → new ≡ with_given size now.stream
      → IsNextReply (reader_of old.stream) (reader_of new) (Ok (Some (Items list)))
  items_given size new list taken is given =
      reply_gives old.stream now.stream new still (reads_on_by old.stream between.stream now.stream before taken.reads_on) (Items list) size
      (at_between (Gives now.items.items (length now.stream.front + size)) taken.step.2
      ∙ ap (λ l. Gives (Items l) (length now.stream.front + size)) (sym is)) given

  pub items_wait : (result : Result (Option Reply) TextError) (new : StreamView) → TakesStep between now (Ok step.Waits) → StreamWaits now.stream new result
      → IsNextReply (reader_of old.stream) (reader_of new) result
  items_wait result new taken waits =
      reply_waits old.stream now.stream new still (reads_on_by old.stream between.stream now.stream before taken.reads_on) result
      (at_between Waits taken.step.3) taken.step.2 taken.step.1 waits

  pub items_lack : (e : AllocError) → MayCopy old.stream.ended (items_reading MAX_ITEMS (all_of old.stream)) → TakesStep between now (Err e)
      → IsNextReply (reader_of old.stream) (reader_of now.stream) (Err OutOfMemory)
  items_lack e may taken =
      reply_lacks old.stream now.stream now.stream still (reads_on_by old.stream between.stream now.stream before taken.reads_on) reads_items may
      (subst HoldsItem before.kept taken.step.0) (inl taken.step.1) refl

-- the reply of items, where nothing is copied
module _ (old : UnfinishedReply) (h : IsProgress old) (still : old.stream.closed ≡ false) (begun : has_begun old ≡ true) where
  pub items_end_inside : (result : Result (Option Reply) TextError) (new : StreamView) → items_reading MAX_ITEMS (all_of old.stream) ≡ Waits → old.stream.ended ≡ true
      → StreamWaits old.stream new result → IsNextReply (reader_of old.stream) (reader_of new) result
  items_end_inside result new e ended waits =
      reply_truncated old.stream old.stream new still (reads_same old.stream) result (begun_reads old.stream.front old.stream.unread old.items.items old.said h begun ∙ ap as_reply e)
      (read_part old.stream.front old.stream.unread old.items.items old.said h) ended
      (λ empty. front_some old.stream.front old.items.items old.said h begun (front_empty old.stream.front old.stream.unread empty)) waits
    where
      front_empty : (front unread : List ℕ) → front ++ unread ≡ [] → front ≡ []
      front_empty [] unread e = refl
      front_empty (byte ∷ front) unread e = cc

  pub items_refused : (refusal : TextError) (new : StreamView) → items_reading MAX_ITEMS (all_of old.stream) ≡ Refused refusal 0 → new ≡ record old.stream { closed = true }
      → IsNextReply (reader_of old.stream) (reader_of new) (Err refusal)
  items_refused refusal new e is =
      reply_refused old.stream new refusal still (begun_reads old.stream.front old.stream.unread old.items.items old.said h begun ∙ ap as_reply e)
      (read_part old.stream.front old.stream.unread old.items.items old.said h) is

-- no line is whole yet
pub first_wait : (old now : UnfinishedReply) (new : StreamView) (result : Result (Option Reply) TextError) → old.stream.closed ≡ false → FirstLineIs old now (Ok first.Waits)
    → StreamWaits now.stream new result → IsNextReply (reader_of old.stream) (reader_of new) result
first_wait old now new result still is waits =
    reply_waits old.stream old.stream new still (reads_same old.stream) result is.1 is.2 is.3 (subst (λ r. StreamWaits r.stream new result) is.0 waits)

pub unsaid : (said : Option SaidItem) → ((x : SaidItem) → said ≡ Some x → ⊥) → said ≡ None
unsaid None other = refl
unsaid (Some x) other = absurd (other x refl)
