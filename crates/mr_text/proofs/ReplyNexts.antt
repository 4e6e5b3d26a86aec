-- The facts about the reading of replies that `next` rests on.
use Rattle.std.proofs.Common.{◌≡◌, ◌≢◌, ℕ, ◌+◌, ◌≤◌, List, [], ◌++◌, length, take, drop, true, false, Option, Some, None, Result, Ok, Err, refl, sym, ◌∙◌, ap, subst, arith, inl, inr, length-append}
use Rattle.std.proofs.Math.Seq.{drop-append_seam}
use Rattle.std.proofs.lemmas.List.{drop-drop}
use Rattle.mr_text.specs.Replies.{SpellsReply, RefusesReply, SkipsNone, HoldsItem, MayWantMemory, NextReplyIs, HasReadPart, HasReadAll, LacksMemoryAt, ReplyBegunAfter, is_no_last}
use Rattle.mr_text.specs.Stream.{ReaderView, StandsFor, Becomes, NextIs, HoldsFew}
use Rattle.mr_text.specs.steps.Reading.StretchReading.{Waits, Gives, Refused}
use Rattle.mr_text.specs.steps.ReplyReading.{items_reading, as_reply, reply_reading}
use Rattle.mr_text.specs.steps.ReplyProgress.{IsNextReply, MayCopy, ReadsOn, IsShort, all_of}
use Rattle.mr_text.specs.steps.StreamView.{StreamView, StreamWaits, reader_of, with_given}
use Rattle.mr_text.specs.declared.item.Item.{Item}
use Rattle.mr_text.specs.declared.error.TextError.{TextError}
use Rattle.mr_text.specs.declared.error.TextError.TheVariants.{LineTooLong, BadKey, BadNumber, WrongWords, DataTooLong, BadDataEnd, UnknownCommand, Truncated, Closed, OutOfMemory}
use Rattle.mr_text.specs.declared.reply.Reply.{Reply}
use Rattle.mr_text.specs.declared.reply.Reply.TheVariants.{Items}
use Rattle.mr_text.specs.Limits.{MAX_ITEMS}
use Rattle.mr_text.specs.steps.Reading.{StretchReading}
use Rattle.mr_text.proofs.Nexts.{Leaves, RefusedSo, begins, waits, gives, waiting, truncated, refusing}
use Rattle.mr_text.proofs.ReplyReading.{ReplyIs, reply_is, reply_found, reply_refusal_found}

pub reply_given : (bytes : List ℕ) (reply : Reply) (size : ℕ) → reply_reading bytes ≡ Gives reply size → SpellsReply (take size bytes) reply
reply_given bytes reply size e = let is = subst (ReplyIs bytes) e (reply_is bytes) in is.1

pub reply_refuses : (bytes : List ℕ) (refusal : TextError) (size : ℕ) → reply_reading bytes ≡ Refused refusal size → RefusedSo RefusesReply SkipsNone bytes refusal size
reply_refuses bytes refusal size e = go refusal (subst (ReplyIs bytes) e (reply_is bytes))
  where
    go : (refusal : TextError) → ReplyIs bytes (Refused refusal size) → RefusedSo RefusesReply SkipsNone bytes refusal size
    go (UnknownCommand false) h = h.4
    go (UnknownCommand true) h = h
    go LineTooLong h = h
    go BadKey h = h
    go BadNumber h = h
    go WrongWords h = h
    go DataTooLong h = h
    go BadDataEnd h = h
    go Truncated h = h.4
    go Closed h = h.4
    go OutOfMemory h = h.4

-- every refusal of a reply closes its reader
pub reply_refusing : (old new : ReaderView) (rest : List ℕ) (refusal : TextError) → old.closed ≡ false
    → reply_reading rest ≡ Refused refusal 0 → Becomes new rest old.ended true → NextIs SpellsReply RefusesReply SkipsNone is_no_last old new rest (Err refusal)
reply_refusing old new rest refusal closed e becomes = go refusal (reply_refuses rest refusal 0 e) e
  where
    refusing_so : (refusal : TextError) → reply_reading rest ≡ Refused refusal 0 → Leaves old new rest 0 refusal → NextIs SpellsReply RefusesReply SkipsNone is_no_last old new rest (Err refusal)
    refusing_so refusal e leaves = refusing SpellsReply RefusesReply SkipsNone is_no_last reply_reading reply_found reply_refusal_found reply_given reply_refuses old new rest refusal 0 closed e leaves

    go : (refusal : TextError) → RefusedSo RefusesReply SkipsNone rest refusal 0 → reply_reading rest ≡ Refused refusal 0
        → NextIs SpellsReply RefusesReply SkipsNone is_no_last old new rest (Err refusal)
    go (UnknownCommand false) h e = absurd h
    go (UnknownCommand true) h e = refusing_so (UnknownCommand true) e becomes
    go LineTooLong h e = refusing_so LineTooLong e becomes
    go BadKey h e = refusing_so BadKey e becomes
    go BadNumber h e = refusing_so BadNumber e becomes
    go WrongWords h e = refusing_so WrongWords e becomes
    go DataTooLong h e = refusing_so DataTooLong e becomes
    go BadDataEnd h e = refusing_so BadDataEnd e becomes
    go Truncated h e = absurd h
    go Closed h e = absurd h
    go OutOfMemory h e = absurd h

-- the count of what is held, where little is unread
few : (stream : StreamView) → IsShort stream → HoldsFew (reader_of stream)
few stream short = λ count holds.
    let all : length stream.front + count ≡ length (stream.front ++ stream.unread) = holds in
    let both = length-append stream.front stream.unread in
    omega arith

-- what a reader answers whose stream went on from `old` to `now`, and is left as `new`
module _ (old now new : StreamView) (still : old.closed ≡ false) (on : ReadsOn old now) where
  stands_so : (rest : List ℕ) → StandsFor (reader_of old) rest → all_of now ≡ rest
  stands_so rest stands = on.kept ∙ stands

  pub reply_gives : (reply : Reply) (size : ℕ) → reply_reading (all_of old) ≡ Gives reply (length now.front + size) → new ≡ with_given size now
      → IsNextReply (reader_of old) (reader_of new) (Ok (Some reply))
  reply_gives reply size e is =
      let left : drop (length now.front + size) (all_of now) ≡ drop size now.unread = sym (drop-drop size (length now.front) (all_of now)) ∙ ap (drop size) (drop-append_seam now.front now.unread) in
      record {
        answer = λ rest stands. gives SpellsReply RefusesReply SkipsNone is_no_last reply_reading reply_found reply_refusal_found reply_given reply_refuses
            (reader_of old) (reader_of new) rest reply (length now.front + size) still (subst (λ s. reply_reading s ≡ Gives reply (length now.front + size)) stands e)
            (record {
              stands = ap (λ v. v.front ++ v.unread) is ∙ sym left ∙ ap (drop (length now.front + size)) (stands_so rest stands);
              is_ended = ap (λ v. v.ended) is ∙ on.ended;
              is_closed = ap (λ v. v.closed) is ∙ on.closed ∙ still;
            });
        begun = ap (λ v. length v.front) is;
        short = λ none. cc;
      }

  part_so : HasReadPart (all_of now) (length now.front) → (front : List ℕ) → front ≡ now.front → HasReadPart (all_of old) (length front)
  part_so part front is = subst (HasReadPart (all_of old)) (ap length (sym is)) (subst (λ s. HasReadPart s (length now.front)) on.kept part)

  lacks_so : LacksMemoryAt (all_of now) (length now.front) → (front : List ℕ) → front ≡ now.front → LacksMemoryAt (all_of old) (length front)
  lacks_so lacks front is = subst (LacksMemoryAt (all_of old)) (ap length (sym is)) (subst (λ s. LacksMemoryAt s (length now.front)) on.kept lacks)

  ends_inside : (refusal : TextError) → reply_reading (all_of old) ≡ Waits → HasReadPart (all_of now) (length now.front) → StreamWaits {Item = Reply} now new (Err refusal)
      → IsNextReply (reader_of old) (reader_of new) (Err refusal)
  ends_inside refusal e part h =
      subst (λ r. IsNextReply (reader_of old) (reader_of new) (Err r)) (sym h.0) (record {
        answer = λ rest stands. truncated SpellsReply RefusesReply SkipsNone is_no_last reply_reading reply_found reply_refusal_found reply_given reply_refuses
            (reader_of old) (reader_of new) rest still (subst (λ s. reply_reading s ≡ Waits) stands e)
            (sym on.ended ∙ h.1)
            (λ empty. h.2 (stands_so rest stands ∙ empty))
            (record { stands = ap all_of h.3 ∙ stands_so rest stands; is_ended = ap (λ v. v.ended) h.3 ∙ on.ended; is_closed = ap (λ v. v.closed) h.3 });
        begun = (let more = on.further in let same = ap (λ v. length v.front) h.3 in omega arith, part_so part new.front (ap (λ v. v.front) h.3));
        short = λ none. cc;
      })

  -- the input ended inside a reply
  pub reply_truncated : (result : Result (Option Reply) TextError) → reply_reading (all_of old) ≡ Waits → HasReadPart (all_of now) (length now.front) → now.ended ≡ true → all_of now ≢ []
      → StreamWaits now new result → IsNextReply (reader_of old) (reader_of new) result
  reply_truncated (Ok o) e part ended some h = absurd (some (h.2 ended))
  reply_truncated (Err refusal) e part ended some h = ends_inside refusal e part h

  pub reply_waits : (result : Result (Option Reply) TextError) → reply_reading (all_of old) ≡ Waits → HasReadAll (all_of now) (length now.front) → IsShort now
      → StreamWaits now new result → IsNextReply (reader_of old) (reader_of new) result
  reply_waits (Ok o) e read short h =
      subst (λ item. IsNextReply (reader_of old) (reader_of new) (Ok item)) (sym h.0) (record {
        answer = λ rest stands. waiting SpellsReply RefusesReply SkipsNone is_no_last reply_reading reply_found reply_refusal_found reply_given reply_refuses
            (reader_of old) (reader_of new) rest still (subst (λ s. reply_reading s ≡ Waits) stands e)
            (λ ended. sym (stands_so rest stands) ∙ h.2 (on.ended ∙ ended))
            (record { stands = ap all_of h.1 ∙ stands_so rest stands; is_ended = ap (λ v. v.ended) h.1 ∙ on.ended; is_closed = ap (λ v. v.closed) h.1 ∙ on.closed ∙ still });
        begun = subst (λ s. HasReadAll s (length new.front)) on.kept (subst (HasReadAll (all_of now)) (ap (λ v. length v.front) (sym h.1)) read);
        short = λ none. few new (subst IsShort (sym h.1) short);
      })
  reply_waits (Err refusal) e read short h = ends_inside refusal e read.part h

  -- memory for what may be copied
  pub reply_lacks : (items_of : reply_reading (all_of old) ≡ as_reply (items_reading MAX_ITEMS (all_of old))) → MayCopy old.ended (items_reading MAX_ITEMS (all_of old)) → HoldsItem (all_of old)
      → LacksMemoryAt (all_of now) (length now.front) → new ≡ now → IsNextReply (reader_of old) (reader_of new) (Err OutOfMemory)
  reply_lacks items_of may item lacks is = record {
    answer = λ rest stands. (
      still,
      subst (MayWantMemory old.ended) stands (holds (items_reading MAX_ITEMS (all_of old)) refl may),
      record { stands = ap all_of is ∙ stands_so rest stands; is_ended = ap (λ v. v.ended) is ∙ on.ended; is_closed = ap (λ v. v.closed) is ∙ on.closed ∙ still },
    );
    begun = (let more = on.further in let same = ap (λ v. length v.front) is in omega arith, lacks_so lacks new.front (ap (λ v. v.front) is));
    short = λ none. cc;
  }
    where
      holds : (r : StretchReading (List Item)) → items_reading MAX_ITEMS (all_of old) ≡ r → MayCopy old.ended r → MayWantMemory old.ended (all_of old)
      holds Waits e ended = inr (
        ended,
        record {
          item = item;
          unfinished = waits SpellsReply RefusesReply SkipsNone is_no_last reply_reading reply_found reply_refusal_found reply_given reply_refuses (all_of old) (items_of ∙ ap as_reply e);
        },
      )
      holds (Gives items size) e may = inl (
        Items items,
        drop size (all_of old),
        begins SpellsReply RefusesReply SkipsNone is_no_last reply_reading reply_found reply_refusal_found reply_given reply_refuses (all_of old) (Items items) size (items_of ∙ ap as_reply e),
      )
      holds (Refused refusal size) e may = absurd may

-- a reply that is a line by itself, of which nothing was kept
pub lone_lacks : (old : StreamView) (reply : Reply) (size : ℕ) → old.closed ≡ false → reply_reading (all_of old) ≡ Gives reply size → LacksMemoryAt (all_of old) (length old.front)
    → IsNextReply (reader_of old) (reader_of old) (Err OutOfMemory)
lone_lacks old reply size still e lacks = record {
  answer = λ rest stands. (
    still,
    inl (
      reply,
      drop size rest,
      begins SpellsReply RefusesReply SkipsNone is_no_last reply_reading reply_found reply_refusal_found reply_given reply_refuses rest reply size
          (subst (λ s. reply_reading s ≡ Gives reply size) stands e),
    ),
    record { stands = stands; is_ended = refl; is_closed = still },
  );
  begun = (omega arith, lacks);
  short = λ none. cc;
}

-- a refusal closes the reader
pub reply_refused : (old new : StreamView) (refusal : TextError) → old.closed ≡ false → reply_reading (all_of old) ≡ Refused refusal 0 → HasReadPart (all_of old) (length old.front)
    → new ≡ record old { closed = true } → IsNextReply (reader_of old) (reader_of new) (Err refusal)
reply_refused old new refusal still e part is = record {
  answer = λ rest stands. answer refusal rest
      (reply_refusing (reader_of old) (reader_of new) rest refusal still (subst (λ s. reply_reading s ≡ Refused refusal 0) stands e)
      (record { stands = ap all_of is ∙ stands; is_ended = ap (λ v. v.ended) is; is_closed = ap (λ v. v.closed) is }))
      (reply_refuses (all_of old) refusal 0 e);
  begun = begun refusal (omega (arith, ap (λ v. length v.front) is)) (ap (λ v. length v.front) is) (subst (HasReadPart (all_of old)) (ap (λ v. length v.front) (sym is)) part)
      (reply_refuses (all_of old) refusal 0 e);
  short = λ none. cc;
}
  where
    answer : (refusal : TextError) (rest : List ℕ) → NextIs SpellsReply RefusesReply SkipsNone is_no_last (reader_of old) (reader_of new) rest (Err refusal)
        → RefusedSo RefusesReply SkipsNone (all_of old) refusal 0 → NextReplyIs (reader_of old) (reader_of new) rest (Err refusal)
    answer (UnknownCommand true) rest h so = h
    answer (UnknownCommand false) rest h so = h
    answer LineTooLong rest h so = h
    answer BadKey rest h so = h
    answer BadNumber rest h so = h
    answer WrongWords rest h so = h
    answer DataTooLong rest h so = h
    answer BadDataEnd rest h so = h
    answer Truncated rest h so = h
    answer Closed rest h so = h
    answer OutOfMemory rest h so = absurd so

    begun : (refusal : TextError) → length old.front ≤ length new.front → length new.front ≡ length old.front → HasReadPart (all_of old) (length new.front)
        → RefusedSo RefusesReply SkipsNone (all_of old) refusal 0 → ReplyBegunAfter (reader_of old) (reader_of new) (Err refusal)
    begun (UnknownCommand closes) more same part so = (more, part)
    begun LineTooLong more same part so = (more, part)
    begun BadKey more same part so = (more, part)
    begun BadNumber more same part so = (more, part)
    begun WrongWords more same part so = (more, part)
    begun DataTooLong more same part so = (more, part)
    begun BadDataEnd more same part so = (more, part)
    begun Truncated more same part so = (more, part)
    begun Closed more same part so = same
    begun OutOfMemory more same part so = absurd so

-- what was read of a reply before doesn't show
pub next_from : (old now : StreamView) (new : ReaderView) (result : Result (Option Reply) TextError) → now.closed ≡ false → ReadsOn old now → IsNextReply (reader_of now) new result
    → IsNextReply (reader_of old) new result
next_from old now new result still on h = record {
  answer = λ rest stands. answer result rest (h.answer rest (on.kept ∙ stands));
  begun = begun result (h.answer (all_of now) refl) h.begun;
  short = h.short;
}
  where
    was : ReaderView
    was = record { kept = all_of now; begun = length old.front; ended = now.ended; closed = now.closed }

    is_was : was ≡ reader_of old
    is_was = (let a = on.kept in let b = on.ended in let d = on.closed in rw (a, b, d) refl)

    so : (result : Result (Option Reply) TextError) (rest : List ℕ) → NextReplyIs (reader_of now) new rest result → NextReplyIs was new rest result
    so (Ok (Some reply)) rest g = g
    so (Ok None) rest g = g
    so (Err (UnknownCommand true)) rest g = g
    so (Err (UnknownCommand false)) rest g = g
    so (Err LineTooLong) rest g = g
    so (Err BadKey) rest g = g
    so (Err BadNumber) rest g = g
    so (Err WrongWords) rest g = g
    so (Err DataTooLong) rest g = g
    so (Err BadDataEnd) rest g = g
    so (Err Truncated) rest g = g
    so (Err Closed) rest g = g
    so (Err OutOfMemory) rest g = g

    answer : (result : Result (Option Reply) TextError) (rest : List ℕ) → NextReplyIs (reader_of now) new rest result → NextReplyIs (reader_of old) new rest result
    answer result rest g = subst (λ r. NextReplyIs r new rest result) is_was (so result rest g)

    part : (length now.front ≤ new.begun) × HasReadPart (all_of now) new.begun → (length old.front ≤ new.begun) × HasReadPart (all_of old) new.begun
    part (more, g) = (let further = on.further in omega arith, subst (λ s. HasReadPart s new.begun) on.kept g)

    begun : (result : Result (Option Reply) TextError) → NextReplyIs (reader_of now) new (all_of now) result → ReplyBegunAfter (reader_of now) new result → ReplyBegunAfter (reader_of old) new result
    begun (Ok (Some reply)) is g = g
    begun (Ok None) is g = subst (λ s. HasReadAll s new.begun) on.kept g
    begun (Err (UnknownCommand closes)) is g = part g
    begun (Err LineTooLong) is g = part g
    begun (Err BadKey) is g = part g
    begun (Err BadNumber) is g = part g
    begun (Err WrongWords) is g = part g
    begun (Err DataTooLong) is g = part g
    begun (Err BadDataEnd) is g = part g
    begun (Err Truncated) is g = part g
    begun (Err Closed) is g = absurd (let closed : now.closed ≡ true = is.0 in cc)
    begun (Err OutOfMemory) is g = (let further = on.further in let more = g.0 in omega arith, subst (λ s. LacksMemoryAt s new.begun) on.kept g.1)
