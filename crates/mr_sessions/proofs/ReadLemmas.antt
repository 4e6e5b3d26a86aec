-- What reads brought so far.
use Rattle.std.proofs.Common.{◌≡◌, ◌∙◌, ℕ, ◌+◌, ◌≤◌, ◌⊎◌, Bool, List, [], ◌++◌, true, false, Option, Some, None, Result, Ok, Err, refl, sym, ap, subst, inl, inr, arith, append_assoc}
use Rattle.std.proofs.KnownBytes.{Consumes-nil, Consumes-trans}
use Rattle.std.proofs.lemmas.List.{append-nil}
use Rattle.mr_text.specs.Replies.{SpellsReply, RefusesReply, HoldsReply, HoldsPartOfReply, MayWantMemory, NextReplyIs}
use Rattle.mr_text.specs.Source.{SourceView, AreOffered, least_with}
use Rattle.mr_text.specs.Stream.{ReaderView, BeginsWith, Becomes}
use Rattle.mr_text.specs.declared.error.TextError.{TextError}
use Rattle.mr_text.specs.declared.error.TextError.TheVariants.{LineTooLong, BadKey, BadNumber, WrongWords, DataTooLong, BadDataEnd, UnknownCommand, Truncated, Closed, OutOfMemory as NoMemory}
use Rattle.mr_text.specs.declared.reply.Reply.{Reply}
use Rattle.mr_desks.specs.declared.error.WorkerError.{WorkerError}
use Rattle.mr_desks.specs.declared.error.WorkerError.TheVariants.{LinkBroken, Mismatch, BookDiffers, ReadFault, WriteFault, TurnsSpent, OutOfMemory, NoThread}
use Rattle.mr_sessions.specs.Reading.{NeedsMore, BringsPiece, Brings, HasBrought, HasNoReply, read_length}
use Rattle.mr_sessions.specs.steps.Reading.{IsOpen, NextIs, ReplyPieceIs, fault_of}

-- what memory is wanted for
wanted : (ended : Bool) (bytes : List ℕ) → MayWantMemory ended bytes → HoldsReply bytes ⊎ HoldsPartOfReply bytes
wanted ended bytes (inl whole) = inl whole
wanted ended bytes (inr part) = inr part.1

-- one more read is offered as much
still_offered : (least room : ℕ) (old new : Option ℕ) → least ≤ room → AreOffered least old → new ≡ least_with old room → AreOffered least new
still_offered least room None new enough before is = subst (AreOffered least) (sym is) enough
still_offered least room (Some some) new enough before is = subst (AreOffered least) (sym is) (omega (arith, before, enough))

-- a refusal of the replies, as the link tells it
module _ (old new : ReaderView) where
  refused : (refusal : TextError) → RefusesReply refusal old.kept → (other : TextError) × RefusesReply other old.kept
  refused refusal is = (refusal, is)

  pub next_refused : (refusal : TextError) → IsOpen old → NextReplyIs old new old.kept (Err refusal)
      → NextIs old.kept (Err (fault_of refusal)) new
  next_refused LineTooLong going is = refused LineTooLong is.1
  next_refused BadKey going is = refused BadKey is.1
  next_refused BadNumber going is = refused BadNumber is.1
  next_refused WrongWords going is = refused WrongWords is.1
  next_refused DataTooLong going is = refused DataTooLong is.1
  next_refused BadDataEnd going is = refused BadDataEnd is.1
  next_refused (UnknownCommand true) going is = refused (UnknownCommand true) is.1
  next_refused (UnknownCommand false) going is = absurd is.2
  next_refused Truncated going is = (let unended = going.0 in let ended = is.1 in let both : true ≡ false = sym ended ∙ unended in cc)
  next_refused Closed going is = (let unclosed = going.1 in let closed = is.0 in let both : true ≡ false = sym closed ∙ unclosed in cc)
  next_refused NoMemory going is = wanted old.ended old.kept is.1

  -- an answer that is no refusal
  pub next_given : (found : Option Reply) → IsOpen old → NextReplyIs old new old.kept (Ok found) → NextIs old.kept (Ok found) new
  next_given (Some reply) going is =
      (subst (BeginsWith SpellsReply old.kept reply) (sym is.3.stands) is.2, (is.3.is_ended ∙ going.0, is.3.is_closed))
  next_given None going is =
      (is.1, record { stands = is.3.stands; is_ended = is.3.is_ended ∙ going.0; is_closed = is.3.is_closed })

-- reading under way: what came so far, and what is kept
pub record Reading (turns : ℕ) (kept : List ℕ) (old : SourceView) (turns_left : ℕ) (replies : ReaderView) (now : SourceView) : Type 0 where
  pub came : List ℕ
  pub brought : HasBrought turns kept came old now
  pub becomes : Becomes replies (kept ++ came) false false
  pub counted : now.reads + turns_left ≡ old.reads + turns

module _ (turns : ℕ) (kept : List ℕ) (old : SourceView) where
  brought_nothing : HasBrought turns kept [] old old
  brought_nothing = record {
    count = 0;
    brings = Brings.begins;
    allowed = omega arith;
    takes = sym (append-nil old.taken);
    leaves = Consumes-nil old.left;
    counted = omega arith;
    offered = λ e. e;
    steady = refl;
  }

  pub reading_begins : (replies : ReaderView) → replies.kept ≡ kept → IsOpen replies → Reading turns kept old turns replies old
  reading_begins replies is going = record {
    came = [];
    brought = brought_nothing;
    becomes = record { stands = is ∙ sym (append-nil kept); is_ended = going.0; is_closed = going.1 };
    counted = omega arith;
  }

  -- one more piece
  brought_more : (came piece : List ℕ) (between new : SourceView) (so : HasBrought turns kept came old between) → NeedsMore (kept ++ came)
      → so.count + 1 ≤ turns → BringsPiece piece between new → HasBrought turns kept (came ++ piece) old new
  brought_more came piece between new so needs allowed one = record {
    count = so.count + 1;
    brings = Brings.reads piece so.brings needs one;
    allowed = allowed;
    takes = one.takes ∙ ap (λ (t : List ℕ). t ++ piece) so.takes ∙ append_assoc old.taken came piece;
    leaves = Consumes-trans old.left between.left new.left came piece so.leaves one.leaves;
    counted = (let before = so.counted in let once = one.once in omega arith);
    offered = λ e. still_offered read_length read_length between.least_room new.least_room (omega arith) (so.offered e) one.offered;
    steady = one.steady ∙ so.steady;
  }

  module _ (left left' : ℕ) (replies : ReaderView) (now : SourceView) (so : Reading turns kept old left replies now) (needs : NeedsMore (kept ++ so.came))
      (is : left ≡ left' + 1) where
    allowed_more : so.brought.count + 1 ≤ turns
    allowed_more = (let counted = so.counted in let before = so.brought.counted in omega arith)

    reading_goes_on : (replies' : ReaderView) (new : SourceView) → ReplyPieceIs (kept ++ so.came) now (Ok tt) replies' new → Reading turns kept old left' replies' new
    reading_goes_on replies' new piece = record {
      came = so.came ++ piece.0;
      brought = brought_more so.came piece.0 now new so.brought needs allowed_more piece.1;
      becomes = subst (λ (r : List ℕ). Becomes replies' r false false) (append_assoc kept so.came piece.0) piece.2;
      counted = (let counted = so.counted in let once = piece.1.once in omega arith);
    }

    allowed_last : (new : SourceView) → new.reads ≡ now.reads + 1 → new.reads ≤ old.reads + turns
    allowed_last new once = (let counted = so.counted in omega arith)

    reading_stops : (fault : WorkerError) (replies' : ReaderView) (new : SourceView) → ReplyPieceIs (kept ++ so.came) now (Err fault) replies' new
        → HasNoReply turns kept old fault new
    reading_stops ReadFault replies' new last = record {
      came = so.came;
      between = now;
      brought = so.brought;
      needs = needs;
      last = last;
      allowed = allowed_last new last.once;
    }
    reading_stops LinkBroken replies' new last = record {
      came = so.came;
      between = now;
      brought = so.brought;
      needs = needs;
      last = last;
      allowed = allowed_last new last.once;
    }
    reading_stops OutOfMemory replies' new last = record {
      came = so.came ++ last.0;
      brought = brought_more so.came last.0 now new so.brought needs allowed_more last.1;
      wanted = inr (inr (let once = last.1.once in let before = so.brought.counted in omega arith));
    }
    reading_stops Mismatch replies' new last = absurd last
    reading_stops BookDiffers replies' new last = absurd last
    reading_stops WriteFault replies' new last = absurd last
    reading_stops TurnsSpent replies' new last = absurd last
    reading_stops NoThread replies' new last = absurd last

  module _ (left : ℕ) (replies : ReaderView) (now : SourceView) (so : Reading turns kept old left replies now) where
    pub needs_more : (replies' : ReaderView) → NextIs replies.kept (Ok None) replies' → NeedsMore (kept ++ so.came)
    needs_more replies' next = subst NeedsMore so.becomes.stands next.0

    -- the piece that a read brings stands behind what was kept and came before
    module _ (left' : ℕ) (is : left ≡ left' + 1) (replies' : ReaderView) (next : NextIs replies.kept (Ok None) replies') (replies'' : ReaderView)
        (new : SourceView) where
      behind : (result : Result (Unit {0}) WorkerError) → ReplyPieceIs replies'.kept now result replies'' new → ReplyPieceIs (kept ++ so.came) now result replies'' new
      behind result piece = subst (λ (r : List ℕ). ReplyPieceIs r now result replies'' new) (next.1.stands ∙ so.becomes.stands) piece

      pub fed : ReplyPieceIs replies'.kept now (Ok tt) replies'' new → Reading turns kept old left' replies'' new
      fed piece = reading_goes_on left left' replies now so (needs_more replies' next) is replies'' new (behind (Ok tt) piece)

      pub unfed : (fault : WorkerError) → ReplyPieceIs replies'.kept now (Err fault) replies'' new → HasNoReply turns kept old fault new
      unfed fault piece = reading_stops left left' replies now so (needs_more replies' next) is fault replies'' new (behind (Err fault) piece)
