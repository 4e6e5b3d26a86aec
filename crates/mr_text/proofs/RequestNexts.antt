-- The facts about the reading of requests that `next` rests on.
use Rattle.std.proofs.Common.{◌≡◌, ℕ, List, take, drop, true, false, Option, Some, Result, Ok, Err, sym, ◌∙◌, ap, subst, cond}
use Rattle.mr_text.specs.Requests.{SpellsRequest, RefusesRequest, SkipsLine, HasReadLine, BegunAfter, is_quit}
use Rattle.mr_text.specs.Stream.{ReaderView, StandsFor, Becomes, HoldsFew, skips_line}
use Rattle.mr_text.specs.steps.RequestNext.{IsNextRequest}
use Rattle.mr_text.specs.steps.Waiting.{WaitIs}
use Rattle.mr_text.specs.steps.Reading.{request_reading}
use Rattle.mr_text.specs.steps.Reading.StretchReading.{Waits, Gives, Refused}
use Rattle.mr_text.specs.declared.error.TextError.{TextError}
use Rattle.mr_text.specs.declared.error.TextError.TheVariants.{LineTooLong, BadKey, BadNumber, WrongWords, DataTooLong, BadDataEnd, UnknownCommand, Truncated, Closed, OutOfMemory}
use Rattle.mr_text.specs.declared.request.Request.{Request}
use Rattle.mr_text.proofs.Nexts.{Leaves, RefusedSo, gives, lacks, waiting, truncated, refusing}
use Rattle.mr_text.proofs.RequestReading.{ReadingIs, request_is, request_found, refusal_found}

pub request_given : (bytes : List ℕ) (request : Request) (size : ℕ) → request_reading bytes ≡ Gives request size → SpellsRequest (take size bytes) request
request_given bytes request size e = let is = subst (ReadingIs bytes) e (request_is bytes) in is.1

pub request_refuses : (bytes : List ℕ) (refusal : TextError) (size : ℕ) → request_reading bytes ≡ Refused refusal size → RefusedSo RefusesRequest SkipsLine bytes refusal size
request_refuses bytes refusal size e = go refusal (subst (ReadingIs bytes) e (request_is bytes))
  where
    go : (refusal : TextError) → ReadingIs bytes (Refused refusal size) → RefusedSo RefusesRequest SkipsLine bytes refusal size
    go (UnknownCommand false) h = h.1
    go (UnknownCommand true) h = h
    go LineTooLong h = h
    go BadKey h = h
    go BadNumber h = h
    go WrongWords h = h
    go DataTooLong h = h
    go BadDataEnd h = h
    go Truncated h = h
    go Closed h = h
    go OutOfMemory h = h

module _ (old new : ReaderView) (still : old.closed ≡ false) where
  pub request_gives : (request : Request) (size : ℕ) → request_reading old.kept ≡ Gives request size
      → new ≡ record { kept = drop size old.kept; begun = 0; ended = old.ended; closed = is_quit request } → IsNextRequest old new (Ok (Some request))
  request_gives request size e is = record {
    answer = λ rest stands. gives SpellsRequest RefusesRequest SkipsLine is_quit request_reading request_found refusal_found request_given request_refuses
        old new rest request size still (subst (λ s. request_reading s ≡ Gives request size) stands e)
        (record { stands = ap (λ v. v.kept) is ∙ ap (drop size) stands; is_ended = ap (λ v. v.ended) is; is_closed = ap (λ v. v.closed) is });
    begun = ap (λ v. v.begun) is;
    short = λ none. cc;
  }

  pub request_lacks : (request : Request) (size : ℕ) → request_reading old.kept ≡ Gives request size → new ≡ old → IsNextRequest old new (Err OutOfMemory)
  request_lacks request size e is = record {
    answer = λ rest stands. lacks SpellsRequest RefusesRequest SkipsLine is_quit request_reading request_found refusal_found request_given request_refuses
        old new rest request size still (subst (λ s. request_reading s ≡ Gives request size) stands e)
        (record { stands = ap (λ v. v.kept) is ∙ stands; is_ended = ap (λ v. v.ended) is; is_closed = ap (λ v. v.closed) is ∙ still });
    begun = ap (λ v. v.begun) is;
    short = λ none. cc;
  }

  -- `now` is the reader once it has read the line of what isn't whole
  pub request_waits : (now : ReaderView) (result : Result (Option Request) TextError) → request_reading old.kept ≡ Waits
      → now.kept ≡ old.kept → now.ended ≡ old.ended → now.closed ≡ old.closed
      → HasReadLine old.kept now.begun → HoldsFew now → WaitIs now new result → IsNextRequest old new result
  request_waits now (Ok o) e kept ended closed read few h =
      subst (λ item. IsNextRequest old new (Ok item)) (sym h.0) (record {
        answer = λ rest stands. waiting SpellsRequest RefusesRequest SkipsLine is_quit request_reading request_found refusal_found request_given request_refuses
            old new rest still (subst (λ s. request_reading s ≡ Waits) stands e)
            (λ over. sym (kept ∙ stands) ∙ h.2 (ended ∙ over))
            (record { stands = ap (λ v. v.kept) h.1 ∙ kept ∙ stands; is_ended = ap (λ v. v.ended) h.1 ∙ ended; is_closed = ap (λ v. v.closed) h.1 ∙ closed ∙ still });
        begun = subst (HasReadLine old.kept) (sym (ap (λ v. v.begun) h.1)) read;
        short = λ none. subst HoldsFew (sym h.1) few;
      })
  request_waits now (Err refusal) e kept ended closed read few h =
      subst (λ r. IsNextRequest old new (Err r)) (sym h.0) (record {
        answer = λ rest stands. truncated SpellsRequest RefusesRequest SkipsLine is_quit request_reading request_found refusal_found request_given request_refuses
            old new rest still (subst (λ s. request_reading s ≡ Waits) stands e)
            (sym ended ∙ h.1)
            (λ empty. h.2 (kept ∙ stands ∙ empty))
            (record { stands = ap (λ v. v.kept) h.3 ∙ kept ∙ stands; is_ended = ap (λ v. v.ended) h.3 ∙ ended; is_closed = ap (λ v. v.closed) h.3 });
        begun = subst (HasReadLine old.kept) (sym (ap (λ v. v.begun) h.3)) read;
        short = λ none. cc;
      })

  refused_so : (refusal : TextError) (size : ℕ) → request_reading old.kept ≡ Refused refusal size
      → ((rest : List ℕ) → StandsFor old rest → Leaves old new rest size refusal) → BegunAfter old new (Err refusal) → IsNextRequest old new (Err refusal)
  refused_so refusal size e leaves begun = record {
    answer = λ rest stands. refusing SpellsRequest RefusesRequest SkipsLine is_quit request_reading request_found refusal_found request_given request_refuses
        old new rest refusal size still (subst (λ s. request_reading s ≡ Refused refusal size) stands e) (leaves rest stands);
    begun = begun;
    short = λ none. cc;
  }

  closes_on : new ≡ record old { closed = true } → (rest : List ℕ) → StandsFor old rest → Becomes new rest old.ended true
  closes_on is rest stands = record { stands = ap (λ v. v.kept) is ∙ stands; is_ended = ap (λ v. v.ended) is; is_closed = ap (λ v. v.closed) is }

  -- a refusal skips its line, or closes the reader
  pub request_refused : (refusal : TextError) (size : ℕ) → request_reading old.kept ≡ Refused refusal size
      → new ≡ (cond (skips_line refusal) (record old { kept = drop size old.kept; begun = 0 }) (record old { closed = true })) → IsNextRequest old new (Err refusal)
  request_refused (UnknownCommand false) size e is = refused_so (UnknownCommand false) size e
      (λ rest stands. record { stands = ap (λ v. v.kept) is ∙ ap (drop size) stands; is_ended = ap (λ v. v.ended) is; is_closed = ap (λ v. v.closed) is ∙ still })
      (ap (λ v. v.begun) is)
  request_refused (UnknownCommand true) size e is = refused_so (UnknownCommand true) size e (closes_on is) (ap (λ v. v.begun) is)
  request_refused LineTooLong size e is = refused_so LineTooLong size e (closes_on is) (ap (λ v. v.begun) is)
  request_refused BadKey size e is = refused_so BadKey size e (closes_on is) (ap (λ v. v.begun) is)
  request_refused BadNumber size e is = refused_so BadNumber size e (closes_on is) (ap (λ v. v.begun) is)
  request_refused WrongWords size e is = refused_so WrongWords size e (closes_on is) (ap (λ v. v.begun) is)
  request_refused DataTooLong size e is = refused_so DataTooLong size e (closes_on is) (ap (λ v. v.begun) is)
  request_refused BadDataEnd size e is = refused_so BadDataEnd size e (closes_on is) (ap (λ v. v.begun) is)
  request_refused Truncated size e is = absurd (request_refuses old.kept Truncated size e)
  request_refused Closed size e is = absurd (request_refuses old.kept Closed size e)
  request_refused OutOfMemory size e is = absurd (request_refuses old.kept OutOfMemory size e)
