-- A set of which the line was read: what its line says, and what is read of it behind the line.
use Rattle.std.proofs.Common.{◌≡◌, ℕ, ◌+◌, ◌≤◌, Bool, true, false, List, ◌++◌, length, take, drop, Ok, Err, refl, ◌∙◌, subst, arith, inl, inr, ℤ, length-drop}
use Rattle.std.proofs.Math.Seq.{drop-append_seam}
use Rattle.mr_lines.specs.Words.{words_of}
use Rattle.mr_text.specs.Limits.{MAX_BLOCK}
use Rattle.mr_text.specs.Requests.{IsSetLine, HasReadLine}
use Rattle.mr_text.specs.Stream.{ReaderView, HoldsFew}
use Rattle.mr_text.specs.steps.Reading.{line_reading, command_line, block_reading, set_reading, request_reading}
use Rattle.mr_text.specs.steps.Reading.StretchReading.{Waits, Gives, Refused}
use Rattle.mr_text.specs.steps.Reading.CommandLine.{SetLine}
use Rattle.mr_text.specs.declared.error.TextError.{TextError}
use Rattle.mr_text.specs.declared.request.Request.TheVariants.{Set}
use Rattle.mr_text.proofs.Lines.{IsRead, LineIs, line_is}
use Rattle.mr_text.proofs.RequestReading.{LineSays, line_says, set_line, set_line_found, words_found}
use Rattle.mr_text.proofs.ShortRequests.{block_waits, line_waits}

module _ (key : List ℕ) (flags : ℕ) (exptime : ℤ) (n : ℕ) (noreply : Bool) where
  -- the bytes of the line
  pub begun_line : (bytes line : List ℕ) (size : ℕ) → line_reading bytes ≡ Gives line size → command_line (words_of line) ≡ Ok (SetLine key flags exptime n noreply)
      → IsSetLine (take size bytes) key flags exptime n noreply
  begun_line bytes line size e says =
      let read : IsRead bytes line size = subst (LineIs bytes) e (line_is bytes) in
      let h = subst (LineSays (words_of line)) says (line_says (words_of line)) in
      set_line bytes line size read key h.0 h.1 h.2 noreply flags exptime n h.3 h.4 h.5

  -- where the block isn't whole, the request isn't
  pub begun_unfinished : (bytes line : List ℕ) (size : ℕ) → line_reading bytes ≡ Gives line size → command_line (words_of line) ≡ Ok (SetLine key flags exptime n noreply)
      → block_reading n (drop size bytes) ≡ Ok false → request_reading bytes ≡ Waits
  unfolding request_reading
  begun_unfinished bytes line size e says waits = rw (e, says, waits) refl

  pub begun_few : (reader : ReaderView) (size : ℕ) → reader.begun ≡ size → n ≤ MAX_BLOCK → block_reading n (drop size reader.kept) ≡ Ok false → HoldsFew reader
  begun_few reader size is allowed waits = λ count holds.
      let short = block_waits n (drop size reader.kept) waits in
      let behind = length-drop size reader.kept in
      let all : reader.begun + count ≡ length reader.kept = holds in
      omega arith

  module _ (front unread : List ℕ) (h : IsSetLine front key flags exptime n noreply) where
    pub begun_read : HasReadLine (front ++ unread) (length front)
    begun_read = inl (front, h.is_line.is_line.line, unread, refl, h.is_line.is_line.is_line, refl)

    -- what is read of the set
    pub begun_reading : n ≤ MAX_BLOCK → request_reading (front ++ unread) ≡ set_reading (front ++ unread) key flags exptime n noreply (length front) (block_reading n unread)
    begun_reading allowed = elim (set_line_found front key flags exptime n noreply h) [
      | inl over ↦ absurd (let long = over.1 in omega arith)
      | inr fits ↦ read fits.0
    ]
      where
        read : command_line h.is_line.words ≡ Ok (SetLine key flags exptime n noreply)
            → request_reading (front ++ unread) ≡ set_reading (front ++ unread) key flags exptime n noreply (length front) (block_reading n unread)
        read e =
            let found = words_found front unread h.is_line.words h.is_line.is_line in
            let behind = drop-append_seam front unread in
            rw (found, e, behind) refl

    pub begun_gives : n ≤ MAX_BLOCK → block_reading n unread ≡ Ok true
        → request_reading (front ++ unread) ≡ Gives (Set key flags exptime (take n unread) noreply) (length front + n + 2)
    begun_gives allowed e =
        let behind = drop-append_seam front unread in
        begun_reading allowed ∙ rw (e, behind) refl

    pub begun_waits : n ≤ MAX_BLOCK → block_reading n unread ≡ Ok false → request_reading (front ++ unread) ≡ Waits
    begun_waits allowed e = begun_reading allowed ∙ rw e refl

    pub begun_refused : (refusal : TextError) → n ≤ MAX_BLOCK → block_reading n unread ≡ Err refusal → request_reading (front ++ unread) ≡ Refused refusal 0
    begun_refused refusal allowed e = begun_reading allowed ∙ rw e refl

-- where no line is whole, nothing is read
pub nothing_read : (reader : ReaderView) → reader.begun ≡ 0 → line_reading reader.kept ≡ Waits → HasReadLine reader.kept reader.begun
nothing_read reader is waits = inr ((line_waits reader.kept waits).0, is)

pub nothing_few : (reader : ReaderView) → reader.begun ≡ 0 → line_reading reader.kept ≡ Waits → HoldsFew reader
nothing_few reader is waits = λ count holds.
    let short = (line_waits reader.kept waits).1 in
    let all : reader.begun + count ≡ length reader.kept = holds in
    omega arith

pub nothing_unfinished : (bytes : List ℕ) → line_reading bytes ≡ Waits → request_reading bytes ≡ Waits
unfolding request_reading
nothing_unfinished bytes e = rw e refl
