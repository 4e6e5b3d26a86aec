-- A stream as the readers see it: what it keeps, and what contracts alone remember.
use Rattle.std.specs.Prelude.{◌≡◌, ◌≢◌, ◌≤◌, ℕ, Bool, true, false, List, [], ◌++◌, length, take, drop, ◌||◌, IsTrue, Option, None, Result, Ok, Err}
use Rattle.mr_lines.specs.Lines.{byte_place}
use Rattle.mr_text.specs.Stream.{ReaderView}
use Rattle.mr_text.specs.declared.error.TextError.{TextError}
use Rattle.mr_text.specs.declared.error.TextError.TheVariants.{Truncated, Closed, OutOfMemory}

-- what was read of an unfinished text, what came after it, whether the input ended, and whether reading is over
pub record StreamView : Type 0 where
  pub front : List ℕ
  pub unread : List ℕ
  pub ended : Bool
  pub closed : Bool

-- a stream on which nothing came yet
abbrev pub nothing_came : StreamView
nothing_came = record { front = []; unread = []; ended = false; closed = false }

-- the reader that stands on this stream
abbrev pub reader_of : StreamView → ReaderView
reader_of stream = record {
  kept = stream.front ++ stream.unread;
  begun = length stream.front;
  ended = stream.ended;
  closed = stream.closed;
}

-- no line ends among the bytes that were looked over
pub record IsScanned (unread : List ℕ) (scanned : ℕ) : Type 0 where
  pub within : scanned ≤ length unread
  pub none : byte_place 10 (take scanned unread) ≡ None

-- what `feed` answers, and what it leaves
abbrev pub TakesPiece : StreamView → StreamView → List ℕ → Result (Unit {0}) TextError → Type 0
TakesPiece old new piece (Ok _) =
    (old.closed ≡ false) × (old.ended ≡ false) × (new ≡ record old { unread = old.unread ++ piece })
TakesPiece old new piece (Err Closed) = IsTrue (old.closed || old.ended) × (new ≡ old)
TakesPiece old new piece (Err refusal) =
    (refusal ≡ OutOfMemory) × (old.closed ≡ false) × (old.ended ≡ false) × (new ≡ old)

-- so many bytes more of an unfinished text were read
abbrev pub with_read : ℕ → StreamView → StreamView
with_read count stream =
    record stream { front = stream.front ++ take count stream.unread; unread = drop count stream.unread }

-- a text was given that ends behind so many bytes
abbrev pub with_given : ℕ → StreamView → StreamView
with_given count stream = record stream { front = []; unread = drop count stream.unread }

-- nothing is whole: where the input ended inside a text, that is the refusal, and it closes the stream
abbrev pub StreamWaits : {Item : Type 0} → StreamView → StreamView → Result (Option Item) TextError → Type 0
StreamWaits old new (Ok item) = (item ≡ None) × (new ≡ old) × (old.ended ≡ true → old.front ++ old.unread ≡ [])
StreamWaits old new (Err refusal) =
    (refusal ≡ Truncated) × (old.ended ≡ true) × (old.front ++ old.unread ≢ []) × (new ≡ record old { closed = true })
