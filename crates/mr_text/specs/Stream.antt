-- What a reader answers, of requests or of replies, for the bytes that it has not read yet.
use Rattle.std.specs.Prelude.{◌≡◌, ◌≢◌, ℕ, ◌+◌, ◌≤◌, Bool, true, false, List, [], ◌++◌, length, ◌||◌, not, IsTrue, Option, Some, None, Result, Ok, Err}
use Rattle.mr_text.specs.Limits.{MAX_HELD}
use Rattle.mr_text.specs.declared.error.TextError.{TextError}
use Rattle.mr_text.specs.declared.error.TextError.TheVariants.{UnknownCommand, Truncated, Closed, OutOfMemory}

-- a reader as contracts see it: the bytes that it stands for and hasn't given; how many of them are whole lines and
-- blocks that it has read of an item that isn't whole yet; whether the input ended; whether it is closed
pub record ReaderView : Type 0 where
  pub kept : List ℕ
  pub begun : ℕ
  pub ended : Bool
  pub closed : Bool

-- the reader has these bytes still to read
abbrev pub StandsFor : ReaderView → List ℕ → Type 0
StandsFor reader rest = reader.kept ≡ rest

-- how many bytes it has still to read, by which a loop over what it gives ends
abbrev pub unread : ReaderView → ℕ
unread reader = length reader.kept

-- this many bytes came after the last whole line or block that the reader has read
abbrev pub Holds : ReaderView → ℕ → Type 0
Holds reader count = reader.begun + count ≡ length reader.kept

-- they are no more than the longest line or block has, with the first byte of its end
abbrev pub HoldsFew : ReaderView → Type 0
HoldsFew reader = (count : ℕ) → Holds reader count → count ≤ MAX_HELD

-- the bytes begin with this item's spelling, and these follow
pub record BeginsWith {Item : Type 0} (Spells : List ℕ → Item → Type 0) (bytes : List ℕ) (item : Item) (after : List ℕ) : Type 0 where
  pub spelling : List ℕ
  pub spells : Spells spelling item
  pub splits : bytes ≡ spelling ++ after

-- no item is spelled yet and nothing is refused: more bytes may make either
pub record IsUnfinished {Item : Type 0} (Spells : List ℕ → Item → Type 0) (Refuses : TextError → List ℕ → Type 0) (bytes : List ℕ) : Type 0 where
  pub not_spelled : (item : Item) (after : List ℕ) → ¬ BeginsWith Spells bytes item after
  pub not_refused : (refusal : TextError) → ¬ Refuses refusal bytes

-- the refusal that the bytes get; Truncated is for bytes that stop inside an item
abbrev pub FaultAt : {Item : Type 0} → (List ℕ → Item → Type 0) → (TextError → List ℕ → Type 0) → TextError → List ℕ → Type 0
FaultAt Spells Refuses Truncated bytes = (bytes ≢ []) × IsUnfinished Spells Refuses bytes
FaultAt Spells Refuses refusal bytes = Refuses refusal bytes

-- the reader has these bytes still to read, and stands so
pub record Becomes (reader : ReaderView) (rest : List ℕ) (ended closed : Bool) : Type 0 where
  pub stands : StandsFor reader rest
  pub is_ended : reader.ended ≡ ended
  pub is_closed : reader.closed ≡ closed

-- What `next` answers for the bytes that are left, and what it leaves.
--   is_last item: the item closes the reader; Skips bytes after: the bytes begin with a refused line that reading goes on behind
module _ {Item : Type 0} (Spells : List ℕ → Item → Type 0) (Refuses : TextError → List ℕ → Type 0) (Skips : List ℕ → List ℕ → Type 0) (is_last : Item → Bool) where
  abbrev pub NextIs : (old new : ReaderView) → List ℕ → Result (Option Item) TextError → Type 0
  -- an item that the bytes begin with; what follows it is left
  NextIs old new rest (Ok (Some item)) =
      (old.closed ≡ false) × (after : List ℕ) × BeginsWith Spells rest item after × Becomes new after old.ended (is_last item)
  -- nothing yet, or nothing more
  NextIs old new rest (Ok None) =
      (old.closed ≡ false) × IsUnfinished Spells Refuses rest × (old.ended ≡ true → rest ≡ []) × Becomes new rest old.ended false
  NextIs old new rest (Err Closed) = (old.closed ≡ true) × Becomes new rest old.ended true
  -- want of memory comes only where an item is whole
  NextIs old new rest (Err OutOfMemory) =
      (old.closed ≡ false) × (item : Item) × (after : List ℕ) × BeginsWith Spells rest item after × Becomes new rest old.ended false
  -- the input ended inside an item
  NextIs old new rest (Err Truncated) =
      (old.closed ≡ false) × (old.ended ≡ true) × FaultAt Spells Refuses Truncated rest × Becomes new rest old.ended true
  -- a line that is skipped
  NextIs old new rest (Err (UnknownCommand false)) =
      (old.closed ≡ false) × (after : List ℕ) × Skips rest after × Becomes new after old.ended false
  -- any other refusal closes the reader
  NextIs old new rest (Err refusal) = (old.closed ≡ false) × FaultAt Spells Refuses refusal rest × Becomes new rest old.ended true

-- what `feed` answers, and what it leaves
abbrev pub FeedIs : (old new : ReaderView) → List ℕ → List ℕ → Result (Unit {0}) TextError → Type 0
FeedIs old new rest piece (Ok _) = (old.closed ≡ false) × (old.ended ≡ false) × Becomes new (rest ++ piece) false false
FeedIs old new rest piece (Err Closed) = (IsTrue (old.closed || old.ended)) × Becomes new rest old.ended old.closed
FeedIs old new rest piece (Err refusal) =
    (refusal ≡ OutOfMemory) × (old.closed ≡ false) × (old.ended ≡ false) × Becomes new rest false false

-- the refusal that skips its line
abbrev pub skips_line : TextError → Bool
skips_line (UnknownCommand closes) = not closes
skips_line refusal = false
