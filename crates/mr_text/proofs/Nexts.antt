-- What `next` answers, of requests or replies, from what the reading of the bytes that are left finds.
use Rattle.std.proofs.Common.{◌≡◌, ◌≢◌, ℕ, Bool, true, false, List, [], ◌++◌, length, take, drop, Option, Some, None, Result, Ok, Err, sym}
use Rattle.std.proofs.lemmas.List.{take-append-drop}
use Rattle.mr_text.specs.Stream.{ReaderView, Becomes, BeginsWith, IsUnfinished, NextIs}
use Rattle.mr_text.specs.steps.Reading.{StretchReading}
use Rattle.mr_text.specs.steps.Reading.StretchReading.{Waits, Gives, Refused}
use Rattle.mr_text.specs.declared.error.TextError.{TextError}
use Rattle.mr_text.specs.declared.error.TextError.TheVariants.{LineTooLong, BadKey, BadNumber, WrongWords, DataTooLong, BadDataEnd, UnknownCommand, Truncated, Closed, OutOfMemory}

-- what a refusal leaves: what follows the line that it skips, or a closed reader
abbrev pub Leaves : ReaderView → ReaderView → List ℕ → ℕ → TextError → Type 0
Leaves old new rest size (UnknownCommand false) = Becomes new (drop size rest) old.ended false
Leaves old new rest size refusal = Becomes new rest old.ended true

-- a refusal that was read: of a skipped line, or of what the bytes begin with
abbrev pub RefusedSo : (TextError → List ℕ → Type 0) → (List ℕ → List ℕ → Type 0) → List ℕ → TextError → ℕ → Type 0
RefusedSo Refuses Skips bytes (UnknownCommand false) size = Skips bytes (drop size bytes)
RefusedSo Refuses Skips bytes (UnknownCommand true) size = Refuses (UnknownCommand true) bytes
RefusedSo Refuses Skips bytes Truncated size = ⊥
RefusedSo Refuses Skips bytes Closed size = ⊥
RefusedSo Refuses Skips bytes OutOfMemory size = ⊥
RefusedSo Refuses Skips bytes refusal size = Refuses refusal bytes

module _ {Item : Type 0} (Spells : List ℕ → Item → Type 0) (Refuses : TextError → List ℕ → Type 0) (Skips : List ℕ → List ℕ → Type 0) (is_last : Item → Bool)
    (reading : List ℕ → StretchReading Item)
    (found : (bytes : List ℕ) (item : Item) (after : List ℕ) → Spells bytes item → reading (bytes ++ after) ≡ Gives item (length bytes))
    (refused : (refusal : TextError) (bytes : List ℕ) → Refuses refusal bytes → (size : ℕ) × (reading bytes ≡ Refused refusal size))
    (given : (bytes : List ℕ) (item : Item) (size : ℕ) → reading bytes ≡ Gives item size → Spells (take size bytes) item)
    (refuses : (bytes : List ℕ) (refusal : TextError) (size : ℕ) → reading bytes ≡ Refused refusal size → RefusedSo Refuses Skips bytes refusal size) where
  abbrev Next : ReaderView → ReaderView → List ℕ → Result (Option Item) TextError → Type 0
  Next old new rest r = NextIs Spells Refuses Skips is_last old new rest r

  -- what is read begins the bytes
  pub begins : (rest : List ℕ) (item : Item) (size : ℕ) → reading rest ≡ Gives item size → BeginsWith Spells rest item (drop size rest)
  begins rest item size e = record { spelling = take size rest; spells = given rest item size e; splits = sym (take-append-drop size rest) }

  -- where the reading waits, nothing is spelled and nothing refused
  pub waits : (rest : List ℕ) → reading rest ≡ Waits → IsUnfinished Spells Refuses rest
  waits rest e = record {
    not_spelled = λ item after h.
        let there = found h.spelling item after h.spells in
        let same : reading rest ≡ Gives item (length h.spelling) = rw h.splits there in cc;
    not_refused = λ refusal h. let there = refused refusal rest h in let e' = there.1 in cc;
  }

  pub gives : (old new : ReaderView) (rest : List ℕ) (item : Item) (size : ℕ) → old.closed ≡ false → reading rest ≡ Gives item size
      → Becomes new (drop size rest) old.ended (is_last item) → Next old new rest (Ok (Some item))
  gives old new rest item size closed e becomes = (closed, drop size rest, begins rest item size e, becomes)

  pub lacks : (old new : ReaderView) (rest : List ℕ) (item : Item) (size : ℕ) → old.closed ≡ false → reading rest ≡ Gives item size
      → Becomes new rest old.ended false → Next old new rest (Err OutOfMemory)
  lacks old new rest item size closed e becomes = (closed, item, drop size rest, begins rest item size e, becomes)

  pub waiting : (old new : ReaderView) (rest : List ℕ) → old.closed ≡ false → reading rest ≡ Waits → (old.ended ≡ true → rest ≡ [])
      → Becomes new rest old.ended false → Next old new rest (Ok None)
  waiting old new rest closed e ended becomes = (closed, waits rest e, ended, becomes)

  pub truncated : (old new : ReaderView) (rest : List ℕ) → old.closed ≡ false → reading rest ≡ Waits → old.ended ≡ true → rest ≢ []
      → Becomes new rest old.ended true → Next old new rest (Err Truncated)
  truncated old new rest closed e ended some becomes = (closed, ended, (some, waits rest e), becomes)

  pub refusing : (old new : ReaderView) (rest : List ℕ) (refusal : TextError) (size : ℕ) → old.closed ≡ false
      → reading rest ≡ Refused refusal size → Leaves old new rest size refusal → Next old new rest (Err refusal)
  refusing old new rest refusal size closed e becomes = go refusal (refuses rest refusal size e) becomes
    where
      go : (refusal : TextError) → RefusedSo Refuses Skips rest refusal size → Leaves old new rest size refusal → Next old new rest (Err refusal)
      go (UnknownCommand false) h becomes = (closed, drop size rest, h, becomes)
      go (UnknownCommand true) h becomes = (closed, h, becomes)
      go LineTooLong h becomes = (closed, h, becomes)
      go BadKey h becomes = (closed, h, becomes)
      go BadNumber h becomes = (closed, h, becomes)
      go WrongWords h becomes = (closed, h, becomes)
      go DataTooLong h becomes = (closed, h, becomes)
      go BadDataEnd h becomes = (closed, h, becomes)
      go Truncated h becomes = absurd h
      go Closed h becomes = absurd h
      go OutOfMemory h becomes = absurd h
