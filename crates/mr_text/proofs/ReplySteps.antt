-- The reading of the items of a reply finds what the relations say, step by step.
use Rattle.std.proofs.Common.{◌≡◌, ℕ, zero, suc, ◌+◌, ◌-◌, ◌<◌, ◌≤◌, Bool, true, false, List, [], ◌∷◌, ◌++◌, length, take, drop, Result, Ok, Err, refl, sym, ◌∙◌, ap, subst, arith, codes, inl, inr, append_assoc, length-append, length-drop}
use Rattle.std.proofs.Math.Seq.{take-append_seam, drop-append_seam}
use Rattle.std.proofs.lemmas.List.{length-take-le, take-append-drop}
use Rattle.mr_lines.specs.Words.{words_of}
use Rattle.mr_text.specs.Requests.{IsLineOfWords, BeginsWithWords, block_end}
use Rattle.mr_text.specs.Replies.{item_words, IsItemLine, SpellsItem, HasRoom, AreWrongReply, BeginsWithItemWords, BeginsWithItemLine, RefusesBehind}
use Rattle.mr_text.specs.steps.Reading.{StretchReading, line_reading, block_reading}
use Rattle.mr_text.specs.steps.Reading.StretchReading.{Waits, Gives, Refused}
use Rattle.mr_text.specs.steps.ReplyReading.{ReplyLine, Step, next_line, item_line, item_step, step_of_line, step_of_reading, step_reading}
use Rattle.mr_text.specs.steps.ReplyReading.ReplyLine.{ItemLine, EndLine, LoneLine}
use Rattle.mr_text.specs.steps.ReplyReading.Step.{ItemStep, EndStep}
use Rattle.mr_text.specs.declared.item.Item.{Item}
use Rattle.mr_text.specs.Limits.{MAX_BLOCK, MAX_ITEMS}
use Rattle.mr_text.specs.declared.error.TextError.{TextError}
use Rattle.mr_text.specs.declared.error.TextError.TheVariants.{LineTooLong, BadKey, BadNumber, WrongWords, DataTooLong, BadDataEnd, UnknownCommand, Truncated, Closed, OutOfMemory}
use Rattle.mr_text.proofs.Blocks.{block_found, bad_found, IsBlockRead, BlockIs, block_is}
use Rattle.mr_text.proofs.Lines.{line_found, long_found, IsRead, LineIs, line_is}
use Rattle.mr_text.proofs.ReplyLines.{GoodItem, BadItemKey, BadItemNumber, good_item_found, bad_item_key_found, bad_item_number_found, NextLineIs, next_line_is, end_found, value_found, wrong_next_found}

-- the reading of a line of these words
pub step_found : (room : ℕ) (start after : List ℕ) (words : List (List ℕ)) → IsLineOfWords start words
    → step_reading room (start ++ after) ≡ step_of_line (start ++ after) (length start) (next_line room words)
unfolding step_reading
step_found room start after words h = let line = line_found start after h.line h.is_line h.not_long in rw (line, h.splits) refl

pub end_step_found : (room : ℕ) (start after : List ℕ) → IsLineOfWords start (codes "END" ∷ []) → step_reading room (start ++ after) ≡ Gives EndStep (length start)
end_step_found room start after h = rw (step_found room start after (codes "END" ∷ []) h, end_found room) refl

-- a good item line, once it is read
good_of : (bytes key : List ℕ) (flags block_length : ℕ) (h : IsItemLine bytes key flags block_length) → GoodItem (key ∷ h.flags_word ∷ h.length_word ∷ []) key flags block_length
good_of bytes key flags block_length h = record { flags_word = h.flags_word; length_word = h.length_word; splits = refl; is_key = h.is_key; numbers = h.numbers }

pub item_line_found : (room : ℕ) (line after key : List ℕ) (flags block_length : ℕ) → 0 < room → IsItemLine line key flags block_length → block_length ≤ MAX_BLOCK
    → step_reading room (line ++ after) ≡ item_step (line ++ after) (length line) key flags block_length (block_reading block_length after)
item_line_found room line after key flags block_length more h allowed =
    elim (good_item_found (key ∷ h.flags_word ∷ h.length_word ∷ []) key flags block_length (good_of line key flags block_length h)) [
      | inl long ↦ absurd (let over = long.1 in omega arith)
      | inr fits ↦ let said = fits.0 in
          let behind = drop-append_seam line after in
          let start = step_found room line after (item_words key h.flags_word h.length_word) h.is_line in
          let value = value_found room (key ∷ h.flags_word ∷ h.length_word ∷ []) more in
          let read : step_of_line (line ++ after) (length line) (Ok (ItemLine key flags block_length))
          ≡ item_step (line ++ after) (length line) key flags block_length (block_reading block_length after) =
          ap (λ s. item_step (line ++ after) (length line) key flags block_length (block_reading block_length s)) behind in
          start ∙ ap (step_of_line (line ++ after) (length line)) (value ∙ said) ∙ read
    ]

pub long_item_found : (room : ℕ) (line after key : List ℕ) (flags block_length : ℕ) → 0 < room → IsItemLine line key flags block_length → MAX_BLOCK < block_length
    → step_reading room (line ++ after) ≡ Refused DataTooLong 0
long_item_found room line after key flags block_length more h long =
    elim (good_item_found (key ∷ h.flags_word ∷ h.length_word ∷ []) key flags block_length (good_of line key flags block_length h)) [
      | inl over ↦ let said = over.0 in
          step_found room line after (item_words key h.flags_word h.length_word) h.is_line
          ∙ ap (step_of_line (line ++ after) (length line)) (value_found room (key ∷ h.flags_word ∷ h.length_word ∷ []) more ∙ said)
      | inr fits ↦ absurd (let small = fits.1 in omega arith)
    ]

-- an item with its block is read
pub item_found : (room : ℕ) (front after : List ℕ) (item : Item) → 0 < room → SpellsItem front item → step_reading room (front ++ after) ≡ Gives (ItemStep item) (length front)
item_found room front after item more h =
    let block = item.block in
    let rest = block ++ (13 ∷ 10 ∷ after) in
    let joined : front ++ after ≡ h.line ++ rest =
    ap (λ s. s ++ after) h.follows ∙ append_assoc h.line (block ++ block_end) after ∙ ap (λ s. h.line ++ s) (append_assoc block block_end after) in
    let size : length front ≡ length h.line + length block + 2 =
    ap length h.follows ∙ length-append h.line (block ++ block_end) ∙ rw (length-append block block_end) (omega arith) in
    let line = item_line_found room h.line rest item.key item.flags (length block) more h.is_line h.is_block in
    let there = block_found block after in
    let behind = drop-append_seam h.line rest in
    let taken : take (length block) rest ≡ block = take-append_seam block (13 ∷ 10 ∷ after) in
    let read : Gives (ItemStep (record { key = item.key; flags = item.flags; block = take (length block) (drop (length h.line) (h.line ++ rest)) })) (length h.line + length block + 2)
    ≡ Gives (ItemStep item) (length front) = rw (behind, taken, size) refl in
    ap (step_reading room) joined ∙ line ∙ ap (item_step (h.line ++ rest) (length h.line) item.key item.flags (length block)) there ∙ read

abbrev pub StepRefused : ℕ → List ℕ → TextError → Type 0
StepRefused room bytes refusal = (size : ℕ) × (step_reading room bytes ≡ Refused refusal size)

bad_words : (count room : ℕ) (bytes key flags_word length_word after : List ℕ) (refusal : TextError) → 0 < room
    → BeginsWithItemWords count bytes key flags_word length_word after → item_line (key ∷ flags_word ∷ length_word ∷ []) ≡ Err refusal → StepRefused room bytes refusal
bad_words count room bytes key flags_word length_word after refusal more h e = (
  0,
  ap (step_reading room) h.splits ∙ step_found room h.line after (item_words key flags_word length_word) h.is_line
      ∙ ap (step_of_line (h.line ++ after) (length h.line)) (value_found room (key ∷ flags_word ∷ length_word ∷ []) more ∙ e),
)

-- what is refused behind an item is read so
pub step_refusal_found : (count room : ℕ) → count + room ≡ MAX_ITEMS → 0 < count → (refusal : TextError) (bytes : List ℕ) → RefusesBehind count refusal bytes → StepRefused room bytes refusal
unfolding step_reading
step_refusal_found count room sum some LineTooLong bytes h = (0, rw (long_found bytes h) refl)
step_refusal_found count room sum some (UnknownCommand true) bytes h = absurd (let none = h.0 in omega arith)
step_refusal_found count room sum some (UnknownCommand false) bytes h = absurd h
step_refusal_found zero room sum some WrongWords bytes h = absurd (omega arith)
step_refusal_found (suc count) room sum some WrongWords bytes h =
    let begins = h.1 in
    let wrong = wrong_next_found room h.0 h.2.0 (λ k f l more. h.2.1 k f l (omega arith)) in
    (0, ap (step_reading room) begins.splits ∙ step_found room begins.line begins.after h.0 begins.is_line ∙ ap (step_of_line (begins.line ++ begins.after) (length begins.line)) wrong)
step_refusal_found count room sum some BadKey bytes h =
    bad_words count room bytes h.key h.flags_word h.length_word h.after BadKey (let r = h.begins.room in omega arith) h.begins
    (bad_item_key_found (h.key ∷ h.flags_word ∷ h.length_word ∷ []) (record { key = h.key; flags_word = h.flags_word; length_word = h.length_word; splits = refl; bad = h.bad }))
step_refusal_found count room sum some BadNumber bytes h =
    bad_words count room bytes h.key h.flags_word h.length_word h.after BadNumber (let r = h.begins.room in omega arith) h.begins
    (bad_item_number_found (h.key ∷ h.flags_word ∷ h.length_word ∷ []) (record { key = h.key; flags_word = h.flags_word; length_word = h.length_word; splits = refl; is_key = h.is_key; bad = h.bad }))
step_refusal_found count room sum some DataTooLong bytes h = let begins = h.2 in
    (0, ap (step_reading room) begins.splits ∙ long_item_found room begins.line h.1 begins.key begins.flags h.0 (let r = begins.room in omega arith) begins.is_line h.3)
step_refusal_found count room sum some BadDataEnd bytes h = let begins = h.2 in (
  0,
  ap (step_reading room) begins.splits ∙ item_line_found room begins.line h.1 begins.key begins.flags h.0 (let r = begins.room in omega arith) begins.is_line h.3
      ∙ ap (item_step (begins.line ++ h.1) (length begins.line) begins.key begins.flags h.0) (bad_found h.0 h.1 h.4),
)
step_refusal_found count room sum some Truncated bytes h = absurd h
step_refusal_found count room sum some Closed bytes h = absurd h
step_refusal_found count room sum some OutOfMemory bytes h = absurd h

-- what the reading of a step finds is right
abbrev pub StepIs : ℕ → List ℕ → StretchReading Step → Type 0
StepIs count bytes Waits = Unit {0}
StepIs count bytes (Gives (ItemStep item) size) = (size ≤ length bytes) × SpellsItem (take size bytes) item × HasRoom count
StepIs count bytes (Gives EndStep size) = (size ≤ length bytes) × IsLineOfWords (take size bytes) (codes "END" ∷ [])
StepIs count bytes (Refused refusal size) = RefusesBehind count refusal bytes

-- what the words of a line say behind so many items
abbrev pub LineSays : ℕ → List (List ℕ) → Result ReplyLine TextError → Type 0
LineSays count words (Ok (ItemLine key flags block_length)) =
    HasRoom count × (behind : List (List ℕ)) × (words ≡ codes "VALUE" ∷ behind) × GoodItem behind key flags block_length × (block_length ≤ MAX_BLOCK)
LineSays count words (Ok EndLine) = words ≡ codes "END" ∷ []
LineSays count words (Ok (LoneLine reply)) = ⊥
LineSays count words (Err WrongWords) = AreWrongReply count words
LineSays count words (Err BadKey) = HasRoom count × (behind : List (List ℕ)) × (words ≡ codes "VALUE" ∷ behind) × BadItemKey behind
LineSays count words (Err BadNumber) = HasRoom count × (behind : List (List ℕ)) × (words ≡ codes "VALUE" ∷ behind) × BadItemNumber behind
LineSays count words (Err DataTooLong) =
    HasRoom count × (behind : List (List ℕ)) × (words ≡ codes "VALUE" ∷ behind) ×
    ((key : List ℕ) × (flags : ℕ) × (block_length : ℕ) × GoodItem behind key flags block_length × (MAX_BLOCK < block_length))
LineSays count words (Err refusal) = ⊥

pub next_says : (count room : ℕ) → suc count + room ≡ MAX_ITEMS → (words : List (List ℕ)) → LineSays (suc count) words (next_line room words)
next_says count room sum words = go (next_line room words) (next_line_is room words)
  where
    go : (r : Result ReplyLine TextError) → NextLineIs room words r → LineSays (suc count) words r
    go (Ok (ItemLine key flags block_length)) is = (let more = is.0 in omega arith, is.1, is.2, is.3, is.4)
    go (Ok EndLine) is = is
    go (Ok (LoneLine reply)) is = is
    go (Err WrongWords) is = (is.0, λ k f l more. is.1 k f l (omega arith))
    go (Err BadKey) is = (let more = is.0 in omega arith, is.1, is.2, is.3)
    go (Err BadNumber) is = (let more = is.0 in omega arith, is.1, is.2, is.3)
    go (Err DataTooLong) is = (let more = is.0 in omega arith, is.1, is.2, is.3)
    go (Err (UnknownCommand closes)) is = is
    go (Err LineTooLong) is = is
    go (Err BadDataEnd) is = is
    go (Err Truncated) is = is
    go (Err Closed) is = is
    go (Err OutOfMemory) is = is

module _ (count : ℕ) (bytes line : List ℕ) (size : ℕ) (read : IsRead bytes line size) where
  pub line_words : (words : List (List ℕ)) → words_of line ≡ words → IsLineOfWords (take size bytes) words
  line_words words e = record { line = line; is_line = read.is_line; not_long = read.not_long; splits = e }

  pub begins_words : BeginsWithWords bytes (words_of line)
  begins_words = record { line = take size bytes; after = drop size bytes; splits = sym (take-append-drop size bytes); is_line = line_words (words_of line) refl }

  begins_item : (behind : List (List ℕ)) → words_of line ≡ codes "VALUE" ∷ behind → HasRoom count → (key flags_word length_word : List ℕ)
      → behind ≡ key ∷ flags_word ∷ length_word ∷ [] → BeginsWithItemWords count bytes key flags_word length_word (drop size bytes)
  begins_item behind e room key flags_word length_word is = record {
    line = take size bytes;
    splits = sym (take-append-drop size bytes);
    is_line = line_words (item_words key flags_word length_word) (e ∙ ap (λ b. codes "VALUE" ∷ b) is);
    room = room;
  }

  pub is_item_line : (behind : List (List ℕ)) → words_of line ≡ codes "VALUE" ∷ behind → (key : List ℕ) (flags block_length : ℕ) → GoodItem behind key flags block_length
      → IsItemLine (take size bytes) key flags block_length
  is_item_line behind e key flags block_length good = record {
    flags_word = good.flags_word;
    length_word = good.length_word;
    is_line = line_words (item_words key good.flags_word good.length_word) (e ∙ ap (λ b. codes "VALUE" ∷ b) good.splits);
    is_key = good.is_key;
    numbers = good.numbers;
  }

  begins_line : (behind : List (List ℕ)) → words_of line ≡ codes "VALUE" ∷ behind → HasRoom count → (key : List ℕ) (flags block_length : ℕ) → GoodItem behind key flags block_length
      → BeginsWithItemLine count bytes block_length (drop size bytes)
  begins_line behind e room key flags block_length good = record {
    line = take size bytes;
    key = key;
    flags = flags;
    splits = sym (take-append-drop size bytes);
    is_line = is_item_line behind e key flags block_length good;
    room = room;
  }

  whole_item : (key : List ℕ) (flags block_length : ℕ) → block_length ≤ MAX_BLOCK → IsItemLine (take size bytes) key flags block_length → IsBlockRead block_length (drop size bytes)
      → SpellsItem (take (size + block_length + 2) bytes) (record { key = key; flags = flags; block = take block_length (drop size bytes) })
  whole_item key flags block_length allowed is block =
      let behind = drop size bytes in
      let within = block.within in
      let low = read.within in
      let left : length behind ≡ length bytes - size = length-drop size bytes in
      let block_size : length (take block_length behind) ≡ block_length = length-take-le block_length behind (omega arith) in
      let line_size : length (take size bytes) ≡ size = length-take-le size bytes low in
      record {
        line = take size bytes;
        is_line = subst (λ n. IsItemLine (take size bytes) key flags n) (sym block_size) is;
        is_block = omega arith;
        follows = follows block_size line_size;
      }
    where
      follows : length (take block_length (drop size bytes)) ≡ block_length → length (take size bytes) ≡ size
          → take (size + block_length + 2) bytes ≡ take size bytes ++ (take block_length (drop size bytes) ++ block_end)
      follows block_size line_size =
          let front = take size bytes in
          let block_bytes = take block_length (drop size bytes) in
          let rest = drop (block_length + 2) (drop size bytes) in
          let joined : bytes ≡ (front ++ (block_bytes ++ block_end)) ++ rest =
          sym (take-append-drop size bytes) ∙ ap (λ s. front ++ s) (block.splits ∙ sym (append_assoc block_bytes block_end rest)) ∙ sym (append_assoc front (block_bytes ++ block_end) rest) in
          let whole_size : length (front ++ (block_bytes ++ block_end)) ≡ size + block_length + 2 =
          length-append front (block_bytes ++ block_end) ∙ rw (line_size, length-append block_bytes block_end, block_size) (omega arith) in
          ap (λ s. take (size + block_length + 2) s) joined ∙ ap (λ n. take n ((front ++ (block_bytes ++ block_end)) ++ rest)) (sym whole_size)
          ∙ take-append_seam (front ++ (block_bytes ++ block_end)) rest

  item_step_is : (behind : List (List ℕ)) (e : words_of line ≡ codes "VALUE" ∷ behind) → HasRoom count → (key : List ℕ) (flags block_length : ℕ)
      → GoodItem behind key flags block_length → block_length ≤ MAX_BLOCK → (r : Result Bool TextError) → BlockIs block_length (drop size bytes) r
      → StepIs count bytes (item_step bytes size key flags block_length r)
  item_step_is behind e room key flags block_length good allowed (Ok true) block = (
    let within = block.within in let low = read.within in let left = length-drop size bytes in omega arith,
    whole_item key flags block_length allowed (is_item_line behind e key flags block_length good) block,
    room,
  )
  item_step_is behind e room key flags block_length good allowed (Ok false) block = tt
  item_step_is behind e room key flags block_length good allowed (Err refusal) block =
      subst (λ x. RefusesBehind count x bytes) (sym block.0) (block_length, drop size bytes, begins_line behind e room key flags block_length good, allowed, block.1)

  pub line_steps : (r : Result ReplyLine TextError) → LineSays count (words_of line) r → StepIs count bytes (step_of_line bytes size r)
  line_steps (Ok (ItemLine key flags block_length)) h =
      item_step_is h.1 h.2 h.0 key flags block_length h.3 h.4 (block_reading block_length (drop size bytes)) (block_is block_length (drop size bytes))
  line_steps (Ok EndLine) h = (read.within, line_words (codes "END" ∷ []) h)
  line_steps (Ok (LoneLine reply)) h = absurd h
  line_steps (Err WrongWords) h = (words_of line, begins_words, h)
  line_steps (Err BadKey) h = record {
    key = h.3.key;
    flags_word = h.3.flags_word;
    length_word = h.3.length_word;
    after = drop size bytes;
    begins = begins_item h.1 h.2 h.0 h.3.key h.3.flags_word h.3.length_word h.3.splits;
    bad = h.3.bad;
  }
  line_steps (Err BadNumber) h = record {
    key = h.3.key;
    flags_word = h.3.flags_word;
    length_word = h.3.length_word;
    after = drop size bytes;
    begins = begins_item h.1 h.2 h.0 h.3.key h.3.flags_word h.3.length_word h.3.splits;
    is_key = h.3.is_key;
    bad = h.3.bad;
  }
  line_steps (Err DataTooLong) h = (h.3.2, drop size bytes, begins_line h.1 h.2 h.0 h.3.0 h.3.1 h.3.2 h.3.3, h.3.4)
  line_steps (Err (UnknownCommand closes)) h = absurd h
  line_steps (Err LineTooLong) h = absurd h
  line_steps (Err BadDataEnd) h = absurd h
  line_steps (Err Truncated) h = absurd h
  line_steps (Err Closed) h = absurd h
  line_steps (Err OutOfMemory) h = absurd h

pub step_is : (count room : ℕ) → suc count + room ≡ MAX_ITEMS → (bytes : List ℕ) → StepIs (suc count) bytes (step_reading room bytes)
unfolding step_reading
step_is count room sum bytes = go (line_reading bytes) (line_is bytes)
  where
    go : (r : StretchReading (List ℕ)) → LineIs bytes r → StepIs (suc count) bytes (step_of_reading room bytes r)
    go Waits is = tt
    go (Gives line size) is = line_steps (suc count) bytes line size is (next_line room (words_of line)) (next_says count room sum (words_of line))
    go (Refused refusal size) is = subst (λ x. RefusesBehind (suc count) x bytes) (sym is.0) is.1
