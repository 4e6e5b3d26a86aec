-- The reading of replies finds what the relations say, and nothing else.
use Rattle.std.proofs.Common.{◌≡◌, ◌≢◌, ℕ, zero, suc, ◌+◌, ◌-◌, ◌<◌, ◌≤◌, true, false, List, [], ◌∷◌, ◌++◌, length, take, drop, Some, None, Result, Ok, Err, refl, sym, ◌∙◌, ap, subst, arith, codes, inl, inr, ◌⊎◌, append_assoc, append-nil, length-append, length-drop, slice_get, All}
use Rattle.std.proofs.Math.Seq.{take-append_seam, drop-append_seam, take-length}
use Rattle.std.proofs.lemmas.List.{take-append-drop}
use Rattle.mr_lines.specs.Lines.{byte_place}
use Rattle.mr_lines.specs.Words.{words_of, drop_spaces}
use Rattle.mr_text.specs.Requests.{IsLineOfWords, BeginsWithWords, BeginsWithLongLine, EndsBadly}
use Rattle.mr_text.specs.Replies.{item_words, IsItemLine, BeginsWithItems, BeginsWithItemLine, TellsCause, cause_of, SpellsReply, RefusesBehind, RefusesReply}
use Rattle.mr_text.specs.Text.{IsLine}
use Rattle.mr_text.specs.steps.Reading.{StretchReading, line_reading}
use Rattle.mr_text.specs.steps.Reading.StretchReading.{Waits, Gives, Refused}
use Rattle.mr_text.specs.steps.ReplyReading.{ReplyLine, Step, first_line, next_line, item_step, step_of_line, step_reading, with_items, items_by, items_reading, as_reply, reply_of_line, reply_of_reading, reply_reading}
use Rattle.mr_text.specs.steps.ReplyReading.ReplyLine.{ItemLine, EndLine, LoneLine}
use Rattle.mr_text.specs.steps.ReplyReading.Step.{ItemStep, EndStep}
use Rattle.mr_text.specs.declared.cause.Cause.{Cause}
use Rattle.mr_text.specs.declared.item.Item.{Item}
use Rattle.mr_text.specs.Limits.{MAX_LINE, MAX_BLOCK, MAX_ITEMS}
use Rattle.mr_text.specs.declared.error.TextError.{TextError}
use Rattle.mr_text.specs.declared.error.TextError.TheVariants.{LineTooLong, BadKey, BadNumber, WrongWords, DataTooLong, BadDataEnd, UnknownCommand, Truncated, Closed, OutOfMemory}
use Rattle.mr_text.specs.declared.reply.Reply.{Reply}
use Rattle.mr_text.specs.declared.reply.Reply.TheVariants.{Items, Stored, Deleted, NotFound, Error, ClientError, ServerError}
use Rattle.mr_text.proofs.Blocks.{bad_found}
use Rattle.mr_lines.proofs.ByteLemmas.{place_behind}
use Rattle.mr_text.proofs.Lines.{line_found, long_found, IsRead, LineIs, line_is}
use Rattle.mr_text.proofs.ReplyErrors.{words-drop_spaces, drop_spaces-append, first_word}
use Rattle.mr_text.proofs.ReplyFirst.{error_text, LoneIs, FirstIs, first_is, value_first, end_first, lone_first, unknown_first, wrong_first}
use Rattle.mr_text.proofs.ReplyLines.{good_item_found, bad_item_key_found, bad_item_number_found, end_found, value_found}
use Rattle.mr_text.proofs.ReplySteps.{end_step_found, item_found, item_line_found, StepRefused, step_refusal_found, StepIs, step_is, LineSays, line_steps, line_words, begins_words}
use Rattle.mr_lines.proofs.WordLemmas.{words_at}

-- items in a row

pub items-suc : (room : ℕ) (bytes : List ℕ) → items_reading (suc room) bytes ≡ items_by (items_reading room) bytes (step_reading (suc room) bytes)
unfolding items_reading
items-suc room bytes = refl

pub items-zero : (bytes : List ℕ) → items_reading zero bytes ≡ items_by (λ _. Waits) bytes (step_reading zero bytes)
unfolding items_reading
items-zero bytes = refl

pub end_of : (room : ℕ) (bytes : List ℕ) (size : ℕ) → step_reading room bytes ≡ Gives EndStep size → items_reading room bytes ≡ Gives [] size
end_of zero bytes size e = items-zero bytes ∙ ap (items_by (λ _. Waits) bytes) e
end_of (suc room) bytes size e = items-suc room bytes ∙ ap (items_by (items_reading room) bytes) e

pub refused_of : (room : ℕ) (bytes : List ℕ) (refusal : TextError) (size : ℕ) → step_reading room bytes ≡ Refused refusal size → items_reading room bytes ≡ Refused refusal 0
refused_of zero bytes refusal size e = items-zero bytes ∙ ap (items_by (λ _. Waits) bytes) e
refused_of (suc room) bytes refusal size e = items-suc room bytes ∙ ap (items_by (items_reading room) bytes) e

-- items with their end are read
pub items_found : (items : List Item) (room : ℕ) (bytes rest after : List ℕ) → BeginsWithItems bytes items rest → IsLineOfWords rest (codes "END" ∷ []) → length items ≤ room
    → items_reading room (bytes ++ after) ≡ Gives items (length bytes)
items_found [] room bytes rest after begins end short = rw begins (end_of room (rest ++ after) (length rest) (end_step_found room rest after end))
items_found (item ∷ items) zero bytes rest after begins end short = absurd (omega arith)
items_found (item ∷ items) (suc room) bytes rest after (front, behind, splits, spells, more) end short =
    let joined : bytes ++ after ≡ front ++ (behind ++ after) = ap (λ s. s ++ after) splits ∙ append_assoc front behind after in
    let step = item_found (suc room) front (behind ++ after) item (omega arith) spells in
    let next : items_reading room (drop (length front) (front ++ (behind ++ after))) ≡ Gives items (length behind) =
    ap (items_reading room) (drop-append_seam front (behind ++ after)) ∙ items_found items room behind rest after more end (omega arith) in
    let size : length bytes ≡ length front + length behind = ap length splits ∙ length-append front behind in
    ap (items_reading (suc room)) joined ∙ items-suc room (front ++ (behind ++ after)) ∙ ap (items_by (items_reading room) (front ++ (behind ++ after))) step
    ∙ ap (with_items (item ∷ []) (length front)) next ∙ ap (Gives (item ∷ items)) (sym size)

-- a refusal behind items is read
items_refused : (items : List Item) (room left : ℕ) (bytes rest : List ℕ) (refusal : TextError) → BeginsWithItems bytes items rest → length items + left ≡ room
    → StepRefused left rest refusal → (size : ℕ) × (items_reading room bytes ≡ Refused refusal size)
items_refused [] room left bytes rest refusal begins sum (size, e) =
    (0, ap (items_reading room) begins ∙ refused_of room rest refusal size (ap (λ n. step_reading n rest) (let same : room ≡ left = omega arith in same) ∙ e))
items_refused (item ∷ items) zero left bytes rest refusal begins sum e = absurd (omega arith)
items_refused (item ∷ items) (suc room) left bytes rest refusal (front, behind, splits, spells, more) sum e =
    let inner = items_refused items room left behind rest refusal more (omega arith) e in
    let step = item_found (suc room) front behind item (omega arith) spells in (
      inner.0,
      ap (items_reading (suc room)) splits ∙ items-suc room (front ++ behind) ∙ ap (items_by (items_reading room) (front ++ behind)) step
          ∙ ap (with_items (item ∷ []) (length front)) (ap (items_reading room) (drop-append_seam front behind) ∙ inner.1),
    )

-- what the reading of items finds is right
abbrev pub ItemsAre : ℕ → List ℕ → StretchReading (List Item) → Type 0
ItemsAre count bytes Waits = Unit {0}
ItemsAre count bytes (Gives items size) =
    (size ≤ length bytes) × (rest : List ℕ) × BeginsWithItems (take size bytes) items rest × IsLineOfWords rest (codes "END" ∷ []) × (count + length items ≤ MAX_ITEMS)
ItemsAre count bytes (Refused refusal size) =
    (items : List Item) × (rest : List ℕ) × BeginsWithItems bytes items rest × (count + length items ≤ MAX_ITEMS) × RefusesBehind (count + length items) refusal rest

take-nil : (k : ℕ) → take {A = ℕ} k [] ≡ []
take-nil zero = refl
take-nil (suc k) = refl

take-add : (n m : ℕ) (bytes : List ℕ) → take (n + m) bytes ≡ take n bytes ++ take m (drop n bytes)
take-add zero m bytes = ap (λ k. take k bytes) (omega arith)
take-add (suc n) m [] = take-nil (suc n + m) ∙ sym (take-nil m)
take-add (suc n) m (b ∷ bs) = ap (λ k. take k (b ∷ bs)) (let e : suc n + m ≡ suc (n + m) = omega arith in e) ∙ ap (λ s. b ∷ s) (take-add n m bs)

items_by_step : (count room : ℕ) (bytes : List ℕ) → count + suc room ≡ MAX_ITEMS → ((rest : List ℕ) → ItemsAre (suc count) rest (items_reading room rest))
    → (r : StretchReading Step) → StepIs count bytes r → ItemsAre count bytes (items_by (items_reading room) bytes r)
items_by_step count room bytes sum behind Waits is = tt
items_by_step count room bytes sum behind (Gives EndStep size) is = (is.0, take size bytes, refl, is.1, omega arith)
items_by_step count room bytes sum behind (Refused refusal size) is =
    ([], bytes, refl, omega arith, subst (λ n. RefusesBehind n refusal bytes) (let same : count ≡ count + 0 = omega arith in same) is)
items_by_step count room bytes sum behind (Gives (ItemStep item) size) is = go (items_reading room (drop size bytes)) (behind (drop size bytes))
  where
    go : (r : StretchReading (List Item)) → ItemsAre (suc count) (drop size bytes) r → ItemsAre count bytes (with_items (item ∷ []) size r)
    go Waits more = tt
    go (Gives items more_size) more = (
      let within = more.0 in let low = is.0 in let left = length-drop size bytes in omega arith,
      more.1,
      (take size bytes, take more_size (drop size bytes), take-add size more_size bytes, is.1, more.2),
      more.3,
      let few = more.4 in omega arith,
    )
    go (Refused refusal more_size) more = (
      item ∷ more.0,
      more.1,
      (take size bytes, drop size bytes, sym (take-append-drop size bytes), is.1, more.2),
      let few = more.3 in omega arith,
      subst (λ n. RefusesBehind n refusal more.1) (let same : suc count + length more.0 ≡ count + suc (length more.0) = omega arith in same) more.4,
    )

items_are : (room count : ℕ) → suc count + room ≡ MAX_ITEMS → (bytes : List ℕ) → ItemsAre (suc count) bytes (items_reading room bytes)
items_are zero count sum bytes = subst (ItemsAre (suc count) bytes) (sym (items-zero bytes)) (go (step_reading zero bytes) (step_is count zero sum bytes))
  where
    go : (r : StretchReading Step) → StepIs (suc count) bytes r → ItemsAre (suc count) bytes (items_by (λ _. Waits) bytes r)
    go Waits is = tt
    go (Gives EndStep size) is = (is.0, take size bytes, refl, is.1, omega arith)
    go (Gives (ItemStep item) size) is = absurd (let room = is.2 in omega arith)
    go (Refused refusal size) is =
        ([], bytes, refl, omega arith, subst (λ n. RefusesBehind n refusal bytes) (let same : suc count ≡ suc count + 0 = omega arith in same) is)
items_are (suc room) count sum bytes =
    subst (ItemsAre (suc count) bytes) (sym (items-suc room bytes))
    (items_by_step (suc count) room bytes (omega arith) (items_are room (suc count) (omega arith)) (step_reading (suc room) bytes) (step_is count (suc room) sum bytes))

-- the first line of a reply that has items, or their end alone
pub by_items : (bytes line : List ℕ) (size : ℕ) (said : ReplyLine) → line_reading bytes ≡ Gives line size → first_line line (words_of line) ≡ Ok said
    → (reply_of_line bytes size (Ok said) ≡ as_reply (items_reading MAX_ITEMS bytes)) → reply_reading bytes ≡ as_reply (items_reading MAX_ITEMS bytes)
unfolding reply_reading
by_items bytes line size said read first items = rw (read, first) items

lone_found : (bytes after line : List ℕ) (reply : Reply) → IsLine bytes line → length line ≤ MAX_LINE → LoneIs line (words_of line) reply
    → reply_reading (bytes ++ after) ≡ Gives reply (length bytes)
unfolding reply_reading
lone_found bytes after line reply h short is = rw (line_found bytes after line h short, lone_first line (words_of line) reply is) refl

-- the words of an error's line, and its text
error_words : (word text line tail spaces : List ℕ) → byte_place 32 word ≡ None → 0 < length word → slice_get word 0 ≢ Some 32
    → line ≡ spaces ++ (word ++ tail) → All (λ byte. byte ≡ 32) spaces → ((tail ≡ []) × (text ≡ [])) ⊎ (tail ≡ 32 ∷ text)
    → ((behind : List (List ℕ)) × (words_of line ≡ word ∷ behind)) × (text ≡ error_text word line)
error_words [] text line tail spaces none some start splits all behind = absurd (omega arith)
error_words (w ∷ ws) text line tail spaces none some start splits all behind =
    let bare : drop_spaces line ≡ (w ∷ ws) ++ tail = ap drop_spaces splits ∙ drop_spaces-append spaces ((w ∷ ws) ++ tail) all start in
    let told : error_text (w ∷ ws) line ≡ drop 1 tail = ap (λ s. drop 1 (drop (length (w ∷ ws)) s)) bare ∙ ap (drop 1) (drop-append_seam (w ∷ ws) tail) in
    elim behind [
      | inl h ↦ (first_alone bare h.0, h.1 ∙ sym (told ∙ ap (drop 1) h.0))
      | inr h ↦ (first_before bare h, sym (told ∙ ap (drop 1) h))
    ]
  where
    word : List ℕ
    word = w ∷ ws

    first_alone : drop_spaces line ≡ (w ∷ ws) ++ tail → tail ≡ [] → (behind : List (List ℕ)) × (words_of line ≡ (w ∷ ws) ∷ behind)
    first_alone bare nothing =
        let whole : drop_spaces line ≡ w ∷ ws = bare ∙ ap (λ t. (w ∷ ws) ++ t) nothing ∙ append-nil (w ∷ ws) in
        let split = words_at (w ∷ ws) None none (omega arith) start in (
          words_of (drop (length (w ∷ ws)) (w ∷ ws)),
          sym (words-drop_spaces line) ∙ ap words_of whole ∙ split ∙ ap (λ t. t ∷ words_of (drop (length (w ∷ ws)) (w ∷ ws))) (take-length (w ∷ ws)),
        )

    first_before : drop_spaces line ≡ (w ∷ ws) ++ tail → tail ≡ 32 ∷ text → (behind : List (List ℕ)) × (words_of line ≡ (w ∷ ws) ∷ behind)
    first_before bare more =
        let whole : drop_spaces line ≡ (w ∷ ws) ++ (32 ∷ text) = bare ∙ ap (λ t. (w ∷ ws) ++ t) more in
        let place = place_behind 32 (w ∷ ws) text none in
        let split = words_at ((w ∷ ws) ++ (32 ∷ text)) (Some (length (w ∷ ws))) place (omega arith) start in (
          words_of (drop (length (w ∷ ws)) ((w ∷ ws) ++ (32 ∷ text))),
          sym (words-drop_spaces line) ∙ ap words_of whole ∙ split ∙ ap (λ t. t ∷ words_of (drop (length (w ∷ ws)) ((w ∷ ws) ++ (32 ∷ text)))) (take-append_seam (w ∷ ws) (32 ∷ text)),
        )

line_of_words_found : (bytes after word : List ℕ) (reply : Reply) → ((line : List ℕ) → words_of line ≡ word ∷ [] → LoneIs line (words_of line) reply) → IsLineOfWords bytes (word ∷ [])
    → reply_reading (bytes ++ after) ≡ Gives reply (length bytes)
line_of_words_found bytes after word reply is h = lone_found bytes after h.line reply h.is_line h.not_long (is h.line h.splits)

client_found : (bytes after : List ℕ) (cause : Cause) → TellsCause bytes (codes "CLIENT_ERROR") cause → reply_reading (bytes ++ after) ≡ Gives (ClientError cause) (length bytes)
client_found bytes after cause told =
    let h = told.1 in
    let both = error_words (codes "CLIENT_ERROR") told.0 h.line h.tail h.spaces refl (omega arith) (λ e. cc) h.splits h.are_spaces h.behind in
    lone_found bytes after h.line (ClientError cause) h.is_line h.not_long (both.0.0, both.0.1, told.2 ∙ ap cause_of both.1)

server_found : (bytes after : List ℕ) (cause : Cause) → TellsCause bytes (codes "SERVER_ERROR") cause → reply_reading (bytes ++ after) ≡ Gives (ServerError cause) (length bytes)
server_found bytes after cause told =
    let h = told.1 in
    let both = error_words (codes "SERVER_ERROR") told.0 h.line h.tail h.spaces refl (omega arith) (λ e. cc) h.splits h.are_spaces h.behind in
    lone_found bytes after h.line (ServerError cause) h.is_line h.not_long (both.0.0, both.0.1, told.2 ∙ ap cause_of both.1)

end_reply : (bytes rest after : List ℕ) (end : IsLineOfWords rest (codes "END" ∷ [])) → bytes ≡ rest → reply_reading (bytes ++ after) ≡ as_reply (items_reading MAX_ITEMS (bytes ++ after))
end_reply bytes rest after end begins =
    let line = line_found rest after end.line end.is_line end.not_long in
    let first : first_line end.line (words_of end.line) ≡ Ok EndLine = ap (first_line end.line) end.splits ∙ end_first end.line in
    by_items (bytes ++ after) end.line (length rest) EndLine (ap (λ s. line_reading (s ++ after)) begins ∙ line) first refl

pub item_reply : (line more key : List ℕ) (flags block_length : ℕ) → IsItemLine line key flags block_length → block_length ≤ MAX_BLOCK
    → reply_reading (line ++ more) ≡ as_reply (items_reading MAX_ITEMS (line ++ more))
item_reply line more key flags block_length h allowed =
    elim (good_item_found (key ∷ h.flags_word ∷ h.length_word ∷ []) key flags block_length
    (record { flags_word = h.flags_word; length_word = h.length_word; splits = refl; is_key = h.is_key; numbers = h.numbers })) [
      | inl long ↦ absurd (let over = long.1 in omega arith)
      | inr fits ↦ let words = h.is_line in
          let read = line_found line more words.line words.is_line words.not_long in
          let first : first_line words.line (words_of words.line) ≡ Ok (ItemLine key flags block_length) =
          ap (first_line words.line) words.splits ∙ value_first words.line (key ∷ h.flags_word ∷ h.length_word ∷ []) ∙ fits.0 in
          by_items (line ++ more) words.line (length line) (ItemLine key flags block_length) read first refl
    ]

items_reply : (items : List Item) (bytes rest after : List ℕ) → BeginsWithItems bytes items rest → IsLineOfWords rest (codes "END" ∷ [])
    → reply_reading (bytes ++ after) ≡ as_reply (items_reading MAX_ITEMS (bytes ++ after))
items_reply [] bytes rest after begins end = end_reply bytes rest after end begins
items_reply (item ∷ items) bytes rest after begins end =
    let spells = begins.3 in
    let more = item.block ++ (13 ∷ 10 ∷ (begins.1 ++ after)) in
    let joined : bytes ++ after ≡ spells.line ++ more =
    ap (λ s. s ++ after) (begins.2 ∙ ap (λ s. s ++ begins.1) spells.follows) ∙ append_assoc (spells.line ++ (item.block ++ (13 ∷ 10 ∷ []))) begins.1 after
    ∙ append_assoc spells.line (item.block ++ (13 ∷ 10 ∷ [])) (begins.1 ++ after) ∙ ap (λ s. spells.line ++ s) (append_assoc item.block (13 ∷ 10 ∷ []) (begins.1 ++ after)) in
    subst (λ s. reply_reading s ≡ as_reply (items_reading MAX_ITEMS s)) (sym joined) (item_reply spells.line more item.key item.flags (length item.block) spells.is_line spells.is_block)

-- bytes that spell a reply are read as that reply, whatever follows
pub reply_found : (bytes : List ℕ) (reply : Reply) (after : List ℕ) → SpellsReply bytes reply → reply_reading (bytes ++ after) ≡ Gives reply (length bytes)
reply_found bytes Stored after h = line_of_words_found bytes after (codes "STORED") Stored (λ line e. e) h
reply_found bytes Deleted after h = line_of_words_found bytes after (codes "DELETED") Deleted (λ line e. e) h
reply_found bytes NotFound after h = line_of_words_found bytes after (codes "NOT_FOUND") NotFound (λ line e. e) h
reply_found bytes Error after h = line_of_words_found bytes after (codes "ERROR") Error (λ line e. e) h
reply_found bytes (ClientError cause) after h = client_found bytes after cause h
reply_found bytes (ServerError cause) after h = server_found bytes after cause h
reply_found bytes (Items items) after h = items_reply items bytes h.0 after h.1 h.2 ∙ ap as_reply (items_found items MAX_ITEMS bytes h.0 after h.1 h.2 h.3)

abbrev pub IsReplyRefused : List ℕ → TextError → Type 0
IsReplyRefused bytes refusal = (size : ℕ) × (reply_reading bytes ≡ Refused refusal size)

first_refused : (start after line : List ℕ) (refusal : TextError) → IsLine start line → length line ≤ MAX_LINE → first_line line (words_of line) ≡ Err refusal
    → reply_reading (start ++ after) ≡ Refused refusal 0
unfolding reply_reading
first_refused start after line refusal h short e = rw (line_found start after line h short, e) refl

words_refused : (bytes : List ℕ) (words : List (List ℕ)) (refusal : TextError) → BeginsWithWords bytes words → ((line : List ℕ) → first_line line words ≡ Err refusal)
    → IsReplyRefused bytes refusal
words_refused bytes words refusal h e =
    (0, ap reply_reading h.splits ∙ first_refused h.line h.after h.is_line.line refusal h.is_line.is_line h.is_line.not_long (ap (first_line h.is_line.line) h.is_line.splits ∙ e h.is_line.line))

long_line_refused : (bytes : List ℕ) → BeginsWithLongLine bytes → IsReplyRefused bytes LineTooLong
unfolding reply_reading
long_line_refused bytes h = (0, rw (long_found bytes h) refl)

-- the first line begins an item
pub item_first : (item : Item) (items : List Item) (bytes rest : List ℕ) → BeginsWithItems bytes (item ∷ items) rest → reply_reading bytes ≡ as_reply (items_reading MAX_ITEMS bytes)
item_first item items bytes rest begins =
    let spells = begins.3 in
    let more = item.block ++ (13 ∷ 10 ∷ begins.1) in
    let joined : bytes ≡ spells.line ++ more =
    begins.2 ∙ ap (λ s. s ++ begins.1) spells.follows ∙ append_assoc spells.line (item.block ++ (13 ∷ 10 ∷ [])) begins.1
    ∙ ap (λ s. spells.line ++ s) (append_assoc item.block (13 ∷ 10 ∷ []) begins.1) in
    subst (λ s. reply_reading s ≡ as_reply (items_reading MAX_ITEMS s)) (sym joined) (item_reply spells.line more item.key item.flags (length item.block) spells.is_line spells.is_block)

long_item_refused : (bytes : List ℕ) (block_length : ℕ) (after : List ℕ) → BeginsWithItemLine 0 bytes block_length after → MAX_BLOCK < block_length → IsReplyRefused bytes DataTooLong
long_item_refused bytes block_length after h long =
    let line = h.is_line in
    elim (good_item_found (h.key ∷ line.flags_word ∷ line.length_word ∷ []) h.key h.flags block_length
    (record { flags_word = line.flags_word; length_word = line.length_word; splits = refl; is_key = line.is_key; numbers = line.numbers })) [
      | inl over ↦ let words = line.is_line in (
        0,
        ap reply_reading h.splits ∙ first_refused h.line after words.line DataTooLong words.is_line words.not_long
            (ap (first_line words.line) words.splits ∙ value_first words.line (h.key ∷ line.flags_word ∷ line.length_word ∷ []) ∙ over.0),
      )
      | inr fits ↦ absurd (let small = fits.1 in omega arith)
    ]

bad_end_refused : (bytes : List ℕ) (block_length : ℕ) (after : List ℕ) → BeginsWithItemLine 0 bytes block_length after → block_length ≤ MAX_BLOCK → EndsBadly block_length after
    → IsReplyRefused bytes BadDataEnd
bad_end_refused bytes block_length after h allowed bad =
    let step : step_reading MAX_ITEMS (h.line ++ after) ≡ Refused BadDataEnd 0 =
    item_line_found MAX_ITEMS h.line after h.key h.flags block_length (omega arith) h.is_line allowed
    ∙ ap (item_step (h.line ++ after) (length h.line) h.key h.flags block_length) (bad_found block_length after bad) in (
      0,
      ap reply_reading h.splits ∙ item_reply h.line after h.key h.flags block_length h.is_line allowed
          ∙ ap as_reply (refused_of MAX_ITEMS (h.line ++ after) BadDataEnd 0 step),
    )

first_refusal_found : (refusal : TextError) (bytes : List ℕ) → RefusesBehind 0 refusal bytes → IsReplyRefused bytes refusal
first_refusal_found LineTooLong bytes h = long_line_refused bytes h
first_refusal_found (UnknownCommand true) bytes h = words_refused bytes h.1 (UnknownCommand true) h.2 (λ line. unknown_first line h.1 h.3)
first_refusal_found (UnknownCommand false) bytes h = absurd h
first_refusal_found WrongWords bytes h = words_refused bytes h.0 WrongWords h.1 (λ line. wrong_first line h.0 h.2)
first_refusal_found BadKey bytes h =
    words_refused bytes (item_words h.key h.flags_word h.length_word) BadKey
    (record { line = h.begins.line; after = h.after; splits = h.begins.splits; is_line = h.begins.is_line })
    (λ line. value_first line (h.key ∷ h.flags_word ∷ h.length_word ∷ []) ∙ bad_item_key_found (h.key ∷ h.flags_word ∷ h.length_word ∷ [])
    (record { key = h.key; flags_word = h.flags_word; length_word = h.length_word; splits = refl; bad = h.bad }))
first_refusal_found BadNumber bytes h =
    words_refused bytes (item_words h.key h.flags_word h.length_word) BadNumber
    (record { line = h.begins.line; after = h.after; splits = h.begins.splits; is_line = h.begins.is_line })
    (λ line. value_first line (h.key ∷ h.flags_word ∷ h.length_word ∷ []) ∙ bad_item_number_found (h.key ∷ h.flags_word ∷ h.length_word ∷ [])
    (record { key = h.key; flags_word = h.flags_word; length_word = h.length_word; splits = refl; is_key = h.is_key; bad = h.bad }))
first_refusal_found DataTooLong bytes h = long_item_refused bytes h.0 h.1 h.2 h.3
first_refusal_found BadDataEnd bytes h = bad_end_refused bytes h.0 h.1 h.2 h.3 h.4
first_refusal_found Truncated bytes h = absurd h
first_refusal_found Closed bytes h = absurd h
first_refusal_found OutOfMemory bytes h = absurd h

-- what is refused is read so
pub reply_refusal_found : (refusal : TextError) (bytes : List ℕ) → RefusesReply refusal bytes → IsReplyRefused bytes refusal
reply_refusal_found refusal bytes ([], rest, begins, short, h) = first_refusal_found refusal bytes (subst (RefusesBehind 0 refusal) (sym begins) h)
reply_refusal_found refusal bytes (item ∷ items, rest, begins, short, h) =
    let left = MAX_ITEMS - length (item ∷ items) in
    let step = step_refusal_found (length (item ∷ items)) left (omega arith) (omega arith) refusal rest h in
    let all = items_refused (item ∷ items) MAX_ITEMS left bytes rest refusal begins (omega arith) step in
    (all.0, item_first item items bytes rest begins ∙ ap as_reply all.1)

-- what the reading of the bytes finds is right
abbrev pub ReplyIs : List ℕ → StretchReading Reply → Type 0
ReplyIs bytes Waits = Unit {0}
ReplyIs bytes (Gives reply size) = (size ≤ length bytes) × SpellsReply (take size bytes) reply
ReplyIs bytes (Refused refusal size) = RefusesReply refusal bytes

items_reply_is : (bytes : List ℕ) (r : StretchReading (List Item)) → ItemsAre 0 bytes r → ReplyIs bytes (as_reply r)
items_reply_is bytes Waits h = tt
items_reply_is bytes (Gives items size) h = (h.0, (h.1, h.2, h.3, let few = h.4 in omega arith))
items_reply_is bytes (Refused refusal size) h =
    (h.0, h.1, h.2, let few = h.3 in omega arith, subst (λ n. RefusesBehind n refusal h.1) (let same : 0 + length h.0 ≡ length h.0 = omega arith in same) h.4)

pub step_of : (bytes line : List ℕ) (size : ℕ) → line_reading bytes ≡ Gives line size → step_reading MAX_ITEMS bytes ≡ step_of_line bytes size (next_line MAX_ITEMS (words_of line))
unfolding step_reading
step_of bytes line size e = rw e refl

all_items_are : (bytes line : List ℕ) (size : ℕ) → IsRead bytes line size → line_reading bytes ≡ Gives line size → LineSays 0 (words_of line) (next_line MAX_ITEMS (words_of line))
    → ItemsAre 0 bytes (items_reading MAX_ITEMS bytes)
all_items_are bytes line size read e says =
    subst (ItemsAre 0 bytes) (sym (items-suc (MAX_ITEMS - 1) bytes))
    (items_by_step 0 (MAX_ITEMS - 1) bytes refl (items_are (MAX_ITEMS - 1) 0 refl) (step_reading MAX_ITEMS bytes)
    (subst (StepIs 0 bytes) (sym (step_of bytes line size e)) (line_steps 0 bytes line size read (next_line MAX_ITEMS (words_of line)) says)))

module _ (bytes line : List ℕ) (size : ℕ) (read : IsRead bytes line size) (e : line_reading bytes ≡ Gives line size) where
  told : (word : List ℕ) (cause : Cause) (behind : List (List ℕ)) → words_of line ≡ word ∷ behind → cause ≡ cause_of (error_text word line) → TellsCause (take size bytes) word cause
  told word cause behind is cause_is =
      let first = first_word line word behind is in (
        error_text word line,
        record {
          line = line;
          is_line = read.is_line;
          not_long = read.not_long;
          spaces = first.spaces;
          are_spaces = first.are_spaces;
          tail = first.tail;
          splits = first.splits;
          behind = first.behind;
        },
        cause_is,
      )

  lone_is : (reply : Reply) → LoneIs line (words_of line) reply → SpellsReply (take size bytes) reply
  lone_is Stored is = line_words 0 bytes line size read (codes "STORED" ∷ []) is
  lone_is Deleted is = line_words 0 bytes line size read (codes "DELETED" ∷ []) is
  lone_is NotFound is = line_words 0 bytes line size read (codes "NOT_FOUND" ∷ []) is
  lone_is Error is = line_words 0 bytes line size read (codes "ERROR" ∷ []) is
  lone_is (ClientError cause) is = told (codes "CLIENT_ERROR") cause is.0 is.1 is.2
  lone_is (ServerError cause) is = told (codes "SERVER_ERROR") cause is.0 is.1 is.2
  lone_is (Items items) is = absurd is

  refused_first : (refusal : TextError) → RefusesBehind 0 refusal bytes → RefusesReply refusal bytes
  refused_first refusal h = ([], bytes, refl, omega arith, h)

  first_reply_is : (r : Result ReplyLine TextError) → FirstIs line (words_of line) r → ReplyIs bytes (reply_of_line bytes size r)
  first_reply_is (Ok (LoneLine reply)) is = (read.within, lone_is reply is)
  first_reply_is (Ok EndLine) is =
      let next : next_line MAX_ITEMS (words_of line) ≡ Ok EndLine = ap (next_line MAX_ITEMS) is ∙ end_found MAX_ITEMS in
      items_reply_is bytes (items_reading MAX_ITEMS bytes) (all_items_are bytes line size read e (subst (LineSays 0 (words_of line)) (sym next) is))
  first_reply_is (Ok (ItemLine key flags block_length)) is = items_reply_is bytes (items_reading MAX_ITEMS bytes) (all_items_are bytes line size read e (subst (LineSays 0 (words_of line)) (sym next) is))
    where
      next : next_line MAX_ITEMS (words_of line) ≡ Ok (ItemLine key flags block_length)
      next = elim (good_item_found is.1 key flags block_length is.3) [
        | inl long ↦ absurd (let over = long.1 in let fits = is.4 in omega arith)
        | inr good ↦ ap (next_line MAX_ITEMS) is.2 ∙ value_found MAX_ITEMS is.1 (omega arith) ∙ good.0
      ]
  first_reply_is (Err (UnknownCommand true)) is = refused_first (UnknownCommand true) (refl, words_of line, begins_words 0 bytes line size read, is)
  first_reply_is (Err (UnknownCommand false)) is = absurd is
  first_reply_is (Err WrongWords) is = refused_first WrongWords (line_steps 0 bytes line size read (Err WrongWords) is)
  first_reply_is (Err BadKey) is = refused_first BadKey (line_steps 0 bytes line size read (Err BadKey) is)
  first_reply_is (Err BadNumber) is = refused_first BadNumber (line_steps 0 bytes line size read (Err BadNumber) is)
  first_reply_is (Err DataTooLong) is = refused_first DataTooLong (line_steps 0 bytes line size read (Err DataTooLong) is)
  first_reply_is (Err LineTooLong) is = absurd is
  first_reply_is (Err BadDataEnd) is = absurd is
  first_reply_is (Err Truncated) is = absurd is
  first_reply_is (Err Closed) is = absurd is
  first_reply_is (Err OutOfMemory) is = absurd is

pub reply_is : (bytes : List ℕ) → ReplyIs bytes (reply_reading bytes)
unfolding reply_reading
reply_is bytes = go (line_reading bytes) refl (line_is bytes)
  where
    go : (r : StretchReading (List ℕ)) → line_reading bytes ≡ r → LineIs bytes r → ReplyIs bytes (reply_of_reading bytes r)
    go Waits e is = tt
    go (Gives line size) e is = first_reply_is bytes line size is e (first_line line (words_of line)) (first_is line (words_of line))
    go (Refused refusal size) e is = ([], bytes, refl, omega arith, subst (λ x. RefusesBehind 0 x bytes) (sym is.0) is.1)
