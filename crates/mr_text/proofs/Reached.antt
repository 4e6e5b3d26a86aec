-- How far the items of a reply were read.
use Rattle.std.proofs.Common.{◌≡◌, ℕ, zero, suc, ◌+◌, ◌-◌, ◌<◌, ◌≤◌, List, [], ◌∷◌, ◌++◌, length, drop, refl, sym, ◌∙◌, ap, arith, append_assoc, append-nil, length-append, length-drop}
use Rattle.std.proofs.lemmas.List.{drop-drop}
use Rattle.mr_text.specs.steps.Reading.{StretchReading}
use Rattle.mr_text.specs.steps.Reading.StretchReading.{Waits, Gives, Refused}
use Rattle.mr_text.specs.steps.ReplyReading.{step_reading, with_items, items_by, items_reading}
use Rattle.mr_text.specs.steps.ReplyReading.Step.{ItemStep, EndStep}
use Rattle.mr_text.specs.declared.item.Item.{Item}
use Rattle.mr_text.specs.declared.error.TextError.{TextError}
use Rattle.mr_text.proofs.ReplyReading.{items-suc, items-zero, end_of, refused_of}

-- of bytes read with room for so many items these were read, and what is left is read from here with so much room
pub record Reached (all : ℕ) (bytes : List ℕ) (front : List Item) (read room : ℕ) : Type 0 where
  pub whole : items_reading all bytes ≡ with_items front read (items_reading room (drop read bytes))
  pub sum : length front + room ≡ all
  pub within : read ≤ length bytes

with_none : (r : StretchReading (List Item)) → with_items [] 0 r ≡ r
with_none Waits = refl
with_none (Gives items size) = ap (Gives items) (let e : 0 + size ≡ size = omega arith in e)
with_none (Refused refusal size) = refl

with_more : (front : List Item) (item : Item) (read size : ℕ) (r : StretchReading (List Item)) → with_items front read (with_items (item ∷ []) size r) ≡ with_items (front ++ item ∷ []) (read + size) r
with_more front item read size Waits = refl
with_more front item read size (Gives items more) =
    ap (λ n. Gives (front ++ (item ∷ items)) n) (let e : read + (size + more) ≡ read + size + more = omega arith in e)
    ∙ ap (λ l. Gives l (read + size + more)) (sym (append_assoc front (item ∷ []) items))
with_more front item read size (Refused refusal more) = refl

pub reached_none : (all : ℕ) (bytes : List ℕ) → Reached all bytes [] 0 all
reached_none all bytes = record { whole = sym (with_none (items_reading all bytes)); sum = omega arith; within = omega arith }

pub one_more : (room : ℕ) (bytes : List ℕ) (item : Item) (size : ℕ) → 0 < room → step_reading room bytes ≡ Gives (ItemStep item) size
    → items_reading room bytes ≡ with_items (item ∷ []) size (items_reading (room - 1) (drop size bytes))
one_more zero bytes item size some e = absurd (omega arith)
one_more (suc room) bytes item size some e =
    items-suc room bytes ∙ ap (items_by (items_reading room) bytes) e ∙ ap (λ n. with_items (item ∷ []) size (items_reading n (drop size bytes))) (let same : room ≡ suc room - 1 = omega arith in same)

pub reached_item : (all : ℕ) (bytes : List ℕ) (front : List Item) (read room : ℕ) (item : Item) (size : ℕ) → Reached all bytes front read room → 0 < room
    → step_reading room (drop read bytes) ≡ Gives (ItemStep item) size → size ≤ length (drop read bytes) → Reached all bytes (front ++ item ∷ []) (read + size) (room - 1)
reached_item all bytes front read room item size h some e fits =
    let left = length-drop read bytes in
    let low = h.within in
    let sum = h.sum in
    let more = length-append front (item ∷ []) in
    let skipped : drop size (drop read bytes) ≡ drop (read + size) bytes = drop-drop size read bytes ∙ ap (λ n. drop n bytes) (omega arith) in
    record {
      whole = h.whole ∙ ap (with_items front read) (one_more room (drop read bytes) item size some e) ∙ with_more front item read size (items_reading (room - 1) (drop size (drop read bytes)))
          ∙ ap (λ s. with_items (front ++ item ∷ []) (read + size) (items_reading (room - 1) s)) skipped;
      sum = omega arith;
      within = omega arith;
    }

pub reached_waits : (all : ℕ) (bytes : List ℕ) (front : List Item) (read room : ℕ) → Reached all bytes front read room → step_reading room (drop read bytes) ≡ Waits → items_reading all bytes ≡ Waits
reached_waits all bytes front read zero h e = h.whole ∙ ap (with_items front read) (items-zero (drop read bytes) ∙ ap (items_by (λ _. Waits) (drop read bytes)) e)
reached_waits all bytes front read (suc room) h e = h.whole ∙ ap (with_items front read) (items-suc room (drop read bytes) ∙ ap (items_by (items_reading room) (drop read bytes)) e)

pub reached_end : (all : ℕ) (bytes : List ℕ) (front : List Item) (read room size : ℕ) → Reached all bytes front read room → step_reading room (drop read bytes) ≡ Gives EndStep size
    → items_reading all bytes ≡ Gives front (read + size)
reached_end all bytes front read room size h e = h.whole ∙ ap (with_items front read) (end_of room (drop read bytes) size e) ∙ ap (λ l. Gives l (read + size)) (append-nil front)

pub reached_refused : (all : ℕ) (bytes : List ℕ) (front : List Item) (read room : ℕ) (refusal : TextError) (size : ℕ) → Reached all bytes front read room
    → step_reading room (drop read bytes) ≡ Refused refusal size → items_reading all bytes ≡ Refused refusal 0
reached_refused all bytes front read room refusal size h e = h.whole ∙ ap (with_items front read) (refused_of room (drop read bytes) refusal size e)

-- items were read, whichever they are
abbrev pub ReachedSo : ℕ → List ℕ → ℕ → ℕ → Type 0
ReachedSo all bytes read room = (front : List Item) × Reached all bytes front read room
