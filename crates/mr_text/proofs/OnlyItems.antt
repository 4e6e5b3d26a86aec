-- The items of a reply that are read in one pass.
use Rattle.std.proofs.Common.{◌≡◌, ℕ, ◌+◌, ◌-◌, ◌<◌, ◌≤◌, true, List, [], ◌∷◌, ◌++◌, length, take, drop, Ok, sym, ◌∙◌, ap, arith, subst, length-append}
use Rattle.std.proofs.lemmas.List.{length-take-le, take-append-drop}
use Rattle.mr_text.specs.Limits.{MAX_BLOCK, MAX_ITEMS}
use Rattle.mr_text.specs.Replies.{IsItemLine}
use Rattle.mr_text.specs.declared.item.Item.{Item}
use Rattle.mr_text.specs.steps.Reading.{block_reading}
use Rattle.mr_text.specs.steps.Reading.StretchReading.{Gives}
use Rattle.mr_text.specs.steps.ReplyReading.{step_reading, items_reading, as_reply, reply_reading}
use Rattle.mr_text.specs.steps.ReplyReading.Step.{ItemStep, EndStep}
use Rattle.mr_text.specs.declared.reply.Reply.TheVariants.{Items}
use Rattle.mr_text.proofs.Reached.{Reached, reached_none, reached_item, reached_end}
use Rattle.mr_text.proofs.ReplyProgress.{item_step_whole}
use Rattle.mr_text.proofs.ReplyReading.{item_reply}

-- the line of an item, which is so many bytes at the front, and its block are the next item
pub item_at : (room : ℕ) (bytes key : List ℕ) (flags block_length size : ℕ) → 0 < room → size ≤ length bytes → IsItemLine (take size bytes) key flags block_length
    → block_length ≤ MAX_BLOCK → block_reading block_length (drop size bytes) ≡ Ok true
    → step_reading room bytes ≡ Gives (ItemStep (record { key = key; flags = flags; block = take block_length (drop size bytes) })) (size + block_length + 2)
item_at room bytes key flags block_length size some within is allowed whole =
    let item : Item = record { key = key; flags = flags; block = take block_length (drop size bytes) } in
    ap (step_reading room) (sym (take-append-drop size bytes)) ∙ item_step_whole room (take size bytes) (drop size bytes) key flags block_length some is allowed whole
    ∙ ap (λ n. Gives (ItemStep item) (n + block_length + 2)) (length-take-le size bytes within)

-- bytes that begin with the line of an item are a reply as far as they are items
pub items_at : (bytes key : List ℕ) (flags block_length size : ℕ) → IsItemLine (take size bytes) key flags block_length → block_length ≤ MAX_BLOCK
    → reply_reading bytes ≡ as_reply (items_reading MAX_ITEMS bytes)
items_at bytes key flags block_length size is allowed =
    subst (λ s. reply_reading s ≡ as_reply (items_reading MAX_ITEMS s)) (take-append-drop size bytes)
    (item_reply (take size bytes) (drop size bytes) key flags block_length is allowed)

-- the first item was read
pub first_reached : (bytes : List ℕ) (before : List Item) (item : Item) (size : ℕ) → before ≡ [] → step_reading MAX_ITEMS bytes ≡ Gives (ItemStep item) size → size ≤ length bytes
    → (length before < MAX_ITEMS) × Reached MAX_ITEMS bytes (before ++ item ∷ []) size (MAX_ITEMS - 1 - length before)
first_reached bytes before item size none step fits =
    let empty : length before ≡ 0 = ap length none in
    let one : Reached MAX_ITEMS bytes (item ∷ []) (0 + size) (MAX_ITEMS - 1) =
    reached_item MAX_ITEMS bytes [] 0 MAX_ITEMS item size (reached_none MAX_ITEMS bytes) (omega arith) step fits in
    let sized : Reached MAX_ITEMS bytes (item ∷ []) size (MAX_ITEMS - 1 - length before) =
    subst (λ n. Reached MAX_ITEMS bytes (item ∷ []) n (MAX_ITEMS - 1 - length before)) (let e : 0 + size ≡ size = omega arith in e)
    (subst (Reached MAX_ITEMS bytes (item ∷ []) (0 + size)) (let e : MAX_ITEMS - 1 ≡ MAX_ITEMS - 1 - length before = omega arith in e) one) in
    (omega arith, subst (λ l. Reached MAX_ITEMS bytes (l ++ item ∷ []) size (MAX_ITEMS - 1 - length before)) (sym none) sized)

-- one more was read
pub next_reached : (bytes rest : List ℕ) (before after : List Item) (last item : Item) (read size room : ℕ) → room ≡ MAX_ITEMS - 1 - length before → rest ≡ drop read bytes
    → after ≡ before ++ last ∷ [] → Reached MAX_ITEMS bytes (before ++ last ∷ []) read (MAX_ITEMS - 1 - length before)
    → 0 < room → step_reading room rest ≡ Gives (ItemStep item) size → size ≤ length rest
    → (length after < MAX_ITEMS) × Reached MAX_ITEMS bytes (after ++ item ∷ []) (read + size) (MAX_ITEMS - 1 - length after)
next_reached bytes rest before after last item read size room same cut grown reached some step fits =
    let more = length-append before (last ∷ []) in
    let long = ap length grown in
    let there : step_reading (MAX_ITEMS - 1 - length before) (drop read bytes) ≡ Gives (ItemStep item) size =
    subst (λ n. step_reading n (drop read bytes) ≡ Gives (ItemStep item) size) same (subst (λ s. step_reading room s ≡ Gives (ItemStep item) size) cut step) in
    let one = reached_item MAX_ITEMS bytes (before ++ last ∷ []) read (MAX_ITEMS - 1 - length before) item size reached (omega arith) there (subst (λ s. size ≤ length s) cut fits) in (
      omega arith,
      subst (λ l. Reached MAX_ITEMS bytes (l ++ item ∷ []) (read + size) (MAX_ITEMS - 1 - length after)) (sym grown)
          (subst (Reached MAX_ITEMS bytes ((before ++ last ∷ []) ++ item ∷ []) (read + size)) (let e : MAX_ITEMS - 1 - length before - 1 ≡ MAX_ITEMS - 1 - length after = omega arith in e) one),
    )

-- they end, and are all items of a reply
pub reached_reply : (bytes rest : List ℕ) (before list : List Item) (last : Item) (read size room : ℕ) → room ≡ MAX_ITEMS - 1 - length before → rest ≡ drop read bytes
    → list ≡ before ++ last ∷ [] → Reached MAX_ITEMS bytes (before ++ last ∷ []) read (MAX_ITEMS - 1 - length before)
    → step_reading room rest ≡ Gives EndStep size → reply_reading bytes ≡ as_reply (items_reading MAX_ITEMS bytes) → reply_reading bytes ≡ Gives (Items list) (read + size)
reached_reply bytes rest before list last read size room same cut grown reached step whole =
    let there : step_reading (MAX_ITEMS - 1 - length before) (drop read bytes) ≡ Gives EndStep size =
    subst (λ n. step_reading n (drop read bytes) ≡ Gives EndStep size) same (subst (λ s. step_reading room s ≡ Gives EndStep size) cut step) in
    whole ∙ ap as_reply (reached_end MAX_ITEMS bytes (before ++ last ∷ []) read (MAX_ITEMS - 1 - length before) size reached there)
    ∙ ap (λ (l : List Item). Gives (Items l) (read + size)) (sym grown)
