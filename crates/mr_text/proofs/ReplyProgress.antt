-- What was read of an unfinished reply, and how reading goes on behind it.
use Rattle.std.proofs.Common.{◌≡◌, ◌≢◌, ℕ, ◌+◌, ◌-◌, ◌<◌, ◌≤◌, ◌⊎◌, Bool, true, false, List, [], ◌∷◌, ◌++◌, length, take, drop, Option, Some, None, Result, Ok, Err, refl, sym, ◌∙◌, ap, subst, arith, codes, inl, inr, append_assoc, append-nil, length-append, length-drop}
use Rattle.std.proofs.Math.Seq.{take-append_seam, drop-append_seam}
use Rattle.std.proofs.lemmas.List.{length-take-le, take-append-drop, drop-drop, take_all}
use Rattle.mr_lines.specs.Words.{words_of}
use Rattle.mr_text.specs.Requests.{block_end}
use Rattle.mr_text.specs.Replies.{IsItemLine, SpellsItem, BeginsWithItems, HoldsItem, IsAnItemLine, HasReadPart, HasReadAll, HasReadToBlock, cause_of}
use Rattle.mr_text.specs.steps.BegunItem.{SaidItem, IsLineSoFar, HasRead, is_begun}
use Rattle.mr_text.specs.steps.ReplySteps.{IsStepAhead, IsAhead, SaysFirst}
use Rattle.mr_text.specs.steps.ReplyView.{reply_line_of}
use Rattle.mr_text.specs.declared.reading.reply_lines.SaidLine.{SaidLine}
use Rattle.mr_text.specs.declared.reading.reply_lines.SaidLine.TheVariants as said
use Rattle.mr_text.specs.declared.reading.replies.StepAhead.TheVariants as ahead
use Rattle.mr_text.specs.declared.reply.Reply.{Reply}
use Rattle.mr_text.specs.steps.Reading.{StretchReading, line_reading, block_reading}
use Rattle.mr_text.specs.steps.Reading.StretchReading.{Waits, Gives, Refused}
use Rattle.mr_text.specs.steps.ReplyReading.{first_line, next_line, item_step, step_of_line, step_reading, with_items, items_reading, as_reply, reply_reading}
use Rattle.mr_text.specs.steps.ReplyReading.ReplyLine.{ItemLine, EndLine, LoneLine}
use Rattle.mr_text.specs.steps.ReplyReading.Step.{ItemStep, EndStep}
use Rattle.mr_text.specs.declared.item.Item.{Item}
use Rattle.mr_text.specs.Limits.{MAX_BLOCK, MAX_HELD, MAX_ITEMS}
use Rattle.mr_text.specs.declared.error.TextError.{TextError}
use Rattle.mr_text.specs.declared.reply.Reply.TheVariants.{Items, Stored, Deleted, NotFound, Error, ClientError, ServerError}
use Rattle.mr_text.proofs.Blocks.{IsBlockRead, BlockIs, block_is}
use Rattle.mr_text.proofs.Lines.{IsRead, LineIs, line_is, line_length, line_found}
use Rattle.mr_text.proofs.ReplyFirst.{FirstIs, first_is}
use Rattle.mr_text.proofs.ReplyLines.{NextLineIs, next_line_is, end_found}
use Rattle.mr_text.proofs.ReplySteps.{item_found, item_line_found, is_item_line}
use Rattle.mr_text.proofs.ReplyReading.{item_reply, item_first, by_items, end_of, step_of}
use Rattle.mr_text.proofs.ShortRequests.{line_waits}
use Rattle.mr_text.proofs.Reached.{Reached, reached_none, reached_item, reached_waits, reached_end, reached_refused, one_more}

-- more bytes behind items
pub items_before : (items : List Item) (bytes behind more : List ℕ) → BeginsWithItems bytes items behind → BeginsWithItems (bytes ++ more) items (behind ++ more)
items_before [] bytes behind more begins = ap (λ s. s ++ more) begins
items_before (item ∷ items) bytes behind more (front, rest, splits, spells, begins) =
    (front, rest ++ more, ap (λ s. s ++ more) splits ∙ append_assoc front rest more, spells, items_before items rest behind more begins)

-- one more item behind items
pub items_and_item : (items : List Item) (item : Item) (bytes front after : List ℕ) → BeginsWithItems bytes items (front ++ after) → SpellsItem front item
    → BeginsWithItems bytes (items ++ item ∷ []) after
items_and_item [] item bytes front after begins spells = (front, after, begins, spells, refl)
items_and_item (other ∷ items) item bytes front after (start, rest, splits, first, begins) spells =
    (start, rest, splits, first, items_and_item items item rest front after begins spells)

-- items that the bytes begin with were read, and reading goes on behind them
pub record ReadTo (bytes : List ℕ) (items : List Item) (behind : List ℕ) (room : ℕ) : Type 0 where
  pub size : ℕ
  pub reached : Reached MAX_ITEMS bytes items size room
  pub left : drop size bytes ≡ behind

pub read_one : (bytes : List ℕ) (items : List Item) (item : Item) (front after : List ℕ) (room : ℕ) → ReadTo bytes items (front ++ after) room → 0 < room → SpellsItem front item
    → ReadTo bytes (items ++ item ∷ []) after (room - 1)
read_one bytes items item front after room h some spells =
    let step : step_reading room (drop h.size bytes) ≡ Gives (ItemStep item) (length front) = ap (step_reading room) h.left ∙ item_found room front after item some spells in
    let within : length front ≤ length (drop h.size bytes) = omega (arith, ap length h.left, length-append front after) in
    let skipped : drop (h.size + length front) bytes ≡ after =
    sym (drop-drop (length front) h.size bytes) ∙ ap (drop (length front)) h.left ∙ drop-append_seam front after in
    record { size = h.size + length front; reached = reached_item MAX_ITEMS bytes items h.size room item (length front) h.reached some step within; left = skipped }

read_more : (bytes : List ℕ) (before items : List Item) (start behind : List ℕ) (room : ℕ) → ReadTo bytes before start (length items + room) → BeginsWithItems start items behind
    → ReadTo bytes (before ++ items) behind room
read_more bytes before [] start behind room h begins =
    subst (λ s. ReadTo bytes (before ++ []) s room) begins (subst (λ l. ReadTo bytes l start room) (sym (append-nil before)) (subst (ReadTo bytes before start) (omega arith) h))
read_more bytes before (item ∷ items) start behind room h (front, rest, splits, spells, begins) =
    let one = read_one bytes before item front rest (length (item ∷ items) + room) (subst (λ s. ReadTo bytes before s (length (item ∷ items) + room)) splits h) (omega arith) spells in
    let next = read_more bytes (before ++ item ∷ []) items rest behind room (subst (ReadTo bytes (before ++ item ∷ []) rest) (omega arith) one) begins in
    subst (λ l. ReadTo bytes l behind room) (append_assoc before (item ∷ []) items) next

pub read_items : (bytes : List ℕ) (items : List Item) (behind : List ℕ) (room : ℕ) → length items + room ≡ MAX_ITEMS → BeginsWithItems bytes items behind → ReadTo bytes items behind room
read_items bytes items behind room sum begins =
    read_more bytes [] items bytes behind room (subst (ReadTo bytes [] bytes) (sym sum) (record { size = 0; reached = reached_none MAX_ITEMS bytes; left = refl })) begins

-- the line of an item, as its words say it
pub item_line_is : (bytes line key : List ℕ) (room flags block_length size : ℕ) → line_reading bytes ≡ Gives line size → next_line room (words_of line) ≡ Ok (ItemLine key flags block_length)
    → IsItemLine (take size bytes) key flags block_length × (block_length ≤ MAX_BLOCK) × (0 < room)
item_line_is bytes line key room flags block_length size read said =
    let is : IsRead bytes line size = subst (λ r. LineIs bytes r) read (line_is bytes) in
    let says : NextLineIs room (words_of line) (Ok (ItemLine key flags block_length)) = subst (NextLineIs room (words_of line)) said (next_line_is room (words_of line)) in
    (is_item_line 0 bytes line size is says.1 says.2 key flags block_length says.3, says.4, says.0)

pub first_item_line_is : (bytes line key : List ℕ) (flags block_length size : ℕ) → line_reading bytes ≡ Gives line size → first_line line (words_of line) ≡ Ok (ItemLine key flags block_length)
    → IsItemLine (take size bytes) key flags block_length × (block_length ≤ MAX_BLOCK)
first_item_line_is bytes line key flags block_length size read said =
    let is : IsRead bytes line size = subst (λ r. LineIs bytes r) read (line_is bytes) in
    let says : FirstIs line (words_of line) (Ok (ItemLine key flags block_length)) = subst (FirstIs line (words_of line)) said (first_is line (words_of line)) in
    (is_item_line 0 bytes line size is says.1 says.2 key flags block_length says.3, says.4)

-- the line of an item, and then the block behind it
pub item_waits : (room : ℕ) (line tail key : List ℕ) (flags block_length : ℕ) → 0 < room → IsItemLine line key flags block_length → block_length ≤ MAX_BLOCK
    → block_reading block_length tail ≡ Ok false → step_reading room (line ++ tail) ≡ Waits
item_waits room line tail key flags block_length some is allowed e =
    item_line_found room line tail key flags block_length some is allowed ∙ ap (item_step (line ++ tail) (length line) key flags block_length) e

pub item_refused : (room : ℕ) (line tail key : List ℕ) (flags block_length : ℕ) (refusal : TextError) → 0 < room → IsItemLine line key flags block_length → block_length ≤ MAX_BLOCK
    → block_reading block_length tail ≡ Err refusal → step_reading room (line ++ tail) ≡ Refused refusal 0
item_refused room line tail key flags block_length refusal some is allowed e =
    item_line_found room line tail key flags block_length some is allowed ∙ ap (item_step (line ++ tail) (length line) key flags block_length) e

-- the item of a line and the block behind it
pub item_whole : (line tail key : List ℕ) (flags block_length : ℕ) → IsItemLine line key flags block_length → block_length ≤ MAX_BLOCK
    → block_reading block_length tail ≡ Ok true → SpellsItem (line ++ take (block_length + 2) tail) (record { key = key; flags = flags; block = take block_length tail })
item_whole line tail key flags block_length is allowed e =
    let block : IsBlockRead block_length tail = subst (BlockIs block_length tail) e (block_is block_length tail) in
    let within = block.within in
    let size : length (take block_length tail) ≡ block_length = length-take-le block_length tail (omega arith) in
    let rest = drop (block_length + 2) tail in
    let joined : tail ≡ (take block_length tail ++ block_end) ++ rest = block.splits ∙ sym (append_assoc (take block_length tail) block_end rest) in
    let whole : length (take block_length tail ++ block_end) ≡ block_length + 2 = length-append (take block_length tail) block_end ∙ ap (λ n. n + 2) size in
    record {
      line = line;
      is_line = subst (λ n. IsItemLine line key flags n) (sym size) is;
      is_block = (omega arith);
      follows = ap (λ s. line ++ s) (ap (take (block_length + 2)) joined ∙ ap (λ n. take n ((take block_length tail ++ block_end) ++ rest)) (sym whole)
          ∙ take-append_seam (take block_length tail ++ block_end) rest);
    }

pub item_step_whole : (room : ℕ) (line tail key : List ℕ) (flags block_length : ℕ) → 0 < room → IsItemLine line key flags block_length → block_length ≤ MAX_BLOCK
    → block_reading block_length tail ≡ Ok true
    → step_reading room (line ++ tail) ≡ Gives (ItemStep (record { key = key; flags = flags; block = take block_length tail })) (length line + block_length + 2)
item_step_whole room line tail key flags block_length some is allowed e =
    let behind = drop-append_seam line tail in
    item_line_found room line tail key flags block_length some is allowed ∙ ap (item_step (line ++ tail) (length line) key flags block_length) e
    ∙ ap (λ s. Gives (ItemStep (record { key = key; flags = flags; block = take block_length s })) (length line + block_length + 2)) behind

pub block_within : (block_length : ℕ) (bytes : List ℕ) → block_reading block_length bytes ≡ Ok true → block_length + 2 ≤ length bytes
block_within block_length bytes e = (let block : IsBlockRead block_length bytes = subst (BlockIs block_length bytes) e (block_is block_length bytes) in block.within)

-- looking ahead over items

-- the same behind items that were read
pub ahead_more : (front : List Item) (size : ℕ) (reading : StretchReading (List Item)) (r : Result Bool TextError) → IsAhead reading r → IsAhead (with_items front size reading) r
ahead_more front size reading (Ok true) h = (front ++ h.0, size + h.1, ap (with_items front size) h.2)
ahead_more front size reading (Ok false) h = ap (with_items front size) h
ahead_more front size reading (Err refusal) h = ap (with_items front size) h

-- a block whose line was read, by what the reading of it finds
module _ (bytes key : List ℕ) (flags block_length size room : ℕ) (within : size ≤ length bytes) (some : 0 < room) (is : IsItemLine (take size bytes) key flags block_length)
    (allowed : block_length ≤ MAX_BLOCK) where
  cut_here : step_reading room (take size bytes ++ drop size bytes) ≡ step_reading room bytes
  cut_here = ap (step_reading room) (take-append-drop size bytes)

  pub ahead_waits : block_reading block_length (drop size bytes) ≡ Ok false → step_reading room bytes ≡ Waits
  ahead_waits e = sym cut_here ∙ item_waits room (take size bytes) (drop size bytes) key flags block_length some is allowed e

  pub ahead_refused : (refusal : TextError) → block_reading block_length (drop size bytes) ≡ Err refusal → step_reading room bytes ≡ Refused refusal 0
  ahead_refused refusal e = sym cut_here ∙ item_refused room (take size bytes) (drop size bytes) key flags block_length refusal some is allowed e

  pub ahead_whole : block_reading block_length (drop size bytes) ≡ Ok true → IsStepAhead room bytes (Ok (ahead.Item (size + block_length + 2)))
  ahead_whole e =
      let line_size : length (take size bytes) ≡ size = length-take-le size bytes within in
      let fits = block_within block_length (drop size bytes) e in
      let left = length-drop size bytes in (
        record { key = key; flags = flags; block = take block_length (drop size bytes) },
        sym cut_here ∙ item_step_whole room (take size bytes) (drop size bytes) key flags block_length some is allowed e
            ∙ ap (λ n. Gives (ItemStep (record { key = key; flags = flags; block = take block_length (drop size bytes) })) (n + block_length + 2)) line_size,
        omega arith,
        some,
      )

-- the same before more items
module _ (line tail key : List ℕ) (flags block_length room : ℕ) (some : 0 < room) (is : IsItemLine line key flags block_length) (allowed : block_length ≤ MAX_BLOCK) where
  pub behind_waits : block_reading block_length tail ≡ Ok false → IsAhead (items_reading room (line ++ tail)) (Ok false)
  behind_waits e = reached_waits room (line ++ tail) [] 0 room (reached_none room (line ++ tail)) (item_waits room line tail key flags block_length some is allowed e)

  pub behind_refused : (refusal : TextError) → block_reading block_length tail ≡ Err refusal → IsAhead (items_reading room (line ++ tail)) (Err refusal)
  behind_refused refusal e =
      reached_refused room (line ++ tail) [] 0 room refusal 0 (reached_none room (line ++ tail)) (item_refused room line tail key flags block_length refusal some is allowed e)

  pub behind_whole : (r : Result Bool TextError) → block_reading block_length tail ≡ Ok true → IsAhead (items_reading (room - 1) (drop (block_length + 2) tail)) r
      → IsAhead (items_reading room (line ++ tail)) r
  behind_whole r e h =
      let item : Item = record { key = key; flags = flags; block = take block_length tail } in
      let step = item_step_whole room line tail key flags block_length some is allowed e in
      let skipped : drop (length line + block_length + 2) (line ++ tail) ≡ drop (block_length + 2) tail =
      ap (λ n. drop n (line ++ tail)) (let e : length line + block_length + 2 ≡ length line + (block_length + 2) = omega arith in e)
      ∙ sym (drop-drop (block_length + 2) (length line) (line ++ tail)) ∙ ap (drop (block_length + 2)) (drop-append_seam line tail) in
      let one = one_more room (line ++ tail) item (length line + block_length + 2) some step in
      subst (λ s. IsAhead s r) (sym (one ∙ ap (λ s. with_items (item ∷ []) (length line + block_length + 2) (items_reading (room - 1) s)) skipped))
      (ahead_more (item ∷ []) (length line + block_length + 2) (items_reading (room - 1) (drop (block_length + 2) tail)) r h)

-- what was read of an unfinished reply

line_some : (line key : List ℕ) (flags block_length : ℕ) → IsItemLine line key flags block_length → 1 ≤ length line
line_some line key flags block_length is = (let size = line_length line is.is_line.line is.is_line.is_line in omega arith)

pub front_none : (front : List ℕ) (items : List Item) (said : Option SaidItem) → HasRead front items said → is_begun items said ≡ false → front ≡ []
front_none front [] None h e = h.begins ∙ h.is_line
front_none front [] (Some said) h e = cc
front_none front (item ∷ items) said h e = cc

pub front_some : (front : List ℕ) (items : List Item) (said : Option SaidItem) → HasRead front items said → is_begun items said ≡ true → front ≢ []
front_some front [] None h e = cc
front_some front [] (Some said) h e = λ empty.
    (let some = line_some h.line said.key said.flags said.block_length h.is_line.0 in let same = ap length h.begins in let none = ap length empty in omega arith)
front_some front (item ∷ items) said h e = λ empty.
    let spells = h.begins.3 in
    let all = ap length h.begins.2 in
    let none = ap length empty in
    let sum = length-append h.begins.0 h.begins.1 in
    let first = ap length spells.follows in
    let more = length-append spells.line (item.block ++ block_end) in
    let end = length-append item.block block_end in
    omega arith

-- all that is kept is read as items
pub begun_reads : (front unread : List ℕ) (items : List Item) (said : Option SaidItem) → HasRead front items said → is_begun items said ≡ true
    → reply_reading (front ++ unread) ≡ as_reply (items_reading MAX_ITEMS (front ++ unread))
begun_reads front unread [] None h e = cc
begun_reads front unread [] (Some said) h e =
    subst (λ s. reply_reading (s ++ unread) ≡ as_reply (items_reading MAX_ITEMS (s ++ unread))) (sym h.begins)
    (item_reply h.line unread said.key said.flags said.block_length h.is_line.0 h.is_line.1)
begun_reads front unread (item ∷ items) said h e =
    item_first item items (front ++ unread) (h.line ++ unread) (items_before (item ∷ items) front h.line unread h.begins)

pub room_of : (front : List ℕ) (items : List Item) (said : Option SaidItem) → HasRead front items said → length items ≤ MAX_ITEMS
room_of front items None h = h.few
room_of front items (Some said) h = (let few = h.few in omega arith)

-- and goes on behind the items
pub begun_to : (front unread : List ℕ) (items : List Item) (said : Option SaidItem) (h : HasRead front items said)
    → ReadTo (front ++ unread) items (h.line ++ unread) (MAX_ITEMS - length items)
begun_to front unread items said h =
    let few = room_of front items said h in
    read_items (front ++ unread) items (h.line ++ unread) (MAX_ITEMS - length items) (omega arith) (items_before items front h.line unread h.begins)

module _ (bytes : List ℕ) (items : List Item) (behind : List ℕ) (room : ℕ) (h : ReadTo bytes items behind room) where
  pub to_ahead : (r : Result Bool TextError) → IsAhead (items_reading room behind) r → IsAhead (items_reading MAX_ITEMS bytes) r
  to_ahead r a =
      subst (λ s. IsAhead s r) (sym (h.reached.whole ∙ ap (λ s. with_items items h.size (items_reading room s)) h.left)) (ahead_more items h.size (items_reading room behind) r a)

  pub to_waits : step_reading room behind ≡ Waits → items_reading MAX_ITEMS bytes ≡ Waits
  to_waits e = reached_waits MAX_ITEMS bytes items h.size room h.reached (ap (step_reading room) h.left ∙ e)

  pub to_refused : (refusal : TextError) → step_reading room behind ≡ Refused refusal 0 → items_reading MAX_ITEMS bytes ≡ Refused refusal 0
  to_refused refusal e = reached_refused MAX_ITEMS bytes items h.size room refusal 0 h.reached (ap (step_reading room) h.left ∙ e)

  pub to_end : (size : ℕ) → step_reading room behind ≡ Gives EndStep size → items_reading MAX_ITEMS bytes ≡ Gives items (h.size + size)
  to_end size e = reached_end MAX_ITEMS bytes items h.size room size h.reached (ap (step_reading room) h.left ∙ e)

-- a part of the reply
said_line : (line : List ℕ) (said : Option SaidItem) → IsLineSoFar line said → (line ≡ []) ⊎ IsAnItemLine line
said_line line None h = inl h
said_line line (Some said) h = inr (said.key, said.flags, said.block_length, h.0)

pub read_part : (front unread : List ℕ) (items : List Item) (said : Option SaidItem) → HasRead front items said → HasReadPart (front ++ unread) (length front)
read_part front unread items said h = record {
  items = items;
  line = h.line;
  after = unread;
  begins = items_before items front h.line unread h.begins;
  is_line = said_line h.line said h.is_line;
  counted = sym (length-append front unread);
}

-- an item has a line
no_item_without_line : (bytes : List ℕ) → line_reading bytes ≡ Waits → ¬ HoldsItem bytes
no_item_without_line bytes e (item, after, (front, behind, splits, spells, rest)) =
    let words = spells.is_line.is_line in
    let found = line_found spells.line ((item.block ++ block_end) ++ behind) words.line words.is_line words.not_long in
    let joined : bytes ≡ spells.line ++ ((item.block ++ block_end) ++ behind) =
    splits ∙ ap (λ s. s ++ behind) spells.follows ∙ append_assoc spells.line (item.block ++ block_end) behind in
    let there = ap line_reading joined ∙ found in
    cc

pub read_all_lines : (front unread : List ℕ) (items : List Item) → HasRead front items None → line_reading unread ≡ Waits → HasReadAll (front ++ unread) (length front)
unfolding read_part
read_all_lines front unread items h e = record {
  part = read_part front unread items None h;
  no_line = λ none. (line_waits unread e).0;
  no_block = λ holds. no_item_without_line unread e (subst (λ s. HoldsItem (s ++ unread)) h.is_line holds);
}

pub read_all_blocks : (front unread : List ℕ) (items : List Item) (said : SaidItem) → HasRead front items (Some said) → block_reading said.block_length unread ≡ Ok false
    → HasReadAll (front ++ unread) (length front)
unfolding read_part
read_all_blocks front unread items said h e = record {
  part = read_part front unread items (Some said) h;
  no_line = λ none. (let some = line_some h.line said.key said.flags said.block_length h.is_line.0 in let empty = ap length none in absurd (omega arith));
  no_block = λ (item, after, (start, behind, splits, spells, rest)).
      let there = ap (step_reading 1) splits ∙ item_found 1 start behind item (omega arith) spells in
      let waits = item_waits 1 h.line unread said.key said.flags said.block_length (omega arith) h.is_line.0 h.is_line.1 e in
      let both : Gives (ItemStep item) (length start) ≡ Waits = sym there ∙ waits in
      cc;
}

-- the item that is whole with its block
pub holds_item : (front unread : List ℕ) (items : List Item) (said : SaidItem) → HasRead front items (Some said) → block_reading said.block_length unread ≡ Ok true
    → HoldsItem (front ++ unread)
holds_item front unread [] said h e =
    let whole = item_whole h.line unread said.key said.flags said.block_length h.is_line.0 h.is_line.1 e in (
      record { key = said.key; flags = said.flags; block = take said.block_length unread },
      drop (said.block_length + 2) unread,
      (
        h.line ++ take (said.block_length + 2) unread,
        drop (said.block_length + 2) unread,
        ap (λ s. s ++ unread) h.begins ∙ ap (λ s. h.line ++ s) (sym (take-append-drop (said.block_length + 2) unread))
            ∙ sym (append_assoc h.line (take (said.block_length + 2) unread) (drop (said.block_length + 2) unread)),
        whole,
        refl,
      ),
    )
holds_item front unread (item ∷ items) said h e =
    (item, h.begins.1 ++ unread, (h.begins.0, h.begins.1 ++ unread, ap (λ s. s ++ unread) h.begins.2 ∙ append_assoc h.begins.0 h.begins.1 unread, h.begins.3, refl))

-- up to its block
pub read_to_block : (front unread : List ℕ) (items : List Item) (said : SaidItem) → HasRead front items (Some said) → block_reading said.block_length unread ≡ Ok true
    → HasReadToBlock (front ++ unread) (length front)
unfolding read_part
read_to_block front unread items said h e =
    let whole = item_whole h.line unread said.key said.flags said.block_length h.is_line.0 h.is_line.1 e in
    record {
      part = read_part front unread items (Some said) h;
      has_line = λ none. (let some = line_some h.line said.key said.flags said.block_length h.is_line.0 in let empty = ap length none in omega arith);
      is_whole = (
        record { key = said.key; flags = said.flags; block = take said.block_length unread },
        drop (said.block_length + 2) unread,
        (
          h.line ++ take (said.block_length + 2) unread,
          drop (said.block_length + 2) unread,
          ap (λ s. h.line ++ s) (sym (take-append-drop (said.block_length + 2) unread))
              ∙ sym (append_assoc h.line (take (said.block_length + 2) unread) (drop (said.block_length + 2) unread)),
          whole,
          refl,
        ),
      );
    }

-- one more line, and one more block
pub line_read : (front unread : List ℕ) (items : List Item) (said : SaidItem) (size : ℕ) → HasRead front items None → length items < MAX_ITEMS
    → IsItemLine (take size unread) said.key said.flags said.block_length → said.block_length ≤ MAX_BLOCK → HasRead (front ++ take size unread) items (Some said)
line_read front unread items said size h some is allowed = record {
  line = take size unread;
  begins = subst (λ s. BeginsWithItems (front ++ take size unread) items (s ++ take size unread)) h.is_line (items_before items front h.line (take size unread) h.begins);
  is_line = (is, allowed);
  few = (omega arith);
}

pub block_read : (front unread : List ℕ) (items : List Item) (said : SaidItem) → HasRead front items (Some said) → block_reading said.block_length unread ≡ Ok true
    → HasRead (front ++ take (said.block_length + 2) unread) (items ++ record { key = said.key; flags = said.flags; block = take said.block_length unread } ∷ []) None
block_read front unread items said h e =
    let item : Item = record { key = said.key; flags = said.flags; block = take said.block_length unread } in
    let more = items_before items front h.line (take (said.block_length + 2) unread) h.begins in
    let whole = item_whole h.line unread said.key said.flags said.block_length h.is_line.0 h.is_line.1 e in
    let sum = length-append items (item ∷ []) in
    let few = h.few in
    record {
      line = [];
      begins = items_and_item items item (front ++ take (said.block_length + 2) unread) (h.line ++ take (said.block_length + 2) unread) []
          (subst (BeginsWithItems (front ++ take (said.block_length + 2) unread) items) (sym (append-nil (h.line ++ take (said.block_length + 2) unread))) more) whole;
      is_line = refl;
      few = (omega arith);
    }

-- where no line is whole
pub first_waits : (bytes : List ℕ) → line_reading bytes ≡ Waits → reply_reading bytes ≡ Waits
unfolding reply_reading
first_waits bytes e = rw e refl

pub next_waits : (room : ℕ) (bytes : List ℕ) → line_reading bytes ≡ Waits → step_reading room bytes ≡ Waits
unfolding step_reading
next_waits room bytes e = rw e refl

pub line_short : (bytes : List ℕ) → line_reading bytes ≡ Waits → length bytes ≤ MAX_HELD
line_short bytes e = (let short = (line_waits bytes e).1 in omega arith)

lone_says : (bytes line : List ℕ) (size : ℕ) (reply : Reply) → line_reading bytes ≡ Gives line size → first_line line (words_of line) ≡ Ok (LoneLine reply) → reply_reading bytes ≡ Gives reply size
unfolding reply_reading
lone_says bytes line size reply read said = rw (read, said) refl

end_says : (bytes line : List ℕ) (size : ℕ) → line_reading bytes ≡ Gives line size → first_line line (words_of line) ≡ Ok EndLine → reply_reading bytes ≡ Gives (Items []) size
end_says bytes line size read said =
    let words : words_of line ≡ codes "END" ∷ [] = subst (FirstIs line (words_of line)) said (first_is line (words_of line)) in
    let step : step_reading MAX_ITEMS bytes ≡ Gives EndStep size = step_of bytes line size read ∙ ap (step_of_line bytes size) (ap (next_line MAX_ITEMS) words ∙ end_found MAX_ITEMS) in
    by_items bytes line size EndLine read said refl ∙ ap as_reply (end_of MAX_ITEMS bytes size step)

pub says_first : (bytes line : List ℕ) (size : ℕ) (said : SaidLine) → line_reading bytes ≡ Gives line size → first_line line (words_of line) ≡ Ok (reply_line_of said)
    → SaysFirst bytes said size
says_first bytes line size (said.Item key flags block_length) read e = first_item_line_is bytes line key.now flags block_length size read e
says_first bytes line size said.End read e = (Items [], refl, end_says bytes line size read e)
says_first bytes line size said.Stored read e = (Stored, refl, lone_says bytes line size Stored read e)
says_first bytes line size said.Deleted read e = (Deleted, refl, lone_says bytes line size Deleted read e)
says_first bytes line size said.NotFound read e = (NotFound, refl, lone_says bytes line size NotFound read e)
says_first bytes line size said.Error read e = (Error, refl, lone_says bytes line size Error read e)
says_first bytes line size (said.ClientError text) read e = (ClientError (cause_of text.now), refl, lone_says bytes line size (ClientError (cause_of text.now)) read e)
says_first bytes line size (said.ServerError text) read e = (ServerError (cause_of text.now), refl, lone_says bytes line size (ServerError (cause_of text.now)) read e)

-- all bytes behind a place
pub behind_is : (n : ℕ) (bytes : List ℕ) → take (length bytes - n) (drop n bytes) ≡ drop n bytes
behind_is n bytes = (let left = length-drop n bytes in take_all (length bytes - n) (drop n bytes) (omega arith))
