-- What is written of an answer, leg by leg.
use Rattle.std.proofs.Common.{◌≡◌, ℕ, zero, suc, ◌+◌, ◌<◌, ◌≤◌, List, [], ◌∷◌, ◌++◌, length, map, take, drop, get_or, length-append, Err, refl, sym, ap, subst, ◌∙◌, arith}
use Rattle.std.proofs.lemmas.Grind.{flat_map-append}
use Rattle.mr_text.specs.Canonical.{item_text, items_text}
use Rattle.mr_text.specs.Gathering.{HasGathered, Gathers, parts_of_reply}
use Rattle.mr_text.specs.Sink.{SinkView}
use Rattle.mr_text.specs.declared.error.WriteFault.{WriteFault}
use Rattle.mr_text.specs.declared.item.Item.{Item}
use Rattle.mr_join.specs.declared.leg_reply.LegReply.{LegReply}
use Rattle.mr_join.specs.declared.leg_reply.LegReply.TheVariants.{Hit, Miss, Stored, Deleted, NotFound, Failed}
use Rattle.mr_join.specs.Join.{with_hit, hits_of, reply_by}
use Rattle.mr_proxy.specs.declared.slot.Slot.{Slot}
use Rattle.mr_proxy.specs.Slots.{reply_of_slot}
use Rattle.mr_text.proofs.Gathered.{gathered_then, gathers_behind, gathers_before}

with_more : (key : List ℕ) (outcome : LegReply) (items more : List Item) → with_hit key outcome (items ++ more) ≡ with_hit key outcome items ++ more
with_more key (Hit flags block) items more = refl
with_more key Miss items more = refl
with_more key Stored items more = refl
with_more key Deleted items more = refl
with_more key NotFound items more = refl
with_more key (Failed cause) items more = refl

hits_more : (keys : List (List ℕ)) (slots : List Slot) (i : ℕ) (k : List ℕ) (s : Slot) → i < length keys → i < length slots
    → hits_of (take (suc i) keys) (map reply_of_slot (take (suc i) slots))
    ≡ hits_of (take i keys) (map reply_of_slot (take i slots)) ++ hits_of (get_or keys i k ∷ []) (reply_of_slot (get_or slots i s) ∷ [])
hits_more [] slots i k s below within = absurd (omega arith)
hits_more (key ∷ keys) [] i k s below within = absurd (omega arith)
hits_more (key ∷ keys) (slot ∷ slots) zero k s below within = refl
hits_more (key ∷ keys) (slot ∷ slots) (suc i) k s below within =
    ap (with_hit key (reply_of_slot slot)) (hits_more keys slots i k s (omega arith) (omega arith))
    ∙ with_more key (reply_of_slot slot) (hits_of (take i keys) (map reply_of_slot (take i slots))) (hits_of (get_or keys i k ∷ []) (reply_of_slot (get_or slots i s) ∷ []))

-- the leg of one more key
pub hits_step : (keys : List (List ℕ)) (slots : List Slot) (i : ℕ) (key : List ℕ) (slot : Slot) → i < length keys → i < length slots
    → key ≡ get_or keys i key → slot ≡ get_or slots i slot
    → hits_of (take (i + 1) keys) (map reply_of_slot (take (i + 1) slots))
    ≡ hits_of (take i keys) (map reply_of_slot (take i slots)) ++ hits_of (key ∷ []) (reply_of_slot slot ∷ [])
hits_step keys slots i key slot below within key_is slot_is =
    let next : i + 1 ≡ suc i = omega arith in
    ap (λ n. hits_of (take n keys) (map reply_of_slot (take n slots))) next ∙ hits_more keys slots i key slot below within
    ∙ ap (λ k. hits_of (take i keys) (map reply_of_slot (take i slots)) ++ hits_of (k ∷ []) (reply_of_slot (get_or slots i slot) ∷ [])) (sym key_is)
    ∙ ap (λ s. hits_of (take i keys) (map reply_of_slot (take i slots)) ++ hits_of (key ∷ []) (reply_of_slot s ∷ [])) (sym slot_is)

-- what the legs found, cut at one key
hits_cut : (keys : List (List ℕ)) (slots : List Slot) (i : ℕ) (k : List ℕ) (s : Slot) → i < length keys → i < length slots
    → hits_of keys (map reply_of_slot slots)
    ≡ hits_of (take i keys) (map reply_of_slot (take i slots))
    ++ (hits_of (get_or keys i k ∷ []) (reply_of_slot (get_or slots i s) ∷ []) ++ hits_of (drop (suc i) keys) (map reply_of_slot (drop (suc i) slots)))
hits_cut [] slots i k s below within = absurd (omega arith)
hits_cut (key ∷ keys) [] i k s below within = absurd (omega arith)
hits_cut (key ∷ keys) (slot ∷ slots) zero k s below within = with_more key (reply_of_slot slot) [] (hits_of keys (map reply_of_slot slots))
hits_cut (key ∷ keys) (slot ∷ slots) (suc i) k s below within =
    ap (with_hit key (reply_of_slot slot)) (hits_cut keys slots i k s (omega arith) (omega arith))
    ∙ with_more key (reply_of_slot slot) (hits_of (take i keys) (map reply_of_slot (take i slots)))
    (hits_of (get_or keys i k ∷ []) (reply_of_slot (get_or slots i s) ∷ []) ++ hits_of (drop (suc i) keys) (map reply_of_slot (drop (suc i) slots)))

hits_apart : (keys : List (List ℕ)) (slots : List Slot) (i : ℕ) (key : List ℕ) (slot : Slot) → i < length keys → i < length slots
    → key ≡ get_or keys i key → slot ≡ get_or slots i slot
    → hits_of keys (map reply_of_slot slots)
    ≡ hits_of (take i keys) (map reply_of_slot (take i slots))
    ++ (hits_of (key ∷ []) (reply_of_slot slot ∷ []) ++ hits_of (drop (suc i) keys) (map reply_of_slot (drop (suc i) slots)))
hits_apart keys slots i key slot below within key_is slot_is =
    let found = hits_of (take i keys) (map reply_of_slot (take i slots)) in
    let rest = hits_of (drop (suc i) keys) (map reply_of_slot (drop (suc i) slots)) in
    hits_cut keys slots i key slot below within
    ∙ ap (λ k. found ++ (hits_of (k ∷ []) (reply_of_slot (get_or slots i slot) ∷ []) ++ rest)) (sym key_is)
    ∙ ap (λ s. found ++ (hits_of (key ∷ []) (reply_of_slot s ∷ []) ++ rest)) (sym slot_is)

-- what is gathered once the leg of one more key was looked at
pub gathered_more : (keys : List (List ℕ)) (slots : List Slot) (i : ℕ) (key : List ℕ) (slot : Slot) (b b' b'' : List ℕ) (old mid new : SinkView)
    → i < length keys → i < length slots → key ≡ get_or keys i key → slot ≡ get_or slots i slot
    → HasGathered (items_text (hits_of (take i keys) (map reply_of_slot (take i slots)))) b old b' mid
    → HasGathered (items_text (hits_of (key ∷ []) (reply_of_slot slot ∷ []))) b' mid b'' new
    → HasGathered (items_text (hits_of (take (i + 1) keys) (map reply_of_slot (take (i + 1) slots)))) b old b'' new
gathered_more keys slots i key slot b b' b'' old mid new below within key_is slot_is was more =
    let found = hits_of (take i keys) (map reply_of_slot (take i slots)) in
    let one = hits_of (key ∷ []) (reply_of_slot slot ∷ []) in
    let whole : items_text (hits_of (take (i + 1) keys) (map reply_of_slot (take (i + 1) slots))) ≡ items_text found ++ items_text one =
    ap items_text (hits_step keys slots i key slot below within key_is slot_is) ∙ flat_map-append item_text found one in
    subst (λ l. HasGathered l b old b'' new) (sym whole) (gathered_then (items_text found) (items_text one) b b' b'' old mid new was more)

-- how many items there are then
pub more_hits : (keys : List (List ℕ)) (slots : List Slot) (i : ℕ) (key : List ℕ) (slot : Slot) → i < length keys → i < length slots
    → key ≡ get_or keys i key → slot ≡ get_or slots i slot
    → length (hits_of (take (i + 1) keys) (map reply_of_slot (take (i + 1) slots)))
    ≡ length (hits_of (take i keys) (map reply_of_slot (take i slots))) + length (hits_of (key ∷ []) (reply_of_slot slot ∷ []))
more_hits keys slots i key slot below within key_is slot_is =
    ap length (hits_step keys slots i key slot below within key_is slot_is)
    ∙ length-append (hits_of (take i keys) (map reply_of_slot (take i slots))) (hits_of (key ∷ []) (reply_of_slot slot ∷ []))

-- what stops at the leg of one key stops the whole
pub stopped_more : (keys : List (List ℕ)) (slots : List Slot) (i : ℕ) (key : List ℕ) (slot : Slot) (b b' b'' : List ℕ) (old mid new : SinkView) (e : WriteFault)
    → i < length keys → i < length slots → key ≡ get_or keys i key → slot ≡ get_or slots i slot
    → HasGathered (items_text (hits_of (take i keys) (map reply_of_slot (take i slots)))) b old b' mid
    → Gathers (items_text (hits_of (key ∷ []) (reply_of_slot slot ∷ []))) b' mid (Err e) b'' new
    → Gathers (items_text (hits_of keys (map reply_of_slot slots))) b old (Err e) b'' new
stopped_more keys slots i key slot b b' b'' old mid new e below within key_is slot_is was stop =
    let found = hits_of (take i keys) (map reply_of_slot (take i slots)) in
    let one = hits_of (key ∷ []) (reply_of_slot slot ∷ []) in
    let rest = hits_of (drop (suc i) keys) (map reply_of_slot (drop (suc i) slots)) in
    let whole : items_text (hits_of keys (map reply_of_slot slots)) ≡ items_text found ++ (items_text one ++ items_text rest) =
    ap items_text (hits_apart keys slots i key slot below within key_is slot_is) ∙ flat_map-append item_text found (one ++ rest)
    ∙ ap (λ l. items_text found ++ l) (flat_map-append item_text one rest) in
    subst (λ l. Gathers l b old (Err e) b'' new) (sym whole)
    (gathers_behind (items_text found) (items_text one ++ items_text rest) b b' b'' old mid new (Err e) was
    (gathers_before (items_text one) (items_text rest) b' b'' mid new e stop))

-- and there are no fewer items in all
pub all_hits : (keys : List (List ℕ)) (slots : List Slot) (i : ℕ) (key : List ℕ) (slot : Slot) → i < length keys → i < length slots
    → key ≡ get_or keys i key → slot ≡ get_or slots i slot
    → length (hits_of (take i keys) (map reply_of_slot (take i slots))) + length (hits_of (key ∷ []) (reply_of_slot slot ∷ []))
    ≤ length (hits_of keys (map reply_of_slot slots))
all_hits keys slots i key slot below within key_is slot_is =
    let found = hits_of (take i keys) (map reply_of_slot (take i slots)) in
    let one = hits_of (key ∷ []) (reply_of_slot slot ∷ []) in
    let rest = hits_of (drop (suc i) keys) (map reply_of_slot (drop (suc i) slots)) in
    let count = ap length (hits_apart keys slots i key slot below within key_is slot_is) ∙ length-append found (one ++ rest) in
    let more = length-append one rest in
    omega arith

-- a reply to a set or a delete has one part
pub parts_by : (outcome : LegReply) → parts_of_reply (reply_by outcome) ≡ 1
parts_by (Hit flags block) = refl
parts_by Miss = refl
parts_by Stored = refl
parts_by Deleted = refl
parts_by NotFound = refl
parts_by (Failed cause) = refl

-- past the last key, and past the last leg, nothing more is found
pub hits_keys : (keys : List (List ℕ)) (slots : List Slot) (n : ℕ) → length keys ≤ n
    → hits_of (take n keys) (map reply_of_slot (take n slots)) ≡ hits_of keys (map reply_of_slot slots)
hits_keys [] slots zero past = refl
hits_keys [] slots (suc n) past = refl
hits_keys (key ∷ keys) slots zero past = absurd (omega arith)
hits_keys (key ∷ keys) [] (suc n) past = refl
hits_keys (key ∷ keys) (slot ∷ slots) (suc n) past = ap (with_hit key (reply_of_slot slot)) (hits_keys keys slots n (omega arith))

pub hits_slots : (keys : List (List ℕ)) (slots : List Slot) (n : ℕ) → length slots ≤ n
    → hits_of (take n keys) (map reply_of_slot (take n slots)) ≡ hits_of keys (map reply_of_slot slots)
hits_slots [] slots zero past = refl
hits_slots [] slots (suc n) past = refl
hits_slots (key ∷ keys) [] zero past = refl
hits_slots (key ∷ keys) [] (suc n) past = refl
hits_slots (key ∷ keys) (slot ∷ slots) zero past = absurd (omega arith)
hits_slots (key ∷ keys) (slot ∷ slots) (suc n) past = ap (with_hit key (reply_of_slot slot)) (hits_slots keys slots n (omega arith))
