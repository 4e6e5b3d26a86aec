-- The spelling of a reply that writers give is that reply.
use Rattle.std.proofs.Common.{◌≡◌, ℕ, ◌^◌, ◌<◌, ◌≤◌, ◌||◌, Bool, true, false, List, [], ◌∷◌, ◌++◌, length, get_or, All, None, refl, sym, ap, subst, arith, ◌&&◌, nat_le, nat_lt, leb-true, ltb-true, inl, inr, codes, decimal, flat_map, append_assoc, append-nil, length-append, zero, suc, IsTrue}
use Rattle.std.specs.List.{list_all}
use Rattle.std.specs.Str.{bytes_eq}
use Rattle.std.proofs.lemmas.List.Sums.{AllPass-from_list_all}
use Rattle.std.proofs.lemmas.List.Elements.{Contains-append_cases}
use Rattle.mr_text.specs.Canonical.{canonical_reply, value_line_text, item_text, line_end}
use Rattle.mr_text.specs.CauseText.{text_of_cause, cause_named}
use Rattle.mr_text.specs.Line.{HasLineFeed}
use Rattle.mr_text.specs.NamedText.{IsNamedText}
use Rattle.mr_text.specs.Replies.{IsItemLine, SpellsItem, BeginsWithItems, IsErrorLine, cause_of, TellsCause, SpellsReply}
use Rattle.mr_text.specs.Requests.{IsLineOfWords}
use Rattle.mr_text.specs.Valid.{IsValidItem, AreValidItems, IsValidCause, IsValidReply}
use Rattle.mr_text.specs.declared.cause.Cause.{Cause}
use Rattle.mr_text.specs.declared.cause.Cause.TheVariants.{LineTooLong, BadKey, BadNumber, WrongWords, DataTooLong, BadDataEnd, LegLost, Busy, OutOfMemory, ClockFault, BookFull, NumbersSpent, NodeRefused, Other}
use Rattle.mr_text.specs.declared.item.Item.{Item}
use Rattle.mr_text.specs.Limits.{MAX_LINE, MAX_BLOCK, MAX_KEY, MAX_ERROR_TEXT}
use Rattle.mr_text.specs.declared.reply.Reply.{Reply}
use Rattle.mr_text.specs.declared.reply.Reply.TheVariants.{Items, Stored, Deleted, NotFound, Error, ClientError, ServerError}
use Rattle.mr_text.proofs.CanonicalWords.{IsWord, joined, joined_line, text_line}
use Rattle.mr_text.proofs.CanonicalNumbers.{tested_word, key_word, decimal_number, decimal_word, decimal_length}
use Rattle.mr_text.proofs.CanonicalRequests.{joined_short}
use Rattle.mr_text.proofs.Keys.{and_true}

-- a word and the line end
lone_line : (word : List ℕ) → IsWord word → length word ≤ MAX_KEY → IsLineOfWords (word ++ line_end) (word ∷ [])
lone_line word h short = joined_line (word ++ line_end) word [] (ap (λ w. w ++ line_end) (sym (append-nil word))) h tt (rw (append-nil word) (omega arith))

-- the line before an item's block
value_line : (item : Item) → IsValidItem item → IsItemLine (value_line_text item.key item.flags (length item.block)) item.key item.flags (length item.block)
value_line item h = record {
  flags_word = decimal item.flags;
  length_word = decimal (length item.block);
  is_line = joined_line _ (codes "VALUE") (item.key ∷ decimal item.flags ∷ decimal (length item.block) ∷ []) text (tested_word (codes "VALUE") refl)
      (key_word item.key h.is_key, (decimal_word item.flags flags_small, (decimal_word (length item.block) size_small, tt))) short;
  is_key = h.is_key;
  numbers = record {
    flags_is = decimal_number item.flags flags_small;
    flags_fits = h.flags_fit;
    length_is = decimal_number (length item.block) size_small;
    length_fits = size_small;
  };
}
  where
    flags_small : item.flags < 2 ^ 64
    flags_small = let fits = h.flags_fit in omega arith

    size_small : length item.block < 2 ^ 64
    size_small = let fits : length item.block ≤ MAX_BLOCK = h.is_block in omega arith

    text : value_line_text item.key item.flags (length item.block) ≡ joined (codes "VALUE") (item.key ∷ decimal item.flags ∷ decimal (length item.block) ∷ []) ++ line_end
    text = simp append_assoc

    short : length (joined (codes "VALUE") (item.key ∷ decimal item.flags ∷ decimal (length item.block) ∷ [])) ≤ MAX_LINE
    short =
        let flags_size = decimal_length item.flags flags_small in
        let block_size = decimal_length (length item.block) size_small in
        let size = joined_short (codes "VALUE") (item.key ∷ decimal item.flags ∷ decimal (length item.block) ∷ []) (h.is_key.not_long, (omega arith, (omega arith, tt))) in
        omega arith

item_spells : (item : Item) → IsValidItem item → SpellsItem (item_text item) item
item_spells item h = record {
  line = value_line_text item.key item.flags (length item.block);
  is_line = value_line item h;
  is_block = h.is_block;
  follows = append_assoc (value_line_text item.key item.flags (length item.block)) item.block line_end;
}

-- the items one behind the other, and then the rest
items_begin : (items : List Item) (rest : List ℕ) → All IsValidItem items → BeginsWithItems (flat_map item_text items ++ rest) items rest
items_begin [] rest h = refl
items_begin (item ∷ items) rest h = (
  item_text item,
  flat_map item_text items ++ rest,
  append_assoc (item_text item) (flat_map item_text items) rest,
  item_spells item (h 0 item (omega arith)),
  items_begin items rest (λ k d within. h (suc k) d (omega arith)),
)

or_false : (a b : Bool) → (¬ IsTrue (a || b)) → (a ≡ false) × (¬ IsTrue b)
or_false true b h = absurd (h refl)
or_false false b h = (refl, h)

-- a text that no named cause has names none
no_cause : (text : List ℕ) → (¬ IsNamedText text) → cause_named text ≡ None
no_cause text h =
    let a = or_false (bytes_eq text (codes "line too long")) _ h in
    let b = or_false (bytes_eq text (codes "bad key")) _ a.1 in
    let c = or_false (bytes_eq text (codes "bad number")) _ b.1 in
    let d = or_false (bytes_eq text (codes "wrong words")) _ c.1 in
    let e = or_false (bytes_eq text (codes "data too long")) _ d.1 in
    let f = or_false (bytes_eq text (codes "bad data end")) _ e.1 in
    let g = or_false (bytes_eq text (codes "leg lost")) _ f.1 in
    let i = or_false (bytes_eq text (codes "busy")) _ g.1 in
    let j = or_false (bytes_eq text (codes "out of memory")) _ i.1 in
    let k = or_false (bytes_eq text (codes "clock fault")) _ j.1 in
    let l = or_false (bytes_eq text (codes "book full")) _ k.1 in
    let m = or_false (bytes_eq text (codes "numbers spent")) _ l.1 in
    let n = or_false (bytes_eq text (codes "node refused")) _ m.1 in
    rw (a.0, b.0, c.0, d.0, e.0, f.0, g.0, i.0, j.0, k.0, l.0, m.0, n.0) refl

-- a cause's text tells that cause
cause_told : (cause : Cause) → IsValidCause cause → cause ≡ cause_of (text_of_cause cause)
cause_told (Other text) h = rw (no_cause text h.not_named) refl
cause_told LineTooLong h = refl
cause_told BadKey h = refl
cause_told BadNumber h = refl
cause_told WrongWords h = refl
cause_told DataTooLong h = refl
cause_told BadDataEnd h = refl
cause_told LegLost h = refl
cause_told Busy h = refl
cause_told OutOfMemory h = refl
cause_told ClockFault h = refl
cause_told BookFull h = refl
cause_told NumbersSpent h = refl
cause_told NodeRefused h = refl

items_spell : (items : List Item) → AreValidItems items → SpellsReply (canonical_reply (Items items)) (Items items)
items_spell items h = (
  codes "END" ++ line_end,
  subst (λ bytes. BeginsWithItems bytes items (codes "END" ++ line_end)) (sym (append_assoc (flat_map item_text items) (codes "END") line_end))
      (items_begin items (codes "END" ++ line_end) h.each),
  lone_line (codes "END") (tested_word (codes "END") refl) (omega arith),
  h.not_many,
)

-- the text of a cause stands on one line and has room there
record IsText (text : List ℕ) : Type 0 where
  not_long : length text ≤ MAX_ERROR_TEXT
  one_line : ¬ HasLineFeed text

abbrev text_test : List ℕ → Bool
text_test text = nat_le (length text) MAX_ERROR_TEXT && list_all (nat_lt 31) text

tested_text : (text : List ℕ) → text_test text ≡ true → IsText text
tested_text text e =
    let both = and_true (nat_le (length text) MAX_ERROR_TEXT) (list_all (nat_lt 31) text) e in
    record { not_long = leb-true _ _ both.0; one_line = none both.1 }
  where
    none : list_all (nat_lt 31) text ≡ true → ¬ HasLineFeed text
    none all (k, within, at) = let high : 31 < get_or text k 10 = ltb-true _ _ (AllPass-from_list_all (nat_lt 31) text all k 10 within) in omega arith

cause_text : (cause : Cause) → IsValidCause cause → IsText (text_of_cause cause)
cause_text (Other text) h = record { not_long = h.not_long; one_line = h.one_line }
cause_text LineTooLong h = tested_text (codes "line too long") refl
cause_text BadKey h = tested_text (codes "bad key") refl
cause_text BadNumber h = tested_text (codes "bad number") refl
cause_text WrongWords h = tested_text (codes "wrong words") refl
cause_text DataTooLong h = tested_text (codes "data too long") refl
cause_text BadDataEnd h = tested_text (codes "bad data end") refl
cause_text LegLost h = tested_text (codes "leg lost") refl
cause_text Busy h = tested_text (codes "busy") refl
cause_text OutOfMemory h = tested_text (codes "out of memory") refl
cause_text ClockFault h = tested_text (codes "clock fault") refl
cause_text BookFull h = tested_text (codes "book full") refl
cause_text NumbersSpent h = tested_text (codes "numbers spent") refl
cause_text NodeRefused h = tested_text (codes "node refused") refl

-- a word, a space, a text and the line end
error_line : (word text : List ℕ) → IsText word → length word ≤ 12 → IsText text → IsErrorLine ((word ++ (32 ∷ text)) ++ line_end) word text
error_line word text plain short h = record {
  line = word ++ (32 ∷ text);
  is_line = text_line (word ++ (32 ∷ text)) no_feed;
  not_long = let size = length-append word (32 ∷ text) in let room = h.not_long in omega arith;
  spaces = [];
  are_spaces = λ k d within. absurd (omega arith);
  tail = 32 ∷ text;
  splits = refl;
  behind = inr refl;
}
  where
    text_no_feed : ¬ HasLineFeed (32 ∷ text)
    text_no_feed (zero, within, at) = omega arith
    text_no_feed (suc k, within, at) = h.one_line (k, omega arith, at)

    no_feed : ¬ HasLineFeed (word ++ (32 ∷ text))
    no_feed feed = elim (Contains-append_cases word (32 ∷ text) 10 feed) [
      | inl here ↦ plain.one_line here
      | inr behind ↦ text_no_feed behind
    ]

client_error_spells : (cause : Cause) → IsValidCause cause → TellsCause (canonical_reply (ClientError cause)) (codes "CLIENT_ERROR") cause
client_error_spells cause h =
    (text_of_cause cause, error_line (codes "CLIENT_ERROR") (text_of_cause cause) (tested_text (codes "CLIENT_ERROR") refl) (omega arith) (cause_text cause h), cause_told cause h)

server_error_spells : (cause : Cause) → IsValidCause cause → TellsCause (canonical_reply (ServerError cause)) (codes "SERVER_ERROR") cause
server_error_spells cause h =
    (text_of_cause cause, error_line (codes "SERVER_ERROR") (text_of_cause cause) (tested_text (codes "SERVER_ERROR") refl) (omega arith) (cause_text cause h), cause_told cause h)

-- the canonical text of a reply is read as that reply
pub canonical_spells_reply : (r : Reply) → IsValidReply r → SpellsReply (canonical_reply r) r
canonical_spells_reply (Items items) h = items_spell items h
canonical_spells_reply Stored h = lone_line (codes "STORED") (tested_word (codes "STORED") refl) (omega arith)
canonical_spells_reply Deleted h = lone_line (codes "DELETED") (tested_word (codes "DELETED") refl) (omega arith)
canonical_spells_reply NotFound h = lone_line (codes "NOT_FOUND") (tested_word (codes "NOT_FOUND") refl) (omega arith)
canonical_spells_reply Error h = lone_line (codes "ERROR") (tested_word (codes "ERROR") refl) (omega arith)
canonical_spells_reply (ClientError cause) h = client_error_spells cause h
canonical_spells_reply (ServerError cause) h = server_error_spells cause h
