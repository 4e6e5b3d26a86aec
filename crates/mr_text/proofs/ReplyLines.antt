-- What the words of a reply's line say, as the reading finds it.
use Rattle.std.proofs.Common.{◌≡◌, ◌≢◌, ℕ, zero, suc, ◌-◌, ◌^◌, ◌<◌, ◌≤◌, Bool, true, false, List, [], ◌∷◌, length, Option, Some, None, Result, Ok, Err, refl, sym, ◌∙◌, ap, subst, arith, codes, if◌then◌else◌, inl, inr, ◌⊎◌, nat_lt, ltb-true, ltb-false, IfOk}
use Rattle.std.specs.Str.{bytes_eq}
use Rattle.mr_lines.specs.Numbers.{number_in}
use Rattle.mr_text.specs.Key.{IsKey, key_test}
use Rattle.mr_text.specs.Replies.{ItemNumbers, item_words}
use Rattle.mr_text.specs.steps.ReplyReading.{ReplyLine, item_values, item_line, item_line_within, lone_line, next_line}
use Rattle.mr_text.specs.steps.ReplyReading.ReplyLine.{ItemLine, EndLine, LoneLine}
use Rattle.mr_text.specs.Limits.{MAX_BLOCK}
use Rattle.mr_text.specs.declared.error.TextError.{TextError}
use Rattle.mr_text.specs.declared.error.TextError.TheVariants.{LineTooLong, BadKey, BadNumber, WrongWords, DataTooLong, BadDataEnd, UnknownCommand, Truncated, Closed, OutOfMemory}
use Rattle.mr_text.specs.steps.ReplyView.{IsReplyLine, IsGoodItem}
use Rattle.mr_text.specs.declared.reading.reply_lines.SaidLine.{SaidLine}
use Rattle.mr_text.specs.declared.reading.reply_lines.SaidLine.TheVariants as said
use Rattle.mr_text.proofs.Keys.{key_test-true, key_test-false, IsKey-test}
use Rattle.mr_text.proofs.Texts.{text_true, true_text, text_false}
use Rattle.mr_text.proofs.Values.{NumberIs, number_is, number_found}

-- the words behind VALUE, with a key that is one, and their numbers
pub record GoodItem (words : List (List ℕ)) (key : List ℕ) (flags block_length : ℕ) : Type 0 where
  pub flags_word : List ℕ
  pub length_word : List ℕ
  pub splits : words ≡ key ∷ flags_word ∷ length_word ∷ []
  pub is_key : IsKey key
  pub numbers : ItemNumbers flags_word length_word flags block_length

pub record BadItemKey (words : List (List ℕ)) : Type 0 where
  pub key : List ℕ
  pub flags_word : List ℕ
  pub length_word : List ℕ
  pub splits : words ≡ key ∷ flags_word ∷ length_word ∷ []
  pub bad : ¬ IsKey key

pub record BadItemNumber (words : List (List ℕ)) : Type 0 where
  pub key : List ℕ
  pub flags_word : List ℕ
  pub length_word : List ℕ
  pub splits : words ≡ key ∷ flags_word ∷ length_word ∷ []
  pub is_key : IsKey key
  pub bad : (flags block_length : ℕ) → ¬ ItemNumbers flags_word length_word flags block_length

-- what is read of the words behind VALUE
abbrev pub ItemIs : List (List ℕ) → Result ReplyLine TextError → Type 0
ItemIs words (Ok (ItemLine key flags block_length)) = GoodItem words key flags block_length × (block_length ≤ MAX_BLOCK)
ItemIs words (Ok EndLine) = ⊥
ItemIs words (Ok (LoneLine reply)) = ⊥
ItemIs words (Err WrongWords) = length words ≢ 3
ItemIs words (Err BadKey) = BadItemKey words
ItemIs words (Err BadNumber) = BadItemNumber words
ItemIs words (Err DataTooLong) = (key : List ℕ) × (flags : ℕ) × (block_length : ℕ) × GoodItem words key flags block_length × (MAX_BLOCK < block_length)
ItemIs words (Err refusal) = ⊥

values_are : (key flags bytes : List ℕ) → IsKey key → (f b : Option ℕ) → NumberIs (2 ^ 32 - 1) flags f → NumberIs (2 ^ 64 - 1) bytes b
    → ItemIs (key ∷ flags ∷ bytes ∷ []) (item_values key f b)
values_are key flags bytes good None b fs bs =
    record { key = key; flags_word = flags; length_word = bytes; splits = refl; is_key = good; bad = λ x y n. fs x (let fits = n.flags_fits in omega arith) n.flags_is }
values_are key flags bytes good (Some f) None fs bs =
    record { key = key; flags_word = flags; length_word = bytes; splits = refl; is_key = good; bad = λ x y n. bs y (let fits = n.length_fits in omega arith) n.length_is }
values_are key flags bytes good (Some f) (Some b) fs bs = go (nat_lt MAX_BLOCK b) refl
  where
    item : GoodItem (key ∷ flags ∷ bytes ∷ []) key f b
    item = record {
      flags_word = flags;
      length_word = bytes;
      splits = refl;
      is_key = good;
      numbers = record { flags_is = fs.0; flags_fits = let fits = fs.1 in omega arith; length_is = bs.0; length_fits = let fits = bs.1 in omega arith };
    }

    go : (t : Bool) → nat_lt MAX_BLOCK b ≡ t → ItemIs (key ∷ flags ∷ bytes ∷ []) (if t then Err DataTooLong else Ok (ItemLine key f b))
    go true e = (key, f, b, item, ltb-true _ _ e)
    go false e = (item, ltb-false _ _ e)

pub item_is : (words : List (List ℕ)) → ItemIs words (item_line words)
item_is [] = λ e. omega arith
item_is (key ∷ []) = λ e. omega arith
item_is (key ∷ flags ∷ []) = λ e. omega arith
item_is (key ∷ flags ∷ bytes ∷ []) = go (key_test key) refl
  where
    go : (t : Bool) → key_test key ≡ t
        → ItemIs (key ∷ flags ∷ bytes ∷ []) (if t then item_values key (number_in (2 ^ 32 - 1) flags) (number_in (2 ^ 64 - 1) bytes) else Err BadKey)
    go true e = values_are key flags bytes (key_test-true key e) (number_in (2 ^ 32 - 1) flags) (number_in (2 ^ 64 - 1) bytes) (number_is (2 ^ 32 - 1) flags) (number_is (2 ^ 64 - 1) bytes)
    go false e = record { key = key; flags_word = flags; length_word = bytes; splits = refl; bad = key_test-false key e }
item_is (key ∷ flags ∷ bytes ∷ other ∷ words) = λ e. omega arith

-- good words are read so
pub good_item_found : (words : List (List ℕ)) (key : List ℕ) (flags block_length : ℕ) → GoodItem words key flags block_length
    → ((item_line words ≡ Err DataTooLong) × (MAX_BLOCK < block_length)) ⊎ ((item_line words ≡ Ok (ItemLine key flags block_length)) × (block_length ≤ MAX_BLOCK))
good_item_found words key flags block_length h = go (nat_lt MAX_BLOCK block_length) refl
  where
    line : item_line words ≡ (if nat_lt MAX_BLOCK block_length then Err DataTooLong else Ok (ItemLine key flags block_length))
    line =
        let good = IsKey-test key h.is_key in
        let f = number_found (2 ^ 32 - 1) h.flags_word flags h.numbers.flags_is (let fits = h.numbers.flags_fits in omega arith) in
        let b = number_found (2 ^ 64 - 1) h.length_word block_length h.numbers.length_is (let fits = h.numbers.length_fits in omega arith) in
        rw (h.splits, good, f, b) refl

    go : (t : Bool) → nat_lt MAX_BLOCK block_length ≡ t
        → ((item_line words ≡ Err DataTooLong) × (MAX_BLOCK < block_length)) ⊎ ((item_line words ≡ Ok (ItemLine key flags block_length)) × (block_length ≤ MAX_BLOCK))
    go true e = inl (line ∙ rw e refl, ltb-true _ _ e)
    go false e = inr (line ∙ rw e refl, ltb-false _ _ e)

pub bad_item_key_found : (words : List (List ℕ)) → BadItemKey words → item_line words ≡ Err BadKey
bad_item_key_found words h = go (key_test h.key) refl
  where
    go : (t : Bool) → key_test h.key ≡ t → item_line words ≡ Err BadKey
    go true e = absurd (h.bad (key_test-true h.key e))
    go false e = rw (h.splits, e) refl

pub bad_item_number_found : (words : List (List ℕ)) → BadItemNumber words → item_line words ≡ Err BadNumber
bad_item_number_found words h = go (number_in (2 ^ 32 - 1) h.flags_word) refl (number_is (2 ^ 32 - 1) h.flags_word) (number_in (2 ^ 64 - 1) h.length_word) refl (number_is (2 ^ 64 - 1) h.length_word)
  where
    line : item_line words ≡ item_values h.key (number_in (2 ^ 32 - 1) h.flags_word) (number_in (2 ^ 64 - 1) h.length_word)
    line = let good = IsKey-test h.key h.is_key in rw (h.splits, good) refl

    go : (f : Option ℕ) → number_in (2 ^ 32 - 1) h.flags_word ≡ f → NumberIs (2 ^ 32 - 1) h.flags_word f
        → (b : Option ℕ) → number_in (2 ^ 64 - 1) h.length_word ≡ b → NumberIs (2 ^ 64 - 1) h.length_word b → item_line words ≡ Err BadNumber
    go None e fs b e' bs = line ∙ rw e refl
    go (Some f) e fs None e' bs = line ∙ rw (e, e') refl
    go (Some f) e fs (Some b) e' bs = absurd (h.bad f b (record { flags_is = fs.0; flags_fits = let fits = fs.1 in omega arith; length_is = bs.0; length_fits = let fits = bs.1 in omega arith }))

pub wrong_item_found : (words : List (List ℕ)) → length words ≢ 3 → item_line words ≡ Err WrongWords
wrong_item_found [] h = refl
wrong_item_found (key ∷ []) h = refl
wrong_item_found (key ∷ flags ∷ []) h = refl
wrong_item_found (key ∷ flags ∷ bytes ∷ []) h = absurd (h refl)
wrong_item_found (key ∷ flags ∷ bytes ∷ other ∷ words) h = refl

-- what is read of a line behind an item
abbrev pub NextLineIs : ℕ → List (List ℕ) → Result ReplyLine TextError → Type 0
NextLineIs room words (Ok (ItemLine key flags block_length)) =
    (0 < room) × (behind : List (List ℕ)) × (words ≡ codes "VALUE" ∷ behind) × GoodItem behind key flags block_length × (block_length ≤ MAX_BLOCK)
NextLineIs room words (Ok EndLine) = words ≡ codes "END" ∷ []
NextLineIs room words (Ok (LoneLine reply)) = ⊥
NextLineIs room words (Err WrongWords) =
    (words ≢ codes "END" ∷ []) × ((key : List ℕ) (flags_word : List ℕ) (length_word : List ℕ) → 0 < room → words ≢ item_words key flags_word length_word)
NextLineIs room words (Err BadKey) = (0 < room) × (behind : List (List ℕ)) × (words ≡ codes "VALUE" ∷ behind) × BadItemKey behind
NextLineIs room words (Err BadNumber) = (0 < room) × (behind : List (List ℕ)) × (words ≡ codes "VALUE" ∷ behind) × BadItemNumber behind
NextLineIs room words (Err DataTooLong) =
    (0 < room) × (behind : List (List ℕ)) × (words ≡ codes "VALUE" ∷ behind) ×
    ((key : List ℕ) × (flags : ℕ) × (block_length : ℕ) × GoodItem behind key flags block_length × (MAX_BLOCK < block_length))
NextLineIs room words (Err refusal) = ⊥

value_next : (room : ℕ) (behind : List (List ℕ)) → NextLineIs room (codes "VALUE" ∷ behind) (item_line_within room behind)
value_next zero behind = ((λ e. let bad : codes "VALUE" ≡ codes "END" = cc in value_not_end bad), λ k f l room. absurd (omega arith))
  where
    value_not_end : codes "VALUE" ≡ codes "END" → ⊥
    value_not_end e = let t = true_text (codes "VALUE") (codes "END") e in cc
value_next (suc room) behind = go (item_line behind) (item_is behind)
  where
    value_not_end : codes "VALUE" ≡ codes "END" → ⊥
    value_not_end e = let t = true_text (codes "VALUE") (codes "END") e in cc

    go : (r : Result ReplyLine TextError) → ItemIs behind r → NextLineIs (suc room) (codes "VALUE" ∷ behind) r
    go (Ok (ItemLine key flags block_length)) is = (omega arith, behind, refl, is.0, is.1)
    go (Ok EndLine) is = absurd is
    go (Ok (LoneLine reply)) is = absurd is
    go (Err WrongWords) is = ((λ e. let bad : codes "VALUE" ≡ codes "END" = cc in value_not_end bad), λ k f l more e. is (ap length (same_tail k f l e)))
      where
        same_tail : (k f l : List ℕ) → (codes "VALUE" ∷ behind) ≡ item_words k f l → behind ≡ k ∷ f ∷ l ∷ []
        same_tail k f l e = cc
    go (Err BadKey) is = (omega arith, behind, refl, is)
    go (Err BadNumber) is = (omega arith, behind, refl, is)
    go (Err DataTooLong) is = (omega arith, behind, refl, is)
    go (Err (UnknownCommand closes)) is = absurd is
    go (Err LineTooLong) is = absurd is
    go (Err BadDataEnd) is = absurd is
    go (Err Truncated) is = absurd is
    go (Err Closed) is = absurd is
    go (Err OutOfMemory) is = absurd is

end_next : (room : ℕ) (behind : List (List ℕ)) → NextLineIs room (codes "END" ∷ behind) (lone_line EndLine behind)
end_next room [] = refl
end_next room (word ∷ words) = ((λ e. cc), λ k f l more e. let bad : codes "END" ≡ codes "VALUE" = cc in let t = true_text (codes "END") (codes "VALUE") bad in cc)

pub next_line_is : (room : ℕ) (words : List (List ℕ)) → NextLineIs room words (next_line room words)
unfolding next_line
next_line_is room [] = ((λ e. cc), λ k f l more e. cc)
next_line_is room (word ∷ words) = end_or_not (bytes_eq word (codes "END")) refl
  where
    value_or_not : bytes_eq word (codes "END") ≡ false → (t : Bool) → bytes_eq word (codes "VALUE") ≡ t
        → NextLineIs room (word ∷ words) (if t then item_line_within room words else Err WrongWords)
    value_or_not n true e = subst (λ w. NextLineIs room (w ∷ words) (item_line_within room words)) (sym (text_true word (codes "VALUE") e)) (value_next room words)
    value_or_not n false e =
        ((λ is. text_false word (codes "END") n (let first : word ≡ codes "END" = cc in first)), λ k f l more is. text_false word (codes "VALUE") e (let first : word ≡ codes "VALUE" = cc in first))

    end_or_not : (t : Bool) → bytes_eq word (codes "END") ≡ t
        → NextLineIs room (word ∷ words) (if t then lone_line EndLine words else if bytes_eq word (codes "VALUE") then item_line_within room words else Err WrongWords)
    end_or_not true e = subst (λ w. NextLineIs room (w ∷ words) (lone_line EndLine words)) (sym (text_true word (codes "END") e)) (end_next room words)
    end_or_not false e = value_or_not e (bytes_eq word (codes "VALUE")) refl

-- the lines that are read so
pub end_found : (room : ℕ) → next_line room (codes "END" ∷ []) ≡ Ok EndLine
unfolding next_line
end_found room = refl

pub value_found : (room : ℕ) (behind : List (List ℕ)) → 0 < room → next_line room (codes "VALUE" ∷ behind) ≡ item_line behind
unfolding next_line
value_found zero behind more = absurd (omega arith)
value_found (suc room) behind more = refl

pub wrong_next_found : (room : ℕ) (words : List (List ℕ)) → words ≢ codes "END" ∷ [] → ((key : List ℕ) (flags_word : List ℕ) (length_word : List ℕ) → 0 < room → words ≢ item_words key flags_word length_word)
    → next_line room words ≡ Err WrongWords
wrong_next_found room words no_end no_item = go (next_line room words) (next_line_is room words)
  where
    item_here : (behind : List (List ℕ)) → words ≡ codes "VALUE" ∷ behind → (key flags_word length_word : List ℕ) → behind ≡ key ∷ flags_word ∷ length_word ∷ [] → 0 < room → ⊥
    item_here behind e key flags_word length_word is more = no_item key flags_word length_word more (e ∙ ap (λ b. codes "VALUE" ∷ b) is)

    go : (r : Result ReplyLine TextError) → NextLineIs room words r → r ≡ Err WrongWords
    go (Ok (ItemLine key flags block_length)) is = absurd (item_here is.1 is.2 key is.3.flags_word is.3.length_word is.3.splits is.0)
    go (Ok EndLine) is = absurd (no_end is)
    go (Ok (LoneLine reply)) is = absurd is
    go (Err WrongWords) is = refl
    go (Err BadKey) is = absurd (item_here is.1 is.2 is.3.key is.3.flags_word is.3.length_word is.3.splits is.0)
    go (Err BadNumber) is = absurd (item_here is.1 is.2 is.3.key is.3.flags_word is.3.length_word is.3.splits is.0)
    go (Err DataTooLong) is = absurd (item_here is.1 is.2 is.3.0 is.3.3.flags_word is.3.3.length_word is.3.3.splits is.0)
    go (Err (UnknownCommand closes)) is = absurd is
    go (Err LineTooLong) is = absurd is
    go (Err BadDataEnd) is = absurd is
    go (Err Truncated) is = absurd is
    go (Err Closed) is = absurd is
    go (Err OutOfMemory) is = absurd is

-- a line that was read of an item gives a good one
pub good_next : (room : ℕ) (words : List (List ℕ)) (r : Result SaidLine TextError) → IsReplyLine (next_line room words) r → IfOk r (IsGoodItem room)
good_next room words (Err refusal) e = tt
good_next room words (Ok (said.Item key flags block_length)) e =
    let is = subst (NextLineIs room words) e (next_line_is room words) in (is.3.is_key, is.4, is.0)
good_next room words (Ok said.End) e = tt
good_next room words (Ok said.Stored) e = tt
good_next room words (Ok said.Deleted) e = tt
good_next room words (Ok said.NotFound) e = tt
good_next room words (Ok said.Error) e = tt
good_next room words (Ok (said.ClientError text)) e = tt
good_next room words (Ok (said.ServerError text)) e = tt
