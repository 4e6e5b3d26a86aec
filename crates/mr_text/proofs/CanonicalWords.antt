-- The words of a line that writers give: words with one space between each two.
use Rattle.std.proofs.Common.{◌≡◌, ℕ, zero, suc, ◌-◌, ◌<◌, ◌≤◌, ◌==◌, false, not, List, [], ◌∷◌, ◌++◌, length, get_or, slice_index, All, refl, sym, ◌∙◌, ap, subst, arith, inl, inr, filter, flat_map, ne_eqb, append-nil, append_assoc, length-append}
use Rattle.std.proofs.Math.Seq.{get_or-append_seam, take-append_seam}
use Rattle.std.proofs.lemmas.List.Elements.{Contains-append_cases}
use Rattle.mr_lines.specs.Lines.{without_carriage_return}
use Rattle.mr_lines.specs.Words.{words_of, pieces_of, is_empty}
use Rattle.mr_text.specs.Canonical.{spaced, line_end}
use Rattle.mr_text.specs.Line.{HasLineFeed}
use Rattle.mr_text.specs.Requests.{IsLineOfWords}
use Rattle.mr_text.specs.Text.{IsLine}
use Rattle.mr_text.specs.Limits.{MAX_LINE}

-- neither a space nor a control character
abbrev pub IsVisible : ℕ → Type 0
IsVisible byte = 32 < byte

-- a word of a line
pub record IsWord (word : List ℕ) : Type 0 where
  pub not_empty : 0 < length word
  pub visible : All IsVisible word

abbrev pub AreWords : List (List ℕ) → Type 0
AreWords [] = Unit {0}
AreWords (word ∷ words) = IsWord word × AreWords words

-- the words with one space between each two
abbrev pub joined : List ℕ → List (List ℕ) → List ℕ
joined word words = word ++ flat_map spaced words

visible_tail : (byte : ℕ) (bytes : List ℕ) → All IsVisible (byte ∷ bytes) → All IsVisible bytes
visible_tail byte bytes h = λ k d within. h (suc k) d (omega arith)

not_space : (byte : ℕ) (bytes : List ℕ) → All IsVisible (byte ∷ bytes) → (byte == 32) ≡ false
not_space byte bytes h = ne_eqb byte 32 (λ is. let first : 32 < byte = h 0 0 (omega arith) in omega arith)

-- a word alone is one piece
one_piece : (word : List ℕ) → All IsVisible word → pieces_of word ≡ word ∷ []
one_piece [] h = refl
one_piece (b ∷ bs) h = let other = not_space b bs h in rw (other, one_piece bs (visible_tail b bs h)) refl

-- a word before a space is the first piece
first_piece : (word rest : List ℕ) → All IsVisible word → pieces_of (word ++ (32 ∷ rest)) ≡ word ∷ pieces_of rest
first_piece [] rest h = refl
first_piece (b ∷ bs) rest h = let other = not_space b bs h in rw (other, first_piece bs rest (visible_tail b bs h)) refl

-- words with one space between each two are the pieces
pieces_joined : (word : List ℕ) (words : List (List ℕ)) → IsWord word → AreWords words → pieces_of (joined word words) ≡ word ∷ words
pieces_joined word [] h hs = rw (append-nil word) (one_piece word h.visible)
pieces_joined word (next ∷ words) h hs =
    first_piece word (joined next words) h.visible ∙ ap (λ pieces. word ∷ pieces) (pieces_joined next words hs.0 hs.1)

kept : (word : List ℕ) (pieces : List (List ℕ)) → 0 < length word
    → filter (λ piece. not (is_empty piece)) (word ∷ pieces) ≡ word ∷ filter (λ piece. not (is_empty piece)) pieces
kept [] pieces some = absurd (omega arith)
kept (b ∷ bs) pieces some = refl

all_kept : (words : List (List ℕ)) → AreWords words → filter (λ piece. not (is_empty piece)) words ≡ words
all_kept [] hs = refl
all_kept (word ∷ words) hs = kept word words hs.0.not_empty ∙ ap (λ ws. word ∷ ws) (all_kept words hs.1)

-- and they are its words
pub words_joined : (word : List ℕ) (words : List (List ℕ)) → IsWord word → AreWords words → words_of (joined word words) ≡ word ∷ words
words_joined word words h hs =
    ap (filter (λ piece. not (is_empty piece))) (pieces_joined word words h hs) ∙ all_kept (word ∷ words) (h, hs)

visible_no_feed : (word : List ℕ) → All IsVisible word → ¬ HasLineFeed word
visible_no_feed word h (k, within, at) = let high : 32 < get_or word k 10 = h k 10 within in omega arith

spaced_no_feed : (word : List ℕ) → All IsVisible word → ¬ HasLineFeed (32 ∷ word)
spaced_no_feed word h (zero, within, at) = omega arith
spaced_no_feed word h (suc k, within, at) = visible_no_feed word h (k, omega arith, at)

rest_no_feed : (words : List (List ℕ)) → AreWords words → ¬ HasLineFeed (flat_map spaced words)
rest_no_feed [] hs (k, within, at) = omega arith
rest_no_feed (word ∷ words) hs feed = elim (Contains-append_cases (32 ∷ word) (flat_map spaced words) 10 feed) [
  | inl here ↦ spaced_no_feed word hs.0.visible here
  | inr behind ↦ rest_no_feed words hs.1 behind
]

joined_no_feed : (word : List ℕ) (words : List (List ℕ)) → IsWord word → AreWords words → ¬ HasLineFeed (joined word words)
joined_no_feed word words h hs feed = elim (Contains-append_cases word (flat_map spaced words) 10 feed) [
  | inl here ↦ visible_no_feed word h.visible here
  | inr behind ↦ rest_no_feed words hs behind
]

-- the carriage return of a line end isn't the line's
cut_return : (text : List ℕ) → without_carriage_return (text ++ (13 ∷ [])) ≡ text
cut_return text =
    let size : length (text ++ (13 ∷ [])) - 1 ≡ length text = omega (arith, length-append text (13 ∷ [])) in
    let last : slice_index (text ++ (13 ∷ [])) (length text) ≡ 13 = get_or-append_seam text 13 [] 0 in
    rw (size, last) (take-append_seam text (13 ∷ []))

no_feed_raw : (text : List ℕ) → ¬ HasLineFeed text → ¬ HasLineFeed (text ++ (13 ∷ []))
no_feed_raw text h feed = elim (Contains-append_cases text (13 ∷ []) 10 feed) [
  | inl here ↦ h here
  | inr behind ↦ no_feed_end behind
]
  where
    no_feed_end : ¬ HasLineFeed (13 ∷ [])
    no_feed_end (zero, within, at) = omega arith
    no_feed_end (suc k, within, at) = omega arith

-- a text without a line feed, and the line end behind it, are a line
pub text_line : (text : List ℕ) → ¬ HasLineFeed text → IsLine (text ++ line_end) text
text_line text h = record {
  raw = text ++ (13 ∷ []);
  ends = sym (append_assoc text (13 ∷ []) (10 ∷ []));
  only_end = no_feed_raw text h;
  reads = sym (cut_return text);
}

-- words with one space between each two, and the line end behind them, are a line of these words
pub joined_line : (bytes word : List ℕ) (words : List (List ℕ)) → bytes ≡ joined word words ++ line_end → IsWord word → AreWords words
    → length (joined word words) ≤ MAX_LINE → IsLineOfWords bytes (word ∷ words)
joined_line bytes word words is h hs short = subst (λ s. IsLineOfWords s (word ∷ words)) (sym is) (record {
  line = joined word words;
  is_line = text_line (joined word words) (joined_no_feed word words h hs);
  not_long = short;
  splits = words_joined word words h hs;
})
