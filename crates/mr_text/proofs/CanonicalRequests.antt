-- The spelling of a request that writers give is that request.
use Rattle.std.proofs.Common.{◌≡◌, ℕ, ◌+◌, ◌*◌, ◌^◌, ◌<◌, ◌≤◌, Bool, true, false, List, [], ◌∷◌, ◌++◌, length, All, refl, arith, inl, ℤ, codes, decimal, flat_map, sum_by, append_assoc, length-append, suc}
use Rattle.std.specs.Fmt.{signed_decimal}
use Rattle.std.proofs.lemmas.List.Sums.{sum_by-cons}
use Rattle.mr_text.specs.Canonical.{canonical_request, set_line_text, noreply_text, spaced, line_end}
use Rattle.mr_text.specs.Commands.{HasShape}
use Rattle.mr_text.specs.Commands.Shape.{GetShape, SetShape, DeleteShape, QuitShape}
use Rattle.mr_text.specs.Key.{IsKey, FitLine}
use Rattle.mr_text.specs.Requests.{IsLineOfWords, IsLineOfShape, SpellsSet, SpellsRequest}
use Rattle.mr_text.specs.Valid.{IsValidGet, IsValidSet, IsValidRequest}
use Rattle.mr_text.specs.Limits.{MAX_LINE, MAX_KEY, MAX_BLOCK}
use Rattle.mr_text.specs.declared.request.Request.{Request}
use Rattle.mr_text.specs.declared.request.Request.TheVariants.{Get, Set, Delete, Quit}
use Rattle.mr_text.proofs.CanonicalWords.{AreWords, joined, joined_line}
use Rattle.mr_text.proofs.CanonicalNumbers.{tested_word, key_word, decimal_number, decimal_word, decimal_length, signed_number, signed_word, signed_length}

keys_are_words : (keys : List (List ℕ)) → All IsKey keys → AreWords keys
keys_are_words [] h = tt
keys_are_words (key ∷ keys) h = (key_word key (h 0 [] (omega arith)), keys_are_words keys (λ k d within. h (suc k) d (omega arith)))

spaced_length : (words : List (List ℕ)) → length (flat_map spaced words) ≡ sum_by (λ word. length word + 1) words
spaced_length [] = refl
spaced_length (word ∷ words) =
    let both = length-append (spaced word) (flat_map spaced words) in
    let more = spaced_length words in
    let sum = sum_by-cons (λ w. length w + 1) word words in
    omega arith

-- no word is longer than a key may be
abbrev pub AreShort : List (List ℕ) → Type 0
AreShort [] = Unit {0}
AreShort (word ∷ words) = (length word ≤ MAX_KEY) × AreShort words

rest_short : (words : List (List ℕ)) → AreShort words → length (flat_map spaced words) ≤ (MAX_KEY + 1) * length words
rest_short [] h = omega arith
rest_short (word ∷ words) h =
    let both = length-append (spaced word) (flat_map spaced words) in
    let more = rest_short words h.1 in
    let first = h.0 in
    omega arith

pub joined_short : (word : List ℕ) (words : List (List ℕ)) → AreShort words → length (joined word words) ≤ length word + (MAX_KEY + 1) * length words
joined_short word words h = let both = length-append word (flat_map spaced words) in let rest = rest_short words h in omega arith

get_spells : (keys : List (List ℕ)) → IsValidGet keys → IsLineOfShape (canonical_request (Get keys)) (GetShape keys)
get_spells keys h = record {
  words = codes "get" ∷ keys;
  is_line = joined_line _ (codes "get") keys refl (tested_word (codes "get") refl) (keys_are_words keys h.are_keys) short;
  shaped = (refl, h.some);
  keys = h.are_keys;
}
  where
    short : length (joined (codes "get") keys) ≤ MAX_LINE
    short = let fit : FitLine keys = h.fit in let rest = spaced_length keys in let both = length-append (codes "get") (flat_map spaced keys) in omega arith

-- the words of an option
abbrev noreply_words : Bool → List (List ℕ)
noreply_words true = codes "noreply" ∷ []
noreply_words false = []

noreply_are_words : (noreply : Bool) → AreWords (noreply_words noreply)
noreply_are_words true = (tested_word (codes "noreply") refl, tt)
noreply_are_words false = tt

noreply_are_short : (noreply : Bool) → AreShort (noreply_words noreply)
noreply_are_short true = (omega arith, tt)
noreply_are_short false = tt

noreply_count : (noreply : Bool) → length (noreply_words noreply) ≤ 1
noreply_count true = omega arith
noreply_count false = omega arith

delete_joined : (key : List ℕ) (noreply : Bool) → canonical_request (Delete key noreply) ≡ joined (codes "delete") (key ∷ noreply_words noreply) ++ line_end
delete_joined key true = simp append_assoc
delete_joined key false = simp append_assoc

delete_shaped : (key : List ℕ) (noreply : Bool) → HasShape (codes "delete" ∷ key ∷ noreply_words noreply) (DeleteShape key noreply)
delete_shaped key true = inl refl
delete_shaped key false = inl refl

delete_spells : (key : List ℕ) (noreply : Bool) → IsKey key → IsLineOfShape (canonical_request (Delete key noreply)) (DeleteShape key noreply)
delete_spells key noreply h = record {
  words = codes "delete" ∷ key ∷ noreply_words noreply;
  is_line = joined_line _ (codes "delete") (key ∷ noreply_words noreply) (delete_joined key noreply) (tested_word (codes "delete") refl) (key_word key h, noreply_are_words noreply) short;
  shaped = delete_shaped key noreply;
  keys = h;
}
  where
    short : length (joined (codes "delete") (key ∷ noreply_words noreply)) ≤ MAX_LINE
    short =
        let size = joined_short (codes "delete") (key ∷ noreply_words noreply) (h.not_long, noreply_are_short noreply) in
        let count = noreply_count noreply in
        omega arith

quit_spells : IsLineOfShape (canonical_request Quit) QuitShape
quit_spells = record {
  words = codes "quit" ∷ [];
  is_line = joined_line _ (codes "quit") [] refl (tested_word (codes "quit") refl) tt (omega arith);
  shaped = refl;
  keys = tt;
}

-- the words of a set behind its first
abbrev set_words : List ℕ → ℕ → ℤ → ℕ → Bool → List (List ℕ)
set_words key flags exptime block_length noreply = key ∷ decimal flags ∷ signed_decimal exptime ∷ decimal block_length ∷ noreply_words noreply

set_joined : (key flags exptime size : List ℕ) (noreply : Bool)
    → codes "set" ++ spaced key ++ spaced flags ++ spaced exptime ++ spaced size ++ noreply_text noreply ++ line_end
    ≡ joined (codes "set") (key ∷ flags ∷ exptime ∷ size ∷ noreply_words noreply) ++ line_end
set_joined key flags exptime size true = simp append_assoc
set_joined key flags exptime size false = simp append_assoc

set_shaped : (key flags exptime size : List ℕ) (noreply : Bool)
    → HasShape (codes "set" ∷ key ∷ flags ∷ exptime ∷ size ∷ noreply_words noreply) (SetShape key flags exptime size noreply)
set_shaped key flags exptime size true = refl
set_shaped key flags exptime size false = refl

block_small : (block : List ℕ) → length block ≤ MAX_BLOCK → length block < 2 ^ 64
block_small block h = omega arith

set_line : (key : List ℕ) (flags : ℕ) (exptime : ℤ) (block : List ℕ) (noreply : Bool) → IsValidSet key flags exptime block
    → IsLineOfWords (set_line_text key flags exptime (length block) noreply) (codes "set" ∷ set_words key flags exptime (length block) noreply)
set_line key flags exptime block noreply h =
    joined_line _ (codes "set") (set_words key flags exptime (length block) noreply)
    (set_joined key (decimal flags) (signed_decimal exptime) (decimal (length block)) noreply)
    (tested_word (codes "set") refl)
    (key_word key h.is_key, (decimal_word flags flags_small, (signed_word exptime h.exptime_fits, (decimal_word (length block) size_small, noreply_are_words noreply))))
    short
  where
    flags_small : flags < 2 ^ 64
    flags_small = let fits = h.flags_fit in omega arith

    size_small : length block < 2 ^ 64
    size_small = block_small block h.is_block

    short : length (joined (codes "set") (set_words key flags exptime (length block) noreply)) ≤ MAX_LINE
    short =
        let flags_size = decimal_length flags flags_small in
        let exptime_size = signed_length exptime h.exptime_fits in
        let block_size = decimal_length (length block) size_small in
        let count = noreply_count noreply in
        let size = joined_short (codes "set") (set_words key flags exptime (length block) noreply)
        (h.is_key.not_long, (omega arith, (omega arith, (omega arith, noreply_are_short noreply)))) in
        omega arith

set_spells : (key : List ℕ) (flags : ℕ) (exptime : ℤ) (block : List ℕ) (noreply : Bool) → IsValidSet key flags exptime block
    → SpellsSet (canonical_request (Set key flags exptime block noreply)) key flags exptime block noreply
set_spells key flags exptime block noreply h = record {
  line = set_line_text key flags exptime (length block) noreply;
  is_line = record {
    flags_word = decimal flags;
    exptime_word = signed_decimal exptime;
    length_word = decimal (length block);
    is_line = record {
      words = codes "set" ∷ set_words key flags exptime (length block) noreply;
      is_line = set_line key flags exptime block noreply h;
      shaped = set_shaped key (decimal flags) (signed_decimal exptime) (decimal (length block)) noreply;
      keys = h.is_key;
    };
    numbers = record {
      flags_is = decimal_number flags (let fits = h.flags_fit in omega arith);
      flags_fits = h.flags_fit;
      exptime_is = signed_number exptime h.exptime_fits;
      exptime_fits = h.exptime_fits;
      length_is = decimal_number (length block) (block_small block h.is_block);
      length_fits = block_small block h.is_block;
    };
  };
  is_block = h.is_block;
  follows = append_assoc (set_line_text key flags exptime (length block) noreply) block line_end;
}

-- the canonical text of a request is read as that request
pub canonical_spells_request : (r : Request) → IsValidRequest r → SpellsRequest (canonical_request r) r
canonical_spells_request (Get keys) h = get_spells keys h
canonical_spells_request (Set key flags exptime block noreply) h = set_spells key flags exptime block noreply h
canonical_spells_request (Delete key noreply) h = delete_spells key noreply h
canonical_spells_request Quit h = quit_spells
