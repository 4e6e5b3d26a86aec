-- A line is there where the reading finds it.
use Rattle.std.proofs.Common.{◌≡◌, ℕ, ◌+◌, ◌≤◌, Bool, true, false, List, [], ◌∷◌, ◌++◌, length, take, drop, Option, Some, None, refl, sym, ◌∙◌, ap, arith, if◌then◌else◌, inl, inr, nat_le, nat_lt, leb-true, le-leb, ltb-true, ltb-false, lt-ltb, le-ltb, append_assoc, length-append, get_or, get_or-drop, add-zero}
use Rattle.std.proofs.Math.Seq.{take-append_seam}
use Rattle.std.proofs.lemmas.List.{take-append-drop, take_more}
use Rattle.mr_lines.specs.Lines.{without_carriage_return, byte_place}
use Rattle.mr_text.specs.Text.{IsLine}
use Rattle.mr_text.specs.Requests.{BeginsWithLongLine}
use Rattle.mr_text.specs.steps.Reading.{StretchReading, line_reading, line_reading_at}
use Rattle.mr_text.specs.steps.Reading.StretchReading.{Waits, Gives, Refused}
use Rattle.mr_text.specs.Limits.{MAX_LINE}
use Rattle.mr_text.specs.declared.error.TextError.TheVariants.{LineTooLong}
use Rattle.mr_lines.proofs.ByteLemmas.{SplitsAt, place_splits, place_behind, place_none, none_place}

-- where a line ends
pub line_place : (start after line : List ℕ) (h : IsLine start line) → byte_place 10 (start ++ after) ≡ Some (length h.raw)
line_place start after line h =
    let raw = h.raw in
    let joined : start ++ after ≡ raw ++ (10 ∷ after) = ap (λ s. s ++ after) h.ends ∙ append_assoc raw (10 ∷ []) after in
    rw joined (place_behind 10 raw after (none_place 10 raw h.only_end))

pub line_raw : (start after line : List ℕ) (h : IsLine start line) → take (length h.raw) (start ++ after) ≡ h.raw
line_raw start after line h =
    let raw = h.raw in
    let joined : start ++ after ≡ raw ++ (10 ∷ after) = ap (λ s. s ++ after) h.ends ∙ append_assoc raw (10 ∷ []) after in
    rw joined (take-append_seam raw (10 ∷ after))

pub line_length : (start line : List ℕ) (h : IsLine start line) → length start ≡ length h.raw + 1
line_length start line h = ap length h.ends ∙ length-append h.raw (10 ∷ [])

-- a line that isn't too long is read
pub line_found : (start after line : List ℕ) → IsLine start line → length line ≤ MAX_LINE → line_reading (start ++ after) ≡ Gives line (length start)
unfolding line_reading
line_found start after line h short =
    let place = line_place start after line h in
    let raw = line_raw start after line h in
    let size = line_length start line h in
    let reads : without_carriage_return h.raw ≡ line = sym h.reads in
    let fits : nat_lt MAX_LINE (length line) ≡ false = le-ltb MAX_LINE (length line) short in
    rw (place, raw, reads, fits, size) refl

-- one that is too long is refused
pub long_found : (bytes : List ℕ) → BeginsWithLongLine bytes → line_reading bytes ≡ Refused LineTooLong 0
unfolding line_reading
long_found bytes (inl (start, after, line, splits, h, long)) =
    let place = line_place start after line h in
    let raw = line_raw start after line h in
    let reads : without_carriage_return h.raw ≡ line = sym h.reads in
    let over : nat_lt MAX_LINE (length line) ≡ true = lt-ltb MAX_LINE (length line) long in
    rw (splits, place, raw, reads, over) refl
long_found bytes (inr (none, long)) =
    let nowhere = none_place 10 bytes none in
    let over : nat_le (MAX_LINE + 2) (length bytes) ≡ true = le-leb (MAX_LINE + 2) (length bytes) long in
    rw (nowhere, over) refl

-- what the reading finds
pub record IsRead (bytes line : List ℕ) (size : ℕ) : Type 0 where
  pub within : size ≤ length bytes
  pub is_line : IsLine (take size bytes) line
  pub not_long : length line ≤ MAX_LINE

abbrev pub LineIs : List ℕ → StretchReading (List ℕ) → Type 0
LineIs bytes Waits = Unit {0}
LineIs bytes (Gives line size) = IsRead bytes line size
LineIs bytes (Refused refusal size) = (refusal ≡ LineTooLong) × BeginsWithLongLine bytes

byte_there : (bytes : List ℕ) (place : ℕ) → SplitsAt 10 bytes place → get_or bytes place 0 ≡ 10
byte_there bytes place at =
    let first : get_or (drop place bytes) 0 0 ≡ 10 = ap (λ s. get_or s 0 0) at.behind in
    sym (get_or-drop place bytes 0 0 ∙ ap (λ i. get_or bytes i 0) (add-zero place)) ∙ first

line_at_place : (bytes : List ℕ) (place : ℕ) → SplitsAt 10 bytes place → IsLine (take (place + 1) bytes) (without_carriage_return (take place bytes))
line_at_place bytes place at =
    let one_more = take_more bytes place 0 at.within in
    let byte : get_or bytes place 0 ≡ 10 = byte_there bytes place at in
    record {
      raw = take place bytes;
      ends = rw byte at one_more;
      only_end = place_none 10 (take place bytes) at.before;
      reads = refl;
    }

pub line_is : (bytes : List ℕ) → LineIs bytes (line_reading bytes)
unfolding line_reading
line_is bytes = go (byte_place 10 bytes) refl
  where
    read : (place : ℕ) → SplitsAt 10 bytes place → (t : Bool) → nat_lt MAX_LINE (length (without_carriage_return (take place bytes))) ≡ t
        → LineIs bytes (if t then Refused LineTooLong 0 else Gives (without_carriage_return (take place bytes)) (place + 1))
    read place at true e =
        (refl, inl (take (place + 1) bytes, drop (place + 1) bytes, without_carriage_return (take place bytes), sym (take-append-drop (place + 1) bytes), line_at_place bytes place at, ltb-true _ _ e))
    read place at false e = record { within = let w = at.within in omega arith; is_line = line_at_place bytes place at; not_long = ltb-false _ _ e }

    wait : byte_place 10 bytes ≡ None → (t : Bool) → nat_le (MAX_LINE + 2) (length bytes) ≡ t → LineIs bytes (if t then Refused LineTooLong 0 else Waits)
    wait none true e = (refl, inr (place_none 10 bytes none, leb-true _ _ e))
    wait none false e = tt

    go : (o : Option ℕ) → byte_place 10 bytes ≡ o → LineIs bytes (line_reading_at bytes o)
    go None e = wait e (nat_le (MAX_LINE + 2) (length bytes)) refl
    go (Some place) e = read place (place_splits 10 bytes place e) (nat_lt MAX_LINE (length (without_carriage_return (take place bytes)))) refl
