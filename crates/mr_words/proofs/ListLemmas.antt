-- What the pieces of a text between its commas say of the numbers that are read of them.
use Rattle.std.proofs.Common.{◌≡◌, ℕ, zero, suc, ◌+◌, ◌<◌, ◌^◌, List, [], ◌∷◌, ◌++◌, length, take, map, slice_index_or, sym, ◌∙◌, refl, arith, subst}
use Rattle.std.specs.Borrow.{Bor}
use Rattle.std.specs.Str.Parse.{IsNumeral, digits_value, without_leading_plus}
use Rattle.std.proofs.lemmas.List.{get_or-map, length-map, take_more}
use Rattle.clap.specs.Words.{Text}
use Rattle.mr_words.specs.Words.{IsNumberWord, AreNumberWords}

-- the piece at an index is the word there
pub record IsPieceAt (words : List Text) (i : ℕ) (piece : Text) : Type 0 where
  pub inside : i < length words
  pub reads : (d : Text) → slice_index_or words i d ≡ piece

pub piece_at : (pieces lent : List (Bor Text)) (words : List Text) (i : ℕ) (p : Bor Text) (piece : Text)
    → map (λ (q : Bor Text). q.now) pieces ≡ words → lent ≡ pieces → i < length lent → piece ≡ (slice_index_or lent i p).now → IsPieceAt words i piece
piece_at pieces lent words i p piece is same lt at =
    let within : i < length pieces = rw same at lt in
    let here : piece ≡ (slice_index_or pieces i p).now = rw same at at in
    record {
      inside = rw (← is) (simp length-map within);
      reads = λ d. rw (← is) (get_or-map (λ (q : Bor Text). q.now) pieces i p d within ∙ sym here);
    }

numbers_pushed : (words : List Text) (numbers : List ℕ) (word : Text) (number : ℕ) → AreNumberWords words numbers → IsNumberWord word number
    → AreNumberWords (words ++ word ∷ []) (numbers ++ number ∷ [])
numbers_pushed [] [] word number so_far is = (is, tt)
numbers_pushed [] (n ∷ numbers) word number so_far is = absurd so_far
numbers_pushed (w ∷ words) [] word number so_far is = absurd so_far
numbers_pushed (w ∷ words) (n ∷ numbers) word number so_far is = (so_far.0, numbers_pushed words numbers word number so_far.1 is)

-- one more number
numbers_more : (words : List Text) (made more : List ℕ) (i : ℕ) (piece : Text) (number : ℕ) → IsPieceAt words i piece → IsNumberWord piece number
    → more ≡ made ++ number ∷ [] → AreNumberWords (take i words) made → AreNumberWords (take (i + 1) words) more
numbers_more words made more i piece number at is pushed so_far =
    rw (pushed, take_more words i [] at.inside, at.reads []) (numbers_pushed (take i words) made piece number so_far is)

number_at : (words : List Text) (numbers : List ℕ) (i : ℕ) → i < length words → AreNumberWords words numbers
    → (number : ℕ) × IsNumberWord (slice_index_or words i []) number
number_at [] numbers i lt are = absurd (omega arith)
number_at (w ∷ words) [] i lt are = absurd are
number_at (w ∷ words) (n ∷ numbers) zero lt are = (n, are.0)
number_at (w ∷ words) (n ∷ numbers) (suc i) lt are = number_at words numbers i (omega arith) are.1

-- a piece that is no number
number_refused : (words : List Text) (i : ℕ) (piece : Text) → IsPieceAt words i piece → ((number : ℕ) → ¬ IsNumberWord piece number)
    → (numbers : List ℕ) → ¬ AreNumberWords words numbers
number_refused words i piece at none numbers are =
    let found = number_at words numbers i at.inside are in
    none found.0 (subst (λ (word : Text). IsNumberWord word found.0) (at.reads []) found.1)

-- what std's `parse` says of a piece that it reads, and of one that it doesn't
abbrev IsNumeral64 : Text → Type 0
IsNumeral64 piece = IsNumeral 10 (without_leading_plus piece) × (digits_value 10 (without_leading_plus piece) < 2 ^ 64)

pub piece_parsed : (pieces lent : List (Bor Text)) (words : List Text) (i : ℕ) (p : Bor Text) (made more : List ℕ) (number : ℕ)
    → map (λ (q : Bor Text). q.now) pieces ≡ words → lent ≡ pieces → i < length lent
    → IsNumeral64 (slice_index_or lent i p).now × (number ≡ digits_value 10 (without_leading_plus (slice_index_or lent i p).now))
    → more ≡ made ++ number ∷ [] → AreNumberWords (take i words) made → AreNumberWords (take (i + 1) words) more
piece_parsed pieces lent words i p made more number is same lt parsed pushed so_far =
    let at = piece_at pieces lent words i p (slice_index_or lent i p).now is same lt refl in
    let number_is : IsNumberWord (slice_index_or lent i p).now number =
    record { digits = parsed.0.0; value = parsed.1; fits = rw parsed.1 parsed.0.1 } in
    numbers_more words made more i (slice_index_or lent i p).now number at number_is pushed so_far

pub piece_refused : (pieces lent : List (Bor Text)) (words : List Text) (i : ℕ) (p : Bor Text) → map (λ (q : Bor Text). q.now) pieces ≡ words
    → lent ≡ pieces → i < length lent → ¬ IsNumeral64 (slice_index_or lent i p).now → (numbers : List ℕ) → ¬ AreNumberWords words numbers
piece_refused pieces lent words i p is same lt refused =
    number_refused words i (slice_index_or lent i p).now (piece_at pieces lent words i p (slice_index_or lent i p).now is same lt refl)
    (λ number is. refused (is.digits, rw (← is.value) is.fits))
