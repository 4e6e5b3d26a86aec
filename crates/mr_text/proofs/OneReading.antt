-- Where the reading finds each spelling and each refusal, spellings and refusals exclude each other.
use Rattle.std.proofs.Common.{◌≡◌, ℕ, List, [], ◌++◌, length, sym, ◌∙◌, ap, arith}
use Rattle.std.proofs.lemmas.List.{append-nil, nil_from_length, length-append}
use Rattle.mr_text.specs.steps.Reading.{StretchReading}
use Rattle.mr_text.specs.steps.Reading.StretchReading.{Gives, Refused}
use Rattle.mr_text.specs.declared.error.TextError.{TextError}

module _ {Item : Type 0} (Spells : List ℕ → Item → Type 0) (Refuses : TextError → List ℕ → Type 0) (reading : List ℕ → StretchReading Item)
    (found : (bytes : List ℕ) (item : Item) (after : List ℕ) → Spells bytes item → reading (bytes ++ after) ≡ Gives item (length bytes))
    (refused : (refusal : TextError) (bytes : List ℕ) → Refuses refusal bytes → (size : ℕ) × (reading bytes ≡ Refused refusal size)) where
  pub prefix_free : (bytes after : List ℕ) (item other : Item) → Spells bytes item → Spells (bytes ++ after) other → (after ≡ []) × (item ≡ other)
  prefix_free bytes after item other first second =
      let one = found bytes item after first in
      let all = ap reading (sym (append-nil (bytes ++ after))) ∙ found (bytes ++ after) other [] second in
      let same : length bytes ≡ length (bytes ++ after) = cc in
      let more = length-append bytes after in
      let is : item ≡ other = cc in
      (nil_from_length after (omega arith), is)

  pub not_refused : (bytes after : List ℕ) (item : Item) (refusal : TextError) → Spells bytes item → ¬ Refuses refusal (bytes ++ after)
  not_refused bytes after item refusal spells refuses =
      let one = found bytes item after spells in
      let there = refused refusal (bytes ++ after) refuses in
      let other = there.1 in cc

  pub one_refusal : (bytes : List ℕ) (refusal other : TextError) → Refuses refusal bytes → Refuses other bytes → refusal ≡ other
  one_refusal bytes refusal other first second =
      let one = refused refusal bytes first in
      let two = refused other bytes second in
      let e = one.1 in
      let f = two.1 in cc
