-- The line of an error: its first word, and the text behind it as it stands.
use Rattle.std.proofs.Common.{◌≡◌, ◌≢◌, ℕ, zero, suc, ◌+◌, ◌<◌, ◌==◌, Bool, true, false, List, [], ◌∷◌, ◌++◌, length, take, drop, All, Option, Some, None, refl, sym, ◌∙◌, ap, subst, arith, if◌then◌else◌, inl, inr, ◌⊎◌, unwrap_or, slice_get, eqb-true, eq-eqb, append-nil}
use Rattle.std.proofs.Math.Seq.{take-length, drop-length}
use Rattle.std.proofs.lemmas.List.{take-append-drop, length-take-le}
use Rattle.mr_lines.specs.Lines.{byte_place}
use Rattle.mr_lines.specs.Words.{drop_spaces, words_of}
use Rattle.mr_lines.proofs.ByteLemmas.{place_splits}
use Rattle.mr_lines.proofs.WordLemmas.{words_at}

-- spaces in front say nothing
pub words-drop_spaces : (bytes : List ℕ) → words_of (drop_spaces bytes) ≡ words_of bytes
words-drop_spaces [] = refl
words-drop_spaces (b ∷ bs) = go (b == 32) refl (words-drop_spaces bs)
  where
    go : (t : Bool) → (b == 32) ≡ t → words_of (drop_spaces bs) ≡ words_of bs → words_of (if t then drop_spaces bs else b ∷ bs) ≡ words_of (b ∷ bs)
    go true e more = rw e more
    go false e more = refl

pub drop_spaces-start : (bytes : List ℕ) → slice_get (drop_spaces bytes) 0 ≢ Some 32
drop_spaces-start [] e = cc
drop_spaces-start (b ∷ bs) e = go (b == 32) refl (drop_spaces-start bs) e
  where
    go : (t : Bool) → (b == 32) ≡ t → slice_get (drop_spaces bs) 0 ≢ Some 32 → slice_get (if t then drop_spaces bs else b ∷ bs) 0 ≢ Some 32
    go true is more e = more e
    go false is more e = let b_is : b ≡ 32 = cc in let bad = eq-eqb b 32 b_is in cc

-- spaces, and what they stand before
pub drop_spaces-front : (bytes : List ℕ) → (spaces : List ℕ) × All (λ byte. byte ≡ 32) spaces × (bytes ≡ spaces ++ drop_spaces bytes)
drop_spaces-front [] = ([], (λ k d within. absurd (omega arith)), refl)
drop_spaces-front (b ∷ bs) = go (b == 32) refl (drop_spaces-front bs)
  where
    go : (t : Bool) → (b == 32) ≡ t → ((spaces : List ℕ) × All (λ byte. byte ≡ 32) spaces × (bs ≡ spaces ++ drop_spaces bs))
        → (spaces : List ℕ) × All (λ byte. byte ≡ 32) spaces × ((b ∷ bs) ≡ spaces ++ (if t then drop_spaces bs else b ∷ bs))
    go true e more = (32 ∷ more.0, all_more more.0 more.1, let b_is = eqb-true b 32 e in rw (← b_is) (ap (λ s. b ∷ s) more.2))
      where
        all_more : (spaces : List ℕ) → All (λ byte. byte ≡ 32) spaces → All (λ byte. byte ≡ 32) (32 ∷ spaces)
        all_more spaces all zero d within = refl
        all_more spaces all (suc k) d within = all k d (omega arith)
    go false e more = ([], (λ k d within. absurd (omega arith)), refl)

-- spaces before bytes that begin otherwise
pub drop_spaces-append : (spaces bytes : List ℕ) → All (λ byte. byte ≡ 32) spaces → slice_get bytes 0 ≢ Some 32 → drop_spaces (spaces ++ bytes) ≡ bytes
drop_spaces-append [] [] all start = refl
drop_spaces-append [] (b ∷ bs) all start = go (b == 32) refl
  where
    go : (t : Bool) → (b == 32) ≡ t → (if t then drop_spaces bs else b ∷ bs) ≡ b ∷ bs
    go true e = absurd (start (ap Some (eqb-true b 32 e)))
    go false e = refl
drop_spaces-append (s ∷ spaces) bytes all start =
    let first : s ≡ 32 = all 0 0 (omega arith) in
    let test : (s == 32) ≡ true = eq-eqb s 32 first in
    rw test (drop_spaces-append spaces bytes (λ k d within. all (suc k) d (omega arith)) start)

-- a line's first word, and what follows it
pub record FirstWord (line word : List ℕ) : Type 0 where
  pub spaces : List ℕ
  pub are_spaces : All (λ byte. byte ≡ 32) spaces
  pub tail : List ℕ
  pub splits : line ≡ spaces ++ (word ++ tail)
  pub behind : ((tail ≡ []) × (drop 1 (drop (length word) (drop_spaces line)) ≡ [])) ⊎ (tail ≡ 32 ∷ drop 1 (drop (length word) (drop_spaces line)))

first_at : (line : List ℕ) (bytes : List ℕ) → drop_spaces line ≡ bytes → (r : Option ℕ) → byte_place 32 bytes ≡ r → 0 < length bytes
    → (word : List ℕ) → word ≡ take (unwrap_or r (length bytes)) bytes → FirstWord line word
first_at line bytes here None e some word is =
    let front = drop_spaces-front line in
    let whole : word ≡ bytes = is ∙ take-length bytes in
    let nothing : drop (length word) (drop_spaces line) ≡ [] = rw (here, whole) (drop-length bytes) in
    record {
      spaces = front.0;
      are_spaces = front.1;
      tail = [];
      splits = front.2 ∙ ap (λ s. front.0 ++ s) (here ∙ sym whole ∙ sym (append-nil word));
      behind = inl (refl, ap (drop 1) nothing);
    }
first_at line bytes here (Some k) e some word is =
    let front = drop_spaces-front line in
    let at = place_splits 32 bytes k e in
    let within = at.within in
    let size : length word ≡ k = ap length is ∙ length-take-le k bytes (omega arith) in
    let rest : drop (length word) (drop_spaces line) ≡ 32 ∷ drop (k + 1) bytes = rw (size, here) at.behind in
    record {
      spaces = front.0;
      are_spaces = front.1;
      tail = drop (length word) (drop_spaces line);
      splits = front.2 ∙ ap (λ s. front.0 ++ s) (here ∙ sym (take-append-drop k bytes) ∙ rw (size, here, is) refl);
      behind = inr (rest ∙ ap (λ s. 32 ∷ s) (sym (ap (drop 1) rest)));
    }

pub first_word : (line word : List ℕ) (words : List (List ℕ)) → words_of line ≡ word ∷ words → FirstWord line word
first_word line word words e = go (drop_spaces line) refl
  where
    go : (bytes : List ℕ) → drop_spaces line ≡ bytes → FirstWord line word
    go [] here = absurd (let none : words_of line ≡ [] = sym (words-drop_spaces line) ∙ ap words_of here in let bad : word ∷ words ≡ [] = sym e ∙ none in let size : suc (length words) ≡ 0 = ap length bad in omega arith)
    go (b ∷ bs) here =
        let start : slice_get (b ∷ bs) 0 ≢ Some 32 = subst (λ s. slice_get s 0 ≢ Some 32) here (drop_spaces-start line) in
        let split = words_at (b ∷ bs) (byte_place 32 (b ∷ bs)) refl (omega arith) start in
        let all : word ∷ words ≡ words_of (b ∷ bs) = sym e ∙ sym (words-drop_spaces line) ∙ ap words_of here in
        first_at line (b ∷ bs) here (byte_place 32 (b ∷ bs)) refl (omega arith) word (let both = all ∙ split in cc)
