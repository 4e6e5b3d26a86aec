-- A line that was read has no line feed, and neither has what is cut from it.
use Rattle.std.proofs.Common.{◌≡◌, ℕ, suc, ◌+◌, ◌-◌, ◌≤◌, ◌==◌, Bool, true, false, List, [], ◌∷◌, length, take, drop, sym, ◌∙◌, subst, arith, if◌then◌else◌, length-drop, get_or-drop, get_or-take, slice_index, length-take}
use Rattle.mr_lines.specs.Lines.{without_carriage_return}
use Rattle.mr_lines.specs.Words.{drop_spaces}
use Rattle.mr_text.specs.Line.{HasLineFeed}
use Rattle.mr_text.specs.steps.ReplyView.{IsOneLine}
use Rattle.mr_text.specs.Limits.{MAX_LINE}

pub drop_one_line : (n : ℕ) (bytes : List ℕ) → ¬ HasLineFeed bytes → ¬ HasLineFeed (drop n bytes)
drop_one_line n bytes h (k, within, at) =
    let left = length-drop n bytes in
    h (n + k, omega arith, sym (get_or-drop n bytes k 10) ∙ at)

pub take_one_line : (n : ℕ) (bytes : List ℕ) → ¬ HasLineFeed bytes → ¬ HasLineFeed (take n bytes)
take_one_line n bytes h (k, within, at) =
    let size = length-take n bytes in
    h (k, omega arith, sym (get_or-take n bytes k 10 (omega arith)) ∙ at)

pub cut_one_line : (bytes : List ℕ) → ¬ HasLineFeed bytes → ¬ HasLineFeed (without_carriage_return bytes)
cut_one_line bytes h = go (slice_index bytes (length bytes - 1) == 13)
  where
    go : (t : Bool) → ¬ HasLineFeed (if t then take (length bytes - 1) bytes else bytes)
    go true = take_one_line (length bytes - 1) bytes h
    go false = h

spaces_one_line : (bytes : List ℕ) → ¬ HasLineFeed bytes → ¬ HasLineFeed (drop_spaces bytes)
spaces_one_line [] h = h
spaces_one_line (b ∷ bs) h = go (b == 32) (spaces_one_line bs)
  where
    behind : ¬ HasLineFeed bs
    behind (k, within, at) = h (suc k, omega arith, at)

    go : (t : Bool) → (¬ HasLineFeed bs → ¬ HasLineFeed (drop_spaces bs)) → ¬ HasLineFeed (if t then drop_spaces bs else b ∷ bs)
    go true more = more behind
    go false more = h

spaces_shorter : (bytes : List ℕ) → length (drop_spaces bytes) ≤ length bytes
spaces_shorter [] = omega arith
spaces_shorter (b ∷ bs) = go (b == 32) (spaces_shorter bs)
  where
    go : (t : Bool) → length (drop_spaces bs) ≤ length bs → length (if t then drop_spaces bs else b ∷ bs) ≤ length (b ∷ bs)
    go true more = omega arith
    go false more = omega arith

-- the text behind an error's word
pub text_one_line : (line rest : List ℕ) (word_length : ℕ) → 12 ≤ word_length → rest ≡ drop word_length (drop_spaces line) → ¬ HasLineFeed line → length line ≤ MAX_LINE
    → IsOneLine (drop 1 rest)
text_one_line line rest n word is h short =
    let front = length-drop n (drop_spaces line) in
    let text = length-drop 1 (drop n (drop_spaces line)) in
    let spaces = spaces_shorter line in
    subst (λ s. IsOneLine (drop 1 s)) (sym is) (record { not_long = omega arith; one_line = drop_one_line 1 (drop n (drop_spaces line)) (drop_one_line n (drop_spaces line) (spaces_one_line line h)) })
