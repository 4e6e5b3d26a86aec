-- The keys of a line that was read fit a line.
use Rattle.std.proofs.Common.{◌≡◌, ℕ, suc, ◌+◌, ◌*◌, All, ◌<◌, ◌≤◌, ◌==◌, Bool, true, false, not, List, [], ◌∷◌, length, Result, Ok, Err, refl, ◌∙◌, ap, subst, arith, if◌then◌else◌, cond, filter, sum_by, codes, IfOk}
use Rattle.std.proofs.lemmas.List.Sums.{sum_by-cons}
use Rattle.mr_lines.specs.Words.{words_of, pieces_of, begun_with, is_empty}
use Rattle.mr_text.specs.Key.{IsKey, FitLine, AreFew}
use Rattle.mr_text.specs.steps.CommandView.{command_line_of, IsCommandCounted, IsCommand, IsGoodLine}
use Rattle.mr_text.specs.steps.Reading.{command_line}
use Rattle.mr_text.specs.Limits.{MAX_LINE}
use Rattle.mr_text.specs.declared.error.TextError.{TextError}
use Rattle.mr_text.specs.declared.reading.commands.Command.{Command}
use Rattle.mr_text.specs.declared.reading.commands.Command.TheVariants.{Get, Set, Delete, Quit}
use Rattle.mr_text.proofs.RequestReading.{LineSays, line_says}

abbrev spaced : List (List ℕ) → ℕ
spaced pieces = sum_by (λ piece. length piece + 1) pieces

spaced-cons : (piece : List ℕ) (pieces : List (List ℕ)) → spaced (piece ∷ pieces) ≡ length piece + 1 + spaced pieces
spaced-cons piece pieces = sum_by-cons (λ p. length p + 1) piece pieces

begun_length : (byte : ℕ) (pieces : List (List ℕ)) → 0 < spaced pieces → spaced (begun_with byte pieces) ≡ spaced pieces + 1
begun_length byte [] some = absurd (omega arith)
begun_length byte (piece ∷ pieces) some = let short = spaced-cons piece pieces in let long = spaced-cons (byte ∷ piece) pieces in omega arith

pieces_length : (bytes : List ℕ) → spaced (pieces_of bytes) ≡ length bytes + 1
pieces_length [] = refl
pieces_length (b ∷ bs) = go (b == 32) (pieces_length bs)
  where
    go : (t : Bool) → spaced (pieces_of bs) ≡ length bs + 1
        → spaced (if t then [] ∷ pieces_of bs else begun_with b (pieces_of bs)) ≡ length (b ∷ bs) + 1
    go true e = let first = spaced-cons [] (pieces_of bs) in omega arith
    go false e = let more = begun_length b (pieces_of bs) (omega arith) in omega arith

filter_le : (test : List ℕ → Bool) (pieces : List (List ℕ)) → spaced (filter test pieces) ≤ spaced pieces
filter_le test [] = omega arith
filter_le test (p ∷ ps) = go (test p) (filter_le test ps)
  where
    go : (t : Bool) → spaced (filter test ps) ≤ spaced ps → spaced (cond t (p ∷ filter test ps) (filter test ps)) ≤ spaced (p ∷ ps)
    go true h = let kept = spaced-cons p (filter test ps) in let all = spaced-cons p ps in omega arith
    go false h = let all = spaced-cons p ps in omega arith

-- the words of a line, each with a space, are no longer than the line and one more
pub words_length : (line : List ℕ) → spaced (words_of line) ≤ length line + 1
words_length line = let all = pieces_length line in let some = filter_le (λ piece. not (is_empty piece)) (pieces_of line) in omega arith

keys_fit : (line : List ℕ) (keys : List (List ℕ)) → words_of line ≡ codes "get" ∷ keys → length line ≤ MAX_LINE → FitLine keys
keys_fit line keys e short =
    let all = words_length line in
    let parts : spaced (words_of line) ≡ 4 + spaced keys = ap spaced e ∙ spaced-cons (codes "get") keys in
    omega arith

-- what a line that was read says may be used
pub good_command : (line : List ℕ) (command : Command) → command_line (words_of line) ≡ Ok (command_line_of command) → IsCommandCounted command → length line ≤ MAX_LINE
    → IsGoodLine command
good_command line (Get keys count) e counted short =
    let is = subst (LineSays (words_of line)) e (line_says (words_of line)) in
    record { some = is.0.1; fit = keys_fit line (words_of keys.now) is.0.0 short; keys = is.1; counted = counted }
good_command line (Set key flags exptime block_length noreply) e counted short =
    let is = subst (LineSays (words_of line)) e (line_says (words_of line)) in (is.4, is.6)
good_command line (Delete key noreply) e counted short =
    let is = subst (LineSays (words_of line)) e (line_says (words_of line)) in is.1
good_command line Quit e counted short = tt

pub good_result : (line : List ℕ) (r : Result Command TextError) → IsCommand (command_line (words_of line)) r → length line ≤ MAX_LINE
    → IfOk r IsGoodLine
good_result line (Ok command) is short = good_command line command is.0 is.1 short
good_result line (Err refusal) is short = tt

-- keys that fit a line are as few as the items of a reply
bytes_of_keys : (keys : List (List ℕ)) → All IsKey keys → 2 * length keys ≤ spaced keys
bytes_of_keys [] good = omega arith
bytes_of_keys (key ∷ keys) good =
    let one : IsKey key = good 0 key (omega arith) in
    let some = one.not_empty in
    let rest = bytes_of_keys keys (λ k d within. good (suc k) d (omega arith)) in
    let all = spaced-cons key keys in
    omega arith

pub few_keys : (keys : List (List ℕ)) → All IsKey keys → FitLine keys → AreFew keys
few_keys keys good fit = let bytes = bytes_of_keys keys good in omega arith
