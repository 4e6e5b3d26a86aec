use Rattle.std.proofs.Common.{◌<◌, length, arith, sym, ◌∙◌, rules}
use Rattle.mr_lines.proofs.WordLemmas.{words_at, word_end}
use Rattle.mr_lines.proofs.words.next_word.Goals as goal

pub returns-clause-words : goal.returns-clause-words
returns-clause-words c =
    let some : 0 < length c.without_spaces-bytes.result.now = search rules in
    let split = words_at c.without_spaces-bytes.result.now c.place_of_byte.result (sym c.place_of_byte.ensures.place) some c.without_spaces-bytes.ensures.start in
    rw (c.split_at.ensures.front, c.split_at.ensures.back, c.unwrap_or-end.ensures) (sym c.without_spaces-bytes.ensures.words ∙ split)

pub returns-clause-shorter : goal.returns-clause-shorter
returns-clause-shorter c =
    let some : 0 < length c.without_spaces-bytes.result.now = search rules in
    let end = word_end c.without_spaces-bytes.result.now c.place_of_byte.result (sym c.place_of_byte.ensures.place) some c.without_spaces-bytes.ensures.start in
    let low = end.0 in
    let high = end.1 in
    let is = c.unwrap_or-end.ensures in
    let kept = c.without_spaces-bytes.ensures.length in
    omega (arith, c.split_at.ensures.back_len)
