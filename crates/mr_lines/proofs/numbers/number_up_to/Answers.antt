use Rattle.std.proofs.Common.{◌≡◌, ◌+◌, ◌-◌, ◌*◌, ◌<◌, length, take, get_or, arith, sym, true, rules}
use Rattle.std.proofs.lemmas.List.{take_more, take_all}
use Rattle.std.specs.List.{list_all}
use Rattle.std.specs.Char.{is_ascii_digit}
use Rattle.mr_lines.specs.Numbers.{number_of_digits}
use Rattle.mr_lines.proofs.NumberLemmas.{number-push, number_in-empty, number_in-other, number_in-large, number_in-digits}
use Rattle.mr_lines.proofs.numbers.number_up_to.Goals as goal

pub returns-then-is_empty-clause-value : goal.returns-then-is_empty-clause-value
returns-then-is_empty-clause-value c = sym (number_in-empty c.args.greatest c.args.word.now (search rules))

pub returns-then-not-is_ascii_digit-clause-value : goal.returns-then-not-is_ascii_digit-clause-value
returns-then-not-is_ascii_digit-clause-value c =
    sym (number_in-other c.args.greatest c.args.word.now c.loop-byte.byte-index (omega arith) (search rules))

pub returns-then-longer-from-clause-value : goal.returns-then-longer-from-clause-value
returns-then-longer-from-clause-value c =
    let i = c.loop-byte.byte-index in
    let word = c.args.word.now in
    let within : i < length word = omega arith in
    let more = take_more word i 0 within in
    let value = c.loop-byte.invariant.value in
    let longer : number_of_digits (take (i + 1) word) ≡ 10 * number_of_digits (take i word) + (get_or word i 0 - 48) =
    rw more (number-push (take i word) (get_or word i 0)) in
    sym (number_in-large c.args.greatest word (i + 1) (omega arith))

pub returns-clause-value : goal.returns-clause-value
returns-clause-value c =
    let word = c.args.word.now in
    let some : 0 < length word = search rules in
    let whole : take c.loop-byte.byte-index word ≡ word = take_all c.loop-byte.byte-index word (omega arith) in
    let digits : list_all is_ascii_digit word ≡ true = rw whole at c.loop-byte.invariant.digits in
    let value : c.loop-byte.number ≡ number_of_digits word = rw whole at c.loop-byte.invariant.value in
    let within = c.loop-byte.invariant.within in
    rw value (sym (number_in-digits c.args.greatest word some digits (omega arith)))
