use Rattle.std.proofs.Common.{◌≡◌, ◌+◌, Some, None, option_map, sym, ◌∙◌, ap, drop}
use Rattle.std.proofs.lemmas.List.{take_rest}
use Rattle.mr_lines.specs.Lines.{byte_place}
use Rattle.mr_text.proofs.Scanned.{place_from}
use Rattle.mr_text.proofs.reading.stream.line_end_from.Goals as goal

pub returns-in-Some-clause-place : goal.returns-in-Some-clause-place
returns-in-Some-clause-place c =
    let whole = place_from 10 c.args.from c.args.bytes.now c.requires.none in
    let there = rw (take_rest c.args.bytes.now c.args.from) at c.place_of_byte.ensures.place in
    let is : byte_place 10 (drop c.args.from c.args.bytes.now) ≡ Some c.in-Some.place = sym there ∙ c.in-Some.is in
    sym (whole ∙ ap (option_map (λ place. c.args.from + place)) is)

pub returns-in-None-clause-place : goal.returns-in-None-clause-place
returns-in-None-clause-place c =
    let whole = place_from 10 c.args.from c.args.bytes.now c.requires.none in
    let there = rw (take_rest c.args.bytes.now c.args.from) at c.place_of_byte.ensures.place in
    let is : byte_place 10 (drop c.args.from c.args.bytes.now) ≡ None = sym there ∙ c.in-None.is in
    sym (whole ∙ ap (option_map (λ place. c.args.from + place)) is)
