use Rattle.std.proofs.Common.{◌≡◌, length, rules}
use Rattle.std.specs.Str.{chars}
use Rattle.std.proofs.lemmas.Str.{chars_from_encodes}
use Rattle.mr_shown.proofs.DataLemmas.{pairs_are_data}
use Rattle.mr_shown.proofs.data.is_data.Goals as goal

pub returns-then-are_bytes : goal.returns-then-are_bytes
returns-then-are_bytes c =
    let count : c.count.result ≡ length (chars c.args.text.now) = search (rules, chars_from_encodes) in
    search (rules, count)

pub returns-then-are_few_pairs : goal.returns-then-are_few_pairs
returns-then-are_few_pairs c =
    let same = pairs_are_data c.args.text.now c.utf8.text in
    search (rules, same)

pub returns-else-are_few_pairs : goal.returns-else-are_few_pairs
returns-else-are_few_pairs c =
    let same = pairs_are_data c.args.text.now c.utf8.text in
    search (rules, same)
