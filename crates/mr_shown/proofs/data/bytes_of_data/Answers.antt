use Rattle.std.proofs.Common.{rules, ℕ, List}
use Rattle.mr_shown.proofs.DataLemmas.{data_decodes, decoded_is_data}
use Rattle.mr_shown.proofs.data.bytes_of_data.Goals as goal

pub bytes_of_digits-requires : goal.bytes_of_digits-requires
bytes_of_digits-requires c = data_decodes c.args.text.now c.utf8.text (rw c.in-Two.is at c.requires)

pub returns-in-Two : goal.returns-in-Two
returns-in-Two c =
    let made = λ (bytes : List ℕ). decoded_is_data c.args.text.now bytes c.utf8.text (rw c.in-Two.is at c.requires) in
    search (rules, made)
