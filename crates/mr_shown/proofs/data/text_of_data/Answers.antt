use Rattle.std.proofs.Common.{rules}
use Rattle.mr_shown.proofs.DataLemmas.{shown_as_ascii}
use Rattle.mr_shown.proofs.data.text_of_data.Goals as goal

pub returns-in-Two : goal.returns-in-Two
returns-in-Two c =
    let same = shown_as_ascii c.args.bytes.now in
    search (rules, same)
