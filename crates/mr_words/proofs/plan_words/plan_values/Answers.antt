use Rattle.std.proofs.Common.{rules}
use Rattle.clap.specs.Words.{found_of, rows_of}
use Rattle.mr_words.proofs.WordLemmas.{no_file_plan, no_said_plan}
use Rattle.mr_words.specs.Words.{LacksSixWords}
use Rattle.mr_words.proofs.plan_words.plan_values.Goals as goal

pub returns-in_err-path-clause-missing : goal.returns-in_err-path-clause-missing
returns-in_err-path-clause-missing c =
    let rows = rows_of (found_of c.args.matches.now) in
    let none : LacksSixWords rows = search rules in
    rw c.from_residual.ensures (no_file_plan rows none c.in_err-path.ensures.missing)

pub returns-in_err-words-clause-missing : goal.returns-in_err-words-clause-missing
returns-in_err-words-clause-missing c =
    let rows = rows_of (found_of c.args.matches.now) in
    let some : ¬ LacksSixWords rows = λ none. search rules in
    rw c.from_residual-in_err-words.ensures (no_said_plan rows some c.in_err-words.ensures.missing)
