use Rattle.std.proofs.Common.{◌∙◌}
use Rattle.clap.proofs.WalkLemmas.{first_value-rows}
use Rattle.clap.specs.Words.{found_of, rows_of}
use Rattle.mr_words.proofs.WordLemmas.{bound_without_end, no_bound_beside}
use Rattle.mr_words.proofs.service_words.bound_or.Goals as goal

pub returns-in-Some-clause-missing : goal.returns-in-Some-clause-missing
returns-in-Some-clause-missing c =
    let found = found_of c.args.matches.now in
    no_bound_beside _ _ _ c.args.name.now (rows_of found) c.if-not-without_end.false
    (c.in-Some.ensures ∙ first_value-rows found c.args.name.now)

pub returns-in-None-clause-found : goal.returns-in-None-clause-found
returns-in-None-clause-found c =
    let found = found_of c.args.matches.now in
    bound_without_end _ _ c.args.name.now (rows_of found) c.if-not-without_end.false
    (c.in-None.ensures ∙ first_value-rows found c.args.name.now)
