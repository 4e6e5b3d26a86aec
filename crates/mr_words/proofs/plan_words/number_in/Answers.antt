use Rattle.clap.proofs.WalkLemmas.{one_text-rows}
use Rattle.clap.specs.Words.{found_of}
use Rattle.mr_words.proofs.WordLemmas.{no_number_in, number_found_in}
use Rattle.mr_words.proofs.plan_words.number_in.Goals as goal

pub returns-in-Some-clause-found : goal.returns-in-Some-clause-found
returns-in-Some-clause-found c =
    number_found_in _ _ _ _ (one_text-rows (found_of c.args.matches.now) c.args.name.now) c.in-Some.ensures.none (λ t is. (c.in-Some.ensures.value t is).0)

pub returns-in-None-clause-missing : goal.returns-in-None-clause-missing
returns-in-None-clause-missing c =
    no_number_in _ _ _ (one_text-rows (found_of c.args.matches.now) c.args.name.now) (λ t is. (c.in-None.ensures.value t is).1.0)
