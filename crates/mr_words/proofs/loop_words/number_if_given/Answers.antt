use Rattle.std.proofs.Common.{◌∙◌}
use Rattle.clap.proofs.WalkLemmas.{one_text-rows}
use Rattle.clap.specs.Words.{found_of}
use Rattle.mr_words.proofs.LoopLemmas.{no_number_if_given, number_if_given, number_if_left_out}
use Rattle.mr_words.proofs.loop_words.number_if_given.Goals as goal

pub returns-in-Ok-Some-clause-found : goal.returns-in-Ok-Some-clause-found
returns-in-Ok-Some-clause-found c =
    let rows = one_text-rows (found_of c.args.matches.now) c.args.name.now in
    number_if_given _ _ (λ e. let none = c.in-Ok-Some.ensures.none (rows ∙ e) in let some = c.in-Ok-Some.field-0-is in cc)
    (λ t is. (rw c.in-Ok-Some.field-0-is at (c.in-Ok-Some.ensures.value t (rows ∙ is))).0)

pub returns-in-Ok-None-clause-found : goal.returns-in-Ok-None-clause-found
returns-in-Ok-None-clause-found c =
    let rows = one_text-rows (found_of c.args.matches.now) c.args.name.now in
    number_if_left_out _ (λ t is. rw c.in-Ok-None.field-0-is at (c.in-Ok-None.ensures.value t (rows ∙ is)))

pub returns-in-Err-clause-missing : goal.returns-in-Err-clause-missing
returns-in-Err-clause-missing c =
    let rows = one_text-rows (found_of c.args.matches.now) c.args.name.now in
    no_number_if_given _ (λ e. let none = c.in-Err.ensures.none (rows ∙ e) in cc) (λ t is. (c.in-Err.ensures.value t (rows ∙ is)).0)
