use Rattle.std.proofs.Common.{◌∙◌}
use Rattle.clap.proofs.WalkLemmas.{first_value-rows}
use Rattle.clap.specs.Words.{found_of}
use Rattle.mr_words.proofs.WordLemmas.{flag_given, flag_left_out}
use Rattle.mr_words.proofs.options.is_given.Goals as goal

pub returns-in-Some : goal.returns-in-Some
returns-in-Some c =
    c.eq.ensures ∙ flag_given _ _ (c.in-Some.ensures ∙ first_value-rows (found_of c.args.matches.now) c.args.name.now)

pub returns-in-None : goal.returns-in-None
returns-in-None c = flag_left_out _ (c.in-None.ensures ∙ first_value-rows (found_of c.args.matches.now) c.args.name.now)
