use Rattle.std.proofs.Common.{◌∙◌, sym, codes}
use Rattle.clap.proofs.WalkLemmas.{first_value-rows}
use Rattle.clap.specs.Words.{found_of}
use Rattle.mr_words.proofs.WordLemmas.{no_readings_given, readings_given}
use Rattle.mr_words.proofs.words.readings_of.Goals as goal

pub returns-in_default : goal.returns-in_default
returns-in_default c = no_readings_given _ (c.in_default.ensures ∙ first_value-rows (found_of c.args.matches.now) (codes "readings"))

pub returns-in-Some-2 : goal.returns-in-Some-2
returns-in-Some-2 c =
    readings_given _ c.in-Some.text.now c.in-Some-2.numbers.items (c.in-Some.ensures ∙ first_value-rows (found_of c.args.matches.now) (codes "readings"))
    (rw c.in-Some-2.is at c.in_ok-numbers.ensures)

pub returns-in-None : goal.returns-in-None
returns-in-None c = record {
  text = c.in-Some.text.now;
  is = sym (c.in-Some.ensures ∙ first_value-rows (found_of c.args.matches.now) (codes "readings"));
  bad = rw c.in-None.is at c.in_ok-numbers.ensures;
}
