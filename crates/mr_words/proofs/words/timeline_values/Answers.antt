use Rattle.std.proofs.Common.{◌∙◌, sym, codes}
use Rattle.clap.proofs.WalkLemmas.{first_value-rows}
use Rattle.clap.specs.Words.{found_of}
use Rattle.mr_words.proofs.WordLemmas.{timeline_lacks_config}
use Rattle.mr_words.proofs.words.timeline_values.Goals as goal

pub returns-in-Some : goal.returns-in-Some
returns-in-Some c = record {
  config_is = sym (c.in-Some.ensures ∙ first_value-rows (found_of c.args.matches.now) (codes "config"));
  readings_are = c.in_ok-readings.ensures;
}

pub returns-in-None : goal.returns-in-None
returns-in-None c =
    timeline_lacks_config _ _ c.in_ok-readings.ensures (c.in-None.ensures ∙ first_value-rows (found_of c.args.matches.now) (codes "config"))
