use Rattle.std.proofs.Common.{◌∙◌, ap, sym, map, codes, List, Some}
use Rattle.std.specs.Borrow.{Bor}
use Rattle.clap.proofs.WalkLemmas.{first_value-rows, raw_values-rows}
use Rattle.clap.specs.Words.{found_of}
use Rattle.mr_words.proofs.WordLemmas.{no_addresses, text_missing}
use Rattle.mr_words.proofs.watch_words.watch_values.Goals as goal

pub returns : goal.returns
returns c =
    let f = found_of c.args.matches.now in
    record {
      config_is = sym (c.in-Some.ensures ∙ first_value-rows f (codes "config"));
      once_is = c.is_given.ensures;
      json_is = c.is_given-2.ensures;
      addresses_are = sym (ap (λ (texts : List (Bor (List _))). Some (map (λ text. text.now) texts)) c.in_ok-listed.ensures
          ∙ (c.in-Some-get_strs.ensures ∙ raw_values-rows f (codes "address")));
    }

pub returns-in_default : goal.returns-in_default
returns-in_default c = λ values has.
    text_missing _ _ (c.in_default.ensures ∙ first_value-rows (found_of c.args.matches.now) (codes "config")) has.config_is

pub returns-in_default-get_strs : goal.returns-in_default-get_strs
returns-in_default-get_strs c = λ values has.
    no_addresses _ _ (c.in_default-get_strs.ensures ∙ raw_values-rows (found_of c.args.matches.now) (codes "address")) has.addresses_are
