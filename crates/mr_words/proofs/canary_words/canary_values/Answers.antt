use Rattle.std.proofs.Common.{◌∙◌, ap, sym, map, codes, List, Some}
use Rattle.std.specs.Borrow.{Bor}
use Rattle.clap.proofs.WalkLemmas.{first_value-rows, raw_values-rows}
use Rattle.clap.specs.Words.{found_of}
use Rattle.mr_words.proofs.WordLemmas.{no_addresses, text_missing}
use Rattle.mr_words.proofs.canary_words.canary_values.Goals as goal

pub returns : goal.returns
returns c =
    let f = found_of c.args.matches.now in
    record {
      config_is = sym (c.in-Some.ensures ∙ first_value-rows f (codes "config"));
      span_is = c.in-Some-span_in.ensures.found;
      clients_are = c.in-Some-number_or.ensures.found;
      keys_are = c.in-Some-number_or-2.ensures.found;
      rate_is = c.in-Some-number_or-3.ensures.found;
      prefix_is = c.prefix_in.ensures;
      json_is = c.is_given.ensures;
      proxies_are = sym (ap (λ (texts : List (Bor (List _))). Some (map (λ text. text.now) texts)) c.in_ok-listed.ensures
          ∙ (c.in-Some-get_strs.ensures ∙ raw_values-rows f (codes "proxy")));
    }

pub returns-in_default : goal.returns-in_default
returns-in_default c = λ values has.
    text_missing _ _ (c.in_default.ensures ∙ first_value-rows (found_of c.args.matches.now) (codes "config")) has.config_is

pub returns-in_default-get_strs : goal.returns-in_default-get_strs
returns-in_default-get_strs c = λ values has.
    no_addresses _ _ (c.in_default-get_strs.ensures ∙ raw_values-rows (found_of c.args.matches.now) (codes "proxy")) has.proxies_are

pub returns-in_default-span_in : goal.returns-in_default-span_in
returns-in_default-span_in c = λ values has. c.in_default-span_in.ensures.missing values.span has.span_is

pub returns-in_default-number_or : goal.returns-in_default-number_or
returns-in_default-number_or c = λ values has. c.in_default-number_or.ensures.missing values.clients has.clients_are

pub returns-in_default-number_or-2 : goal.returns-in_default-number_or-2
returns-in_default-number_or-2 c = λ values has. c.in_default-number_or-2.ensures.missing values.keys has.keys_are

pub returns-in_default-number_or-3 : goal.returns-in_default-number_or-3
returns-in_default-number_or-3 c = λ values has. c.in_default-number_or-3.ensures.missing values.rate has.rate_is
