use Rattle.std.proofs.Common.{◌∙◌, sym, codes}
use Rattle.clap.proofs.WalkLemmas.{first_value-rows}
use Rattle.clap.specs.Words.{found_of}
use Rattle.mr_words.proofs.WordLemmas.{text_missing}
use Rattle.mr_words.proofs.service_words.node_values.Goals as goal

pub returns-clause-found : goal.returns-clause-found
returns-clause-found c = record {
  listen_is = sym (c.in_ok-get_str.ensures ∙ first_value-rows (found_of c.args.matches.now) (codes "listen"));
  capacity_is = c.in_ok-number_or.ensures.found;
  clients_is = rw (← c.is_given-forever.ensures) c.in_ok-bound_or.ensures.found;
  turns_is = rw (← c.asks_for_loops.ensures) c.in_ok-bound_or-2.ensures.found;
  idle_is = c.in_ok-number_or-2.ensures.found;
  metrics_is = sym (c.get_str-2.ensures ∙ first_value-rows (found_of c.args.matches.now) (codes "metrics"));
  loops_are = c.in_ok-loops_in.ensures.found;
}

pub returns-in_err-get_str-clause-missing : goal.returns-in_err-get_str-clause-missing
returns-in_err-get_str-clause-missing c =
    rw c.from_residual.ensures
    (λ node has. text_missing _ _ (c.in_err-get_str.ensures ∙ first_value-rows (found_of c.args.matches.now) (codes "listen")) has.listen_is)
