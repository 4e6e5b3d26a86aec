use Rattle.std.proofs.Common.{◌∙◌, sym}
use Rattle.clap.specs.Words.{found_of, rows_of}
use Rattle.mr_words.proofs.WordLemmas.{no_span_of_both, no_span_of_seconds}
use Rattle.mr_words.proofs.canary_words.span_in.Goals as goal

pub returns-in-Some-clause-missing : goal.returns-in-Some-clause-missing
returns-in-Some-clause-missing c =
    no_span_of_both (rows_of (found_of c.args.matches.now)) _ (sym c.is_given.ensures ∙ c.if-not-is_given.false) c.in-Some.ensures

pub returns-in_err-number_or-clause-missing : goal.returns-in_err-number_or-clause-missing
returns-in_err-number_or-clause-missing c =
    rw c.from_residual.ensures
    (no_span_of_seconds (rows_of (found_of c.args.matches.now)) (sym c.is_given.ensures ∙ c.if-not-is_given.true) c.in_err-number_or.ensures.missing)
