use Rattle.mr_words.proofs.plan_words.file_values.Goals as goal

pub returns-in_err-number_in-clause-missing : goal.returns-in_err-number_in-clause-missing
returns-in_err-number_in-clause-missing c =
    rw c.from_residual-in_err-number_in.ensures (λ path at has. c.in_err-number_in.ensures.missing at has.at_is)
