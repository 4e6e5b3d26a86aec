use Rattle.mr_words.proofs.plan_words.said_values.Goals as goal

pub returns-in_err-number_in-clause-missing : goal.returns-in_err-number_in-clause-missing
returns-in_err-number_in-clause-missing c =
    rw c.from_residual-in_err-number_in.ensures (λ words at has. c.in_err-number_in.ensures.missing words.start has.start_is)

pub returns-in_err-number_in-2-clause-missing : goal.returns-in_err-number_in-2-clause-missing
returns-in_err-number_in-2-clause-missing c =
    rw c.from_residual-in_err-number_in-2.ensures (λ words at has. c.in_err-number_in-2.ensures.missing words.interval has.interval_is)

pub returns-in_err-number_in-3-clause-missing : goal.returns-in_err-number_in-3-clause-missing
returns-in_err-number_in-3-clause-missing c =
    rw c.from_residual-in_err-number_in-3.ensures (λ words at has. c.in_err-number_in-3.ensures.missing at has.at_is)
