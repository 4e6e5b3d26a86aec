-- What was found of each premise.
use Rattle.mr_watch.specs.declared.finding.Finding.TheVariants.{Unseen}
use Rattle.mr_watch.specs.declared.finding.Findings.{Findings}

-- before the first look
abbrev pub all_unseen : Findings
all_unseen = record { same = Unseen; empty = Unseen; near = Unseen; forward = Unseen }
