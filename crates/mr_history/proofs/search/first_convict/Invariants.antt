use Rattle.mr_history.specs.steps.Tests.{NoConvict}
use Rattle.mr_history.proofs.search.first_convict.Given as goal

-- none so far
abbrev pub invariant-loop-entry : goal.invariant-loop-entry
invariant-loop-entry l = NoConvict l.entries l.key l.entry-index
