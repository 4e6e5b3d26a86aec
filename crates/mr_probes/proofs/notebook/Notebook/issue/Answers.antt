use Rattle.std.proofs.Common.{refl}
use Rattle.mr_canary.specs.declared.note.Asked.TheVariants as asks
use Rattle.mr_probes.proofs.NotebookLemmas.{issued_or_not}
use Rattle.mr_probes.proofs.notebook.Notebook.issue.Goals as goal

pub invariant_of-self : goal.invariant_of-self
invariant_of-self c =
    issued_or_not c.self.inside c.issue_get.new.self c.args.client c.args.now c.args.wish.key asks.Get c.issue_get.result c.issue_get.ensures.issued c.issue_get.ensures.verdicts refl c.self.invariant

pub invariant_of-self-in-Delete : goal.invariant_of-self-in-Delete
invariant_of-self-in-Delete c =
    issued_or_not c.self-in-Delete.inside c.issue_delete.new.self c.args.client c.args.now c.args.wish.key asks.Delete c.issue_delete.result c.issue_delete.ensures.issued c.issue_delete.ensures.verdicts refl c.self-in-Delete.invariant
