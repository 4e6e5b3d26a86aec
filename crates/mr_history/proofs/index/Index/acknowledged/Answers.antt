use Rattle.std.proofs.Common.{subst}
use Rattle.mr_history.specs.Places.{At}
use Rattle.mr_history.proofs.IndexLemmas.{acknowledged_told}
use Rattle.mr_history.proofs.index.Index.acknowledged.Goals as goal

pub delete_of-requires-clause-issued : goal.delete_of-requires-clause-issued
delete_of-requires-clause-issued c =
    (c.requires.well_formed.fits _ _ (subst (λ e. At c.args.self.now.entries.now c.args.self.now.read e) c.in-Answered.is c.requires.next)).0

pub returns-in-Answered : goal.returns-in-Answered
returns-in-Answered c =
    acknowledged_told _ _ _ _ c.requires.well_formed (subst (λ e. At c.args.self.now.entries.now c.args.self.now.read e) c.in-Answered.is c.requires.next) _ c.delete_of.ensures
