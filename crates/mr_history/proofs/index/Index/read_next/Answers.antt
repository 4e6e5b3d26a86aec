use Rattle.std.proofs.Common.{subst}
use Rattle.mr_history.specs.Places.{At}
use Rattle.mr_history.specs.steps.Index.{find_by_key}
use Rattle.mr_history.proofs.Lists.{at_read}
use Rattle.mr_history.proofs.IndexLemmas.{nothing_bounded}
use Rattle.mr_history.proofs.index.Index.read_next.Goals as goal
use Rattle.mr_history.proofs.index.Index.read_next.Goals.{in-Some+in_ok-note_delete, in_default}

pub returns-clause-indexed : goal.returns-clause-indexed
returns-clause-indexed c =
    let there = at_read _ _ _ c.requires.more c.index-self-place.is in
    let known = c.in_ok-note_issue.ensures c.args.self.now.entries.now c.requires.well_formed (subst (At c.args.self.now.entries.now c.args.self.now.read) c.index-self-place.is there) c.requires.indexed.issues in
    elim c.match-acknowledged.branch [
      | in-Some+in_ok-note_delete w ↦ rw (w.self-is) (record {
        issues = known;
        deletes = w.in_ok-note_delete.ensures c.args.self.now.entries.now w.in-Some.ensures c.requires.indexed.deletes;
      })
      | in_default w ↦ rw (w.self-is) (record {
        issues = known;
        deletes = λ key. nothing_bounded c.args.self.now.entries.now c.args.self.now.read w.in_default.ensures key (find_by_key c.args.self.now.deletes key) (c.requires.indexed.deletes key);
      })
    ]
