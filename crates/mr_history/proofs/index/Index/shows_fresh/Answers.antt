use Rattle.mr_history.proofs.IndexLemmas.{shown_fresh}
use Rattle.mr_history.proofs.index.Index.shows_fresh.Goals as goal

pub returns-in-Some : goal.returns-in-Some
returns-in-Some c =
    shown_fresh _ _ _ _ c.in-Some.stored c.latest_delete.result c.in-Some.ensures.1 c.in-Some.ensures.0
    (c.latest_delete.ensures c.args.self.now.entries.now c.args.self.now.read c.requires.indexed.deletes c.requires.issued) c.if-latest_delete-stored.true
