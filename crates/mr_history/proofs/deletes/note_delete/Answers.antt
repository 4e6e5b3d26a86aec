use Rattle.std.proofs.Common.{◌∙◌, Some, ap, sym, subst}
use Rattle.std.proofs.lemmas.Map.Text.{btree_map_updates_str}
use Rattle.mr_history.specs.steps.Index.{AreBounds, BoundsDeletes, find_by_key}
use Rattle.mr_history.proofs.IndexLemmas.{noted, put_back}
use Rattle.mr_history.proofs.deletes.note_delete.Goals as goal
use Rattle.mr_history.proofs.deletes.note_delete.Goals.{in-Some, in-None}

pub returns : goal.returns
returns c history only bounded key =
    let found = ap (find_by_key c.args.deletes.now) (sym c.as_bytes.ensures.bytes) ∙ sym c.remove.ensures.value in
    let kept : AreBounds history c.args.key.now c.args.place c.match-remove.of_key = elim c.match-remove.branch [
      | in-Some w ↦ subst (BoundsDeletes history c.args.key.now c.args.place) (found ∙ w.in-Some.is ∙ ap Some (sym w.of_key-is)) (bounded c.args.key.now)
      | in-None w ↦ subst (AreBounds history c.args.key.now c.args.place) (sym w.of_key-is)
          (w.new-of_key.ensures history c.args.key.now c.args.place (subst (BoundsDeletes history c.args.key.now c.args.place) (found ∙ w.in-None.is) (bounded c.args.key.now)))
    ] in
    let taken = btree_map_updates_str c.as_bytes.result.now c.args.deletes.now c.remove.new.self _ c.remove.ensures.updates key in
    let put = btree_map_updates_str c.as_bytes-2.result.now c.remove.new.self c.insert.new.self _ c.in_ok-insert.ensures.updates key in
    noted (find_by_key c.args.deletes.now) (find_by_key c.insert.new.self) history c.args.key.now c.args.start c.args.place _ only bounded (c.in_ok-add.ensures history _ only kept) key
    (put_back _ _ _ _ key (find_by_key c.args.deletes.now) (find_by_key c.remove.new.self) (find_by_key c.insert.new.self) c.as_bytes.ensures.bytes c.as_bytes-2.ensures.bytes taken put)
