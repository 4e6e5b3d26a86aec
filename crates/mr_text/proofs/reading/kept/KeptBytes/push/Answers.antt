use Rattle.std.proofs.Common.{◌≡◌, ◌++◌, ◌-◌, ◌+◌, ◌∙◌, ap, take, drop, length, arith, rules}
use Rattle.std.proofs.lemmas.List.{with_items_is, places}
use Rattle.std.proofs.lemmas.Result.{err_from_is_err_and}
use borrow.Rule.Slice.PartMut.{post_of}
use Rattle.mr_text.proofs.Rooms.{appended, cut, grown}
use Rattle.mr_text.proofs.reading.kept.KeptBytes.push.Goals as goal

pub returns-then-piece-len-clause-ok : goal.returns-then-piece-len-clause-ok
returns-then-piece-len-clause-ok c =
    let kept = c.self.inside in
    let room = c.deref_mut.result.now in
    let piece = c.args.piece.now in
    let behind = post_of kept.end (kept.end + length piece - kept.end) room in
    ap (λ items. take (kept.end + length piece - kept.start) (drop kept.start items))
    (with_items_is kept.room (take kept.end room ++ (c.copy_from_slice.new.self ++ behind)) (search (rules, places))
    ∙ ap (λ copied. take kept.end room ++ (copied ++ behind)) c.copy_from_slice.ensures.after)
    ∙ appended room piece behind kept.start kept.end c.self.invariant.0
    (omega (arith, c.self.invariant.1, ap length c.deref_mut.ensures.value))
    ∙ ap (λ kept_bytes. kept_bytes ++ piece)
    (ap (λ items. take (kept.end - kept.start) (drop kept.start items)) c.deref_mut.ensures.value ∙ c.self.view_is ∙ c.move_to_front.ensures ∙ c.make_room.ensures)

pub returns-in_err-extend_from_slice-clause-err : goal.returns-in_err-extend_from_slice-clause-err
returns-in_err-extend_from_slice-clause-err c =
    let kept = c.self.inside in
    let told = c.in_err-extend_from_slice.ensures in
    let failed = err_from_is_err_and c.from_residual-in_err-extend_from_slice.result c.from_residual-in_err-extend_from_slice.ensures.1 in
    rw failed.1 (ap (λ items. take (kept.end - kept.start) (drop kept.start items)) (told.items ∙ c.truncate.ensures.items)
    ∙ cut kept.room.items kept.start kept.end c.self.invariant.0 (omega (arith, c.self.invariant.1))
    ∙ c.self.view_is ∙ c.move_to_front.ensures ∙ c.make_room.ensures)

pub returns-clause-ok : goal.returns-clause-ok
returns-clause-ok c =
    let kept = c.self.inside in
    let told = c.in_ok-extend_from_slice.ensures in
    let grew = told.items ∙ ap (λ front. front ++ c.args.piece.now) c.truncate.ensures.items in
    let room = c.extend_from_slice.new.self.items in
    let count : c.len-self-inside.result ≡ length room = omega (arith, c.len-self-inside.ensures) in
    ap (λ n. take (n - kept.start) (drop kept.start room)) count
    ∙ ap (λ items. take (length items - kept.start) (drop kept.start items)) grew
    ∙ grown kept.room.items c.args.piece.now kept.start kept.end c.self.invariant.0 (omega (arith, c.self.invariant.1))
    ∙ ap (λ kept_bytes. kept_bytes ++ c.args.piece.now) (c.self.view_is ∙ c.move_to_front.ensures ∙ c.make_room.ensures)
