use Rattle.std.proofs.Common.{◌≡◌, ◌<◌, ◌∙◌, ap, arith, length}
use Rattle.std.proofs.lemmas.List.{get_or_default}
use Rattle.std.proofs.lemmas.List.Edits.{map_over_more}
use Rattle.mr_canary.specs.steps.Watched.{WatchedView, marked}
use Rattle.mr_canary.proofs.watched.Watched.mark.Goals as goal

pub loop-kept-preserved : goal.loop-kept-preserved
loop-kept-preserved c =
    let items = c.loop-kept.kept-items in
    let i = c.loop-kept.kept-index in
    let same : c.deref_mut-kept-items.result.now ≡ c.args.self.now.kept = c.deref_mut-kept-items.ensures.value ∙ ap (λ (w : WatchedView). w.kept) c.self.view_is in
    let long : length c.deref_mut-kept-items.result.now ≡ length c.args.self.now.kept = ap length same in
    let kept_long : length items ≡ length c.deref_mut-kept-items.result.now = c.loop-kept.auto.kept-items in
    let within : i < length c.args.self.now.kept = (let l = c.loop-kept-test.true in omega arith) in
    let inside : i < length items = (let l = c.loop-kept-test.true in omega arith) in
    rw c.marked.ensures (map_over_more (marked c.args.value c.args.place) c.args.self.now.kept items i _ within c.loop-kept.invariant (get_or_default items i _ _ inside))
