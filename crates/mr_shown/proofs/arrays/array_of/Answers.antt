use Rattle.std.proofs.Common.{sym}
use Rattle.std.proofs.lemmas.List.{map-append, take_all, take_more}
use Rattle.serde_json.proofs.Views.{view-Array}
use Rattle.mr_shown.proofs.arrays.array_of.Goals as goal

pub loop-one-preserved : goal.loop-one-preserved
loop-one-preserved g c = rw (
  c.in_ok-push.ensures.items,
  map-append,
  c.loop-one.invariant,
  c.in_ok-value.ensures,
  take_more c.args.all.now c.loop-one.one-index c.one-item.result c.loop-one-test.true,
  map-append,
  sym c.one-item.is,
)

pub returns : goal.returns
returns g c = rw (view-Array, c.loop-one.invariant, take_all c.loop-one.one-index c.args.all.now c.loop-one-test.false)
