use Rattle.std.proofs.Common.{◌∙◌, sym, ap, arith}
use Rattle.std.specs.Option.{option_copied}
use Rattle.mr_proxy.proofs.OpenLemmas.{counted, nothing_there}
use Rattle.mr_proxy.proofs.outstanding.Outstanding.open_legs.Goals as goal
use Rattle.mr_proxy.proofs.outstanding.Outstanding.open_legs.Goals.{in-Some, in_default}

pub loop-place-preserved : goal.loop-place-preserved
loop-place-preserved c =
    let so_far = c.loop-place.invariant.0 in
    let bound = c.loop-place.invariant.1 in
    elim c.match-at.branch [
      | in-Some w ↦
          let more = counted c.args.self.now.list c.loop-place.place w.in-Some.pending.now (sym w.in-Some.ensures) in
          let opened = w.open_legs.ensures in
          let few = w.open_legs.type_inv in
          let total = w.total-is in
          ((omega arith), (omega arith))
      | in_default w ↦
          let none = sym c.at.ensures ∙ ap option_copied w.in_default.is in
          let past = nothing_there c.args.self.now.list c.loop-place.place none in
          let count = c.len-place-end.ensures in
          let below = c.loop-place-test.true in
          absurd (omega arith)
    ]
