use Rattle.std.proofs.Common.{arith}
use Rattle.mr_proxy.specs.contracts.pending.Pending.{the_view}
use Rattle.mr_proxy.proofs.OpenLemmas.{note_counts}
use Rattle.mr_proxy.proofs.pending.Pending.note.Goals as goal

pub overflow_sub-self : goal.overflow_sub-self
overflow_sub-self c =
    let counted = c.self.invariant.1 in
    let closes =
    note_counts (the_view c.self.inside) c.args.self.now c.args.place c.args.reply c.index_mut-slot.result.now c.self.view_is c.requires
    c.index_mut-slot.ensures.value in
    omega arith

pub invariant_of-self : goal.invariant_of-self
invariant_of-self c =
    let counted = c.self.invariant.1 in
    let closes =
    note_counts (the_view c.self.inside) c.args.self.now c.args.place c.args.reply c.index_mut-slot.result.now c.self.view_is c.requires
    c.index_mut-slot.ensures.value in
    (c.self.invariant.0, omega arith)
