use Rattle.std.proofs.Common.{◌≡◌, ◌∙◌, sym, ap, subst, refl, Some, IsSome, slice_set}
use Rattle.std.specs.HashMap.{get}
use Rattle.mr_proxy.specs.Pending.{PendingView}
use Rattle.mr_proxy.specs.Transitions.{place_of_op}
use Rattle.mr_proxy.specs.steps.Outstanding.{is_equal, listed}
use Rattle.mr_proxy.proofs.OutstandingLemmas.{pending_found, spot, stands, noted, kept_noted}
use Rattle.mr_proxy.proofs.SettleLemmas.{noted_op, written_is}
use Rattle.mr_history.specs.declared.op_id.OpId.{OpId}
use Rattle.mr_proxy.proofs.outstanding.Outstanding.note.Goals as goal
use Rattle.mr_proxy.proofs.outstanding.Outstanding.note.Goals.{in-Some, in-None}

pub invariant_of-self : goal.invariant_of-self
invariant_of-self c =
    elim c.match-get_mut.branch [
      | in-Some w ↦
          let find = get is_equal c.self.inside.pendings in
          let pending = w.in-Some.pending.now in
          let new = w.take.new.self in
          let was : find c.args.id.op ≡ Some pending = sym w.in-Some.ensures.value in
          let some : IsSome (find c.args.id.op) = subst IsSome (sym was) refl in
          let (k, below, own) = spot _ _ find c.self.inside.numbers.items c.self.invariant c.args.id.op some in
          let s =
          stands _ _ find c.self.inside.numbers.items c.self.invariant c.args.id.op pending was k below (ap (λ (o : OpId). o.number) own) in
          let same : new.op ≡ c.args.id.op =
          ap (λ (x : PendingView). x.op) w.take.ensures.state ∙ noted_op pending c.args.id.place c.args.reply ∙ s.named in
          let changes = (((c.get_mut.follows.holds new).3) some).0 in
          rw (w.self-inside-is)
          (kept_noted _ _ find c.self.inside.numbers.items c.args.id.op pending _ _ s _ (Some new) changes new refl same c.self.invariant)
      | in-None w ↦ rw (w.self-inside-is, c.get_mut.follows.holds-at-none) c.self.invariant
    ]

pub returns-clause-noted : goal.returns-clause-noted
returns-clause-noted c =
    elim c.match-get_mut.branch [
      | in-Some w ↦
          let found = pending_found _ _ (get is_equal c.self.inside.pendings) c.self.inside.numbers.items c.self.invariant c.args.id.op in
          rw (← c.self.view_is, w.result-is, found, ← w.in-Some.ensures.value) w.take.ensures.noted
      | in-None w ↦
          let found = pending_found _ _ (get is_equal c.self.inside.pendings) c.self.inside.numbers.items c.self.invariant c.args.id.op in
          rw (← c.self.view_is, w.result-is, found, ← w.in-None.ensures.value) refl
    ]

pub returns-clause-list : goal.returns-clause-list
returns-clause-list c =
    elim c.match-get_mut.branch [
      | in-Some w ↦
          let find = get is_equal c.self.inside.pendings in
          let pending = w.in-Some.pending.now in
          let new = w.take.new.self in
          let was : find c.args.id.op ≡ Some pending = sym w.in-Some.ensures.value in
          let some : IsSome (find c.args.id.op) = subst IsSome (sym was) refl in
          let (k, below, own) = spot _ _ find c.self.inside.numbers.items c.self.invariant c.args.id.op some in
          let s =
          stands _ _ find c.self.inside.numbers.items c.self.invariant c.args.id.op pending was k below (ap (λ (o : OpId). o.number) own) in
          let changes = (((c.get_mut.follows.holds new).3) some).0 in
          let found = pending_found _ _ find c.self.inside.numbers.items c.self.invariant c.args.id.op ∙ was in
          let written =
          noted _ _ find c.self.inside.numbers.items c.args.id.op pending _ _ s _ (Some new) changes new refl in
          rw (← c.self.view_is, w.self-inside-is)
          (written
          ∙ ap (slice_set (listed find c.self.inside.proxy c.self.inside.incarnation c.self.inside.numbers.items)
          (place_of_op (listed find c.self.inside.proxy c.self.inside.incarnation c.self.inside.numbers.items) c.args.id.op)) w.take.ensures.state
          ∙ written_is (listed find c.self.inside.proxy c.self.inside.incarnation c.self.inside.numbers.items) c.args.id pending c.args.reply found)
      | in-None w ↦
          let found = pending_found _ _ (get is_equal c.self.inside.pendings) c.self.inside.numbers.items c.self.invariant c.args.id.op in
          rw (← c.self.view_is, w.self-inside-is, c.get_mut.follows.holds-at-none, found, ← w.in-None.ensures.value) refl
    ]
