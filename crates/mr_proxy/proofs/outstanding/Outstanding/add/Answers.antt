use Rattle.std.proofs.Common.{◌≡◌, ◌<◌, ◌≤◌, ◌++◌, [], ◌∷◌, cond, sym, subst, arith, Some, All}
use Rattle.std.specs.HashMap.{get, spare}
use Rattle.std.proofs.lemmas.List.Elements.{recursion_from_All}
use Rattle.mr_history.specs.declared.op_id.OpId.{OpId}
use Rattle.mr_proxy.specs.steps.Outstanding.{is_equal, named}
use Rattle.mr_proxy.proofs.OutstandingLemmas.{on_ok, earlier, kept_pushed, pushed}
use Rattle.mr_proxy.proofs.outstanding.Outstanding.add.Goals as goal

pub invariant_of-self : goal.invariant_of-self
invariant_of-self c =
    let room : 0 < spare c.self.inside.pendings = (let r = subst (λ v. 1 ≤ v.spare) (sym c.self.view_is) c.requires.room in omega arith) in
    let changed = (on_ok _ (c.insert.ensures.succeeds room) c.insert.ensures.updates).0 in
    let changes =
    subst (λ (op : OpId). (q : OpId) → get is_equal c.insert.new.self q ≡ cond (is_equal op q) (Some c.args.pending) (get is_equal c.self.inside.pendings q))
    c.op-op.ensures changed in
    let own = subst (λ v. c.args.pending.op ≡ named v.proxy v.incarnation c.args.pending.op.number) (sym c.self.view_is) c.requires.name in
    let listed_below = subst (λ v. All (λ earlier. earlier.op.number < c.args.pending.op.number) v.list) (sym c.self.view_is) c.requires.later in
    let below =
    earlier c.self.inside.proxy c.self.inside.incarnation (get is_equal c.self.inside.pendings) c.args.pending.op.number c.self.inside.numbers.items
    c.self.invariant.found (recursion_from_All _ _ listed_below) in
    let items : c.push_back_reserved.new.self.items ≡ c.self.inside.numbers.items ++ c.args.pending.op.number ∷ [] =
    subst (λ (op : OpId). c.push_back_reserved.new.self.items ≡ c.self.inside.numbers.items ++ op.number ∷ []) c.op-op.ensures
    c.push_back_reserved.ensures.items in
    rw items
    (kept_pushed c.self.inside.proxy c.self.inside.incarnation (get is_equal c.self.inside.pendings) (get is_equal c.insert.new.self)
    c.self.inside.numbers.items c.args.pending changes own below c.self.invariant)

pub returns-clause-list : goal.returns-clause-list
returns-clause-list c =
    let room : 0 < spare c.self.inside.pendings = (let r = subst (λ v. 1 ≤ v.spare) (sym c.self.view_is) c.requires.room in omega arith) in
    let changed = (on_ok _ (c.insert.ensures.succeeds room) c.insert.ensures.updates).0 in
    let changes =
    subst (λ (op : OpId). (q : OpId) → get is_equal c.insert.new.self q ≡ cond (is_equal op q) (Some c.args.pending) (get is_equal c.self.inside.pendings q))
    c.op-op.ensures changed in
    let own = subst (λ v. c.args.pending.op ≡ named v.proxy v.incarnation c.args.pending.op.number) (sym c.self.view_is) c.requires.name in
    let listed_below = subst (λ v. All (λ earlier. earlier.op.number < c.args.pending.op.number) v.list) (sym c.self.view_is) c.requires.later in
    let below =
    earlier c.self.inside.proxy c.self.inside.incarnation (get is_equal c.self.inside.pendings) c.args.pending.op.number c.self.inside.numbers.items
    c.self.invariant.found (recursion_from_All _ _ listed_below) in
    let items : c.push_back_reserved.new.self.items ≡ c.self.inside.numbers.items ++ c.args.pending.op.number ∷ [] =
    subst (λ (op : OpId). c.push_back_reserved.new.self.items ≡ c.self.inside.numbers.items ++ op.number ∷ []) c.op-op.ensures
    c.push_back_reserved.ensures.items in
    rw (← c.self.view_is, items)
    (pushed c.self.inside.proxy c.self.inside.incarnation (get is_equal c.self.inside.pendings) (get is_equal c.insert.new.self)
    c.self.inside.numbers.items c.args.pending changes own below)
