use Rattle.std.proofs.Common.{◌≡◌, ◌∙◌, sym, subst, refl, Some, None, IsSome, take, drop, suc, nat_cmp, Ok, Err}
use Rattle.std.specs.List.Sorted.{IsBinarySearchResult}
use Rattle.std.specs.HashMap.{get}
use Rattle.std.proofs.lemmas.List.Sorted.{searched}
use Rattle.mr_proxy.specs.steps.Outstanding.{is_equal}
use Rattle.mr_proxy.proofs.OutstandingLemmas.{pending_found, remove_none, rise_between, missing, stands, kept_removed, removed, on_some}
use Rattle.mr_proxy.proofs.outstanding.Outstanding.remove.Goals as goal

pub returns-in_err-pending-clause-value : goal.returns-in_err-pending-clause-value
returns-in_err-pending-clause-value c =
    let found = pending_found _ _ (get is_equal c.self.inside.pendings) c.self.inside.numbers.items c.self.invariant c.args.op in
    rw (← c.self.view_is) (c.from_residual.ensures ∙ c.in_err-pending.ensures.value ∙ sym found)

pub returns-in_err-pending-clause-list : goal.returns-in_err-pending-clause-list
returns-in_err-pending-clause-list c =
    let found = pending_found _ _ (get is_equal c.self.inside.pendings) c.self.inside.numbers.items c.self.invariant c.args.op in
    rw (← c.self.view_is, c.in_err-pending.ensures.unchanged)
    (sym (remove_none _ _ (found ∙ sym c.in_err-pending.ensures.value)))

pub unreachable-requires : goal.unreachable-requires
unreachable-requires c =
    let find = get is_equal c.self.inside.pendings in
    let was : find c.args.op ≡ Some c.in_ok-pending.pending = sym c.in_ok-pending.ensures.value in
    let found : IsBinarySearchResult (λ y. nat_cmp y c.args.op.number) c.self.inside.numbers.items (Err c.in_default.field-0) =
    λ d. c.in_default.ensures.position d in
    let at =
    searched c.self.inside.numbers.items c.args.op.number (Err c.in_default.field-0) found (rise_between c.self.inside.numbers.items c.self.invariant.rise) in
    missing c.self.inside.proxy c.self.inside.incarnation find c.self.inside.numbers.items c.self.invariant c.args.op c.in_default.field-0
    (subst IsSome (sym was) refl) at.1 at.2

pub invariant_of-self-2 : goal.invariant_of-self-2
invariant_of-self-2 c =
    let find = get is_equal c.self.inside.pendings in
    let was : find c.args.op ≡ Some c.in_ok-pending.pending = sym c.in_ok-pending.ensures.value in
    let found : IsBinarySearchResult (λ y. nat_cmp y c.args.op.number) c.self.inside.numbers.items (Ok c.in-Ok.place) = λ d. c.in-Ok.ensures.position d in
    let at = searched c.self.inside.numbers.items c.args.op.number (Ok c.in-Ok.place) found (rise_between c.self.inside.numbers.items c.self.invariant.rise) in
    let s =
    stands c.self.inside.proxy c.self.inside.incarnation find c.self.inside.numbers.items c.self.invariant c.args.op c.in_ok-pending.pending was
    c.in-Ok.place at.0 at.1 in
    let gone = on_some _ (c.remove-2.ensures.variant.1 c.in-Ok.ensures.bound) c.remove-2.ensures.items in
    rw gone
    (kept_removed c.self.inside.proxy c.self.inside.incarnation find c.self.inside.numbers.items c.args.op c.in_ok-pending.pending
    (take c.in-Ok.place c.self.inside.numbers.items) (drop (suc c.in-Ok.place) c.self.inside.numbers.items) s (get is_equal c.remove.new.self) None
    c.remove.ensures.updates.0 refl c.self.invariant)

pub returns-clause-value : goal.returns-clause-value
returns-clause-value c =
    let found = pending_found _ _ (get is_equal c.self.inside.pendings) c.self.inside.numbers.items c.self.invariant c.args.op in
    rw (← c.self.view_is) (c.in_ok-pending.ensures.value ∙ sym found)

pub returns-clause-list : goal.returns-clause-list
returns-clause-list c =
    let find = get is_equal c.self.inside.pendings in
    let was : find c.args.op ≡ Some c.in_ok-pending.pending = sym c.in_ok-pending.ensures.value in
    let found : IsBinarySearchResult (λ y. nat_cmp y c.args.op.number) c.self.inside.numbers.items (Ok c.in-Ok.place) = λ d. c.in-Ok.ensures.position d in
    let at = searched c.self.inside.numbers.items c.args.op.number (Ok c.in-Ok.place) found (rise_between c.self.inside.numbers.items c.self.invariant.rise) in
    let s =
    stands c.self.inside.proxy c.self.inside.incarnation find c.self.inside.numbers.items c.self.invariant c.args.op c.in_ok-pending.pending was
    c.in-Ok.place at.0 at.1 in
    let gone = on_some _ (c.remove-2.ensures.variant.1 c.in-Ok.ensures.bound) c.remove-2.ensures.items in
    rw (← c.self.view_is, gone)
    (removed c.self.inside.proxy c.self.inside.incarnation find c.self.inside.numbers.items c.args.op c.in_ok-pending.pending
    (take c.in-Ok.place c.self.inside.numbers.items) (drop (suc c.in-Ok.place) c.self.inside.numbers.items) s (get is_equal c.remove.new.self) None
    c.remove.ensures.updates.0 refl)
