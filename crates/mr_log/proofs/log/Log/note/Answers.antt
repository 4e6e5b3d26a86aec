use Rattle.std.proofs.Common.{lit<}
use Rattle.mr_log.specs.Waiting.{IsAt, IsNoneOfKind}
use Rattle.mr_log.specs.declared.log.Said.{Said}
use Rattle.mr_log.proofs.WaitingLemmas.{one_more_written, counted_is_log, counts_one_more, begun_is_log, room_for_one}
use Rattle.mr_log.proofs.log.Log.note.Goals as goal

pub invariant_of-self : goal.invariant_of-self
invariant_of-self c =
    let place : IsAt c.kind.result c.self.inside.waiting.items c.in-Some.place = rw c.deref.ensures.0 at c.in-Some.ensures in
    rw (one_more_written c.self.inside.waiting.items _ c.count_one_more.new.lines _ c.in-Some.place c.deref_mut.ensures.value place c.count_one_more.ensures)
    (counted_is_log c.self.inside.waiting.items c.self.inside.said _ c.in-Some.place c.self.invariant place)

pub push-requires : goal.push-requires
push-requires c =
    let none : IsNoneOfKind c.kind.result c.self.inside.waiting.items = rw c.deref.ensures.0 at c.in-None.ensures in
    let line : Said = record { happening = c.args.happening; more = 0 } in
    (lit< tt, room_for_one c.self.inside.waiting.items line c.self.invariant.one_each (rw c.kind.ensures at none))

pub invariant_of-self-in-None : goal.invariant_of-self-in-None
invariant_of-self-in-None c =
    let none : IsNoneOfKind c.kind.result c.self.inside.waiting.items = rw c.deref.ensures.0 at c.in-None.ensures in
    let line : Said = record { happening = c.args.happening; more = 0 } in
    begun_is_log c.self.inside.waiting.items c.push.new.self.items c.self.inside.said line c.self.invariant (rw c.kind.ensures at none) c.push.ensures.items

pub returns-in-Some : goal.returns-in-Some
returns-in-Some c =
    let xs = c.self.inside.waiting.items in
    let place : IsAt c.kind.result xs c.in-Some.place = rw c.deref.ensures.0 at c.in-Some.ensures in
    counts_one_more c.args.self.now xs _ c.self.inside.said c.args.happening c.in-Some.place c.self.view_is (rw c.kind.ensures at place)
    (one_more_written xs _ c.count_one_more.new.lines _ c.in-Some.place c.deref_mut.ensures.value place c.count_one_more.ensures)
