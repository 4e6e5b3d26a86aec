use Rattle.std.proofs.Common.{Some}
use Rattle.mr_log.specs.Waiting.{IsFirstDue}
use Rattle.mr_log.proofs.WaitingLemmas.{taken_is_log, says_first}
use Rattle.mr_log.proofs.log.Log.take.Goals as goal

pub invariant_of-self : goal.invariant_of-self
invariant_of-self c =
    let first : IsFirstDue c.self.inside.said c.args.now c.self.inside.waiting.items c.in_ok-place.place = rw c.deref.ensures.0 at c.in_ok-place.ensures in
    taken_is_log c.self.inside.waiting.items c.remove-line.new.self.items c.self.inside.said c.in_ok-place.place c.number.result (Some c.args.now)
    c.self.invariant first.within c.remove-line.ensures.items

pub returns : goal.returns
returns c =
    let xs = c.self.inside.waiting.items in
    let first : IsFirstDue c.self.inside.said c.args.now xs c.in_ok-place.place = rw c.deref.ensures.0 at c.in_ok-place.ensures in
    says_first c.args.self.now xs c.remove-line.new.self.items c.self.inside.said c.args.now c.in_ok-place.place c.number.result c.kind.result c.remove-line.result
    c.self.view_is first c.remove-line.ensures.value c.remove-line.ensures.items c.kind.ensures c.number.ensures.number
