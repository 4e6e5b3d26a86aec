use Rattle.std.proofs.Common.{◌≡◌, ◌+◌, ◌^◌, ◌<◌, ◌≤◌, ◌++◌, List, length}
use Rattle.mr_proxy.specs.declared.sheet.LegSheet.{LegSheet}
use Rattle.mr_sessions.proofs.carrying.send_all.Given as goal

-- the legs so far were sent, and as many as all are out or still to be sent
abbrev pub invariant-loop-leg : goal.invariant-loop-leg
invariant-loop-leg g l = record {
  can_next : (goal.iterator-loop-leg g).can_next l.leg-iterator;
  is_finite : (goal.iterator-loop-leg g).is_finite l.leg-iterator;
  few : length l.fn.legs.items < 2 ^ 64;
  out : length l.fn.legs.items ≤ l.legs_out + length l.leg-iterator.rest.items;
  front : List LegSheet;
  splits : l.fn.legs.items ≡ front ++ l.leg-iterator.rest.items;
  sent : g.L.Carriers.told l.carriers ≡ record (g.L.Carriers.told l.initial.carriers) { sent = (g.L.Carriers.told l.initial.carriers).sent ++ front };
}
