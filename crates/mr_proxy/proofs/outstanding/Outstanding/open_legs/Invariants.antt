use Rattle.std.proofs.Common.{◌≡◌, ◌*◌, ◌^◌, ◌≤◌, take, sum_by, count_by}
use Rattle.mr_proxy.specs.Slots.{is_open}
use Rattle.mr_proxy.proofs.outstanding.Outstanding.open_legs.Given as goal

-- the open legs so far are counted
abbrev pub invariant-loop-place : goal.invariant-loop-place
invariant-loop-place l =
    (l.total ≡ sum_by (λ pending. count_by is_open pending.slots) (take l.place l.self.list)) ×
    (l.total ≤ l.place * 2 ^ 64)
