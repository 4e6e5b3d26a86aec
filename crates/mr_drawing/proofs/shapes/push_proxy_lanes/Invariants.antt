use Rattle.std.proofs.Common.{◌≡◌, ◌++◌, drop}
use Rattle.mr_drawing.specs.Shapes.{proxy_lanes}
use Rattle.mr_drawing.proofs.shapes.push_proxy_lanes.Given as goal

-- the lanes so far and those that are left are all
abbrev pub invariant-loop-number : goal.invariant-loop-number
invariant-loop-number l =
    l.shapes.items ++ proxy_lanes l.steps l.number (drop l.number l.proxies)
    ≡ l.initial.shapes.items ++ proxy_lanes l.steps 0 l.proxies
