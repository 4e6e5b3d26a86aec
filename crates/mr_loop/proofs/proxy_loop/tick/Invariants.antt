use Rattle.std.proofs.Common.{◌≡◌, ◌++◌, take, drop, map}
use Rattle.mr_loop.specs.Events.{after_all}
use Rattle.mr_loop.specs.Ticking.{ticked, ticks}
use Rattle.mr_loop.proofs.proxy_loop.tick.Given as goal

-- the links so far have ticked
abbrev pub invariant-loop-number : goal.invariant-loop-number
invariant-loop-number l = record {
  links : l.links ≡ map (ticked l.bound l.now) (take l.number l.fn.links) ++ drop l.number l.fn.links;
  front : l.front ≡ after_all (ticks l.bound l.now (take l.number l.fn.links)) l.fn.front;
}
