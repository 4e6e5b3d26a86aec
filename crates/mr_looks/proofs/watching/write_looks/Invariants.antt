use Rattle.std.proofs.Common.{◌≡◌}
use Rattle.mr_looks.proofs.WatchLemmas.{IsUnderway}
use Rattle.mr_looks.specs.Posts.{addresses_of}
use Rattle.mr_looks.specs.Watch.{fleet_of}
use Rattle.mr_looks.proofs.watching.write_looks.Given as goal

-- the looks so far were written, of the services that were named
abbrev pub invariant-loop-number : goal.invariant-loop-number
invariant-loop-number g l = record {
  underway : IsUnderway l.manner l.once (fleet_of l.config l.expected (addresses_of l.fn.posts)) l.posts (g.O.Sink.told l.fn.output) l.findings l.first l.number
      (g.O.Sink.told l.output);
  posts : addresses_of l.posts ≡ addresses_of l.fn.posts;
}
