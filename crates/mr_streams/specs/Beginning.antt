-- That streams begin: there is a fresh start for each setup.
use Rattle.std.specs.Prelude.{◌≡◌, ℕ}
use Rattle.std.specs.List.{AllByRecursion}
use Rattle.mr_loop.specs.LoopView.{LoopView}
use Rattle.mr_loop.specs.declared.asker.Limits.{Limits}
use Rattle.mr_world.specs.Setup.{SetupView}
use Rattle.mr_streams.specs.Headline.{Starts}
use Rattle.mr_streams.specs.StreamsView.{StreamsView, NodeEnd}

-- each setup has a fresh start, whatever the limits of the loops, and whatever the nodes bear of unread answers
pub record StartsSo (setup : SetupView) (limits : Limits) (most : ℕ) : Type 0 where
  pub first : StreamsView
  pub starts : Starts setup first
  pub limited : AllByRecursion (λ (loop : LoopView). loop.limits ≡ limits) first.loops
  pub bounded : AllByRecursion (λ (node : NodeEnd). node.loop.most_unread ≡ most) first.nodes

-- so it is of every setup
abbrev pub SetupsStart : Type 0
SetupsStart = (setup : SetupView) (limits : Limits) (most : ℕ) → StartsSo setup limits most
