-- How far the clocks of proxies are apart, in milliseconds, as far as a look can tell.
use Rattle.std.specs.Prelude.{ℕ, ◌+◌, ◌-◌, ◌*◌, ◌^◌, max, nat_lt, nat_le, List, [], ◌∷◌, ◌++◌, Option, Some, None, option_map, option_to_list}
use Rattle.mr_watch.specs.Finding.{finding_after}
use Rattle.mr_watch.specs.Premises.{reading_of}
use Rattle.mr_watch.specs.declared.finding.Finding.{Finding}
use Rattle.mr_watch.specs.declared.look.ProxySeen.{ProxySeen}
use Rattle.mr_watch.specs.declared.spread.Ahead.{Ahead}
use Rattle.mr_watch.specs.declared.spread.Spread.{Spread}

-- How far a clock is ahead of the watcher's, with 2^64 milliseconds added so that it isn't below zero: it told whole seconds at some
-- moment after it was asked and before its answer was there.
abbrev pub ahead_at : ProxySeen → ℕ → Ahead
ahead_at proxy reading = record {
  low = reading * 1000 + (2 ^ 64 - proxy.answered);
  high = reading * 1000 + 999 + (2 ^ 64 - proxy.asked);
}

-- how far a proxy's clock is ahead, where it told what that says
abbrev pub ahead_of : ProxySeen → Option Ahead
ahead_of proxy = option_map (ahead_at proxy) (reading_of proxy)

-- of all proxies that told what their clocks said
abbrev pub all_ahead : List ProxySeen → List Ahead
all_ahead [] = []
all_ahead (proxy ∷ proxies) = option_to_list (ahead_of proxy) ++ all_ahead proxies

-- how far two clocks are apart at least
abbrev pub apart_at_least : Ahead → Ahead → ℕ
apart_at_least one other = max (one.low - other.high) (other.low - one.high)

-- how far two clocks are apart at most
abbrev pub apart_at_most : Ahead → Ahead → ℕ
apart_at_most one other = max (one.high - other.low) (other.high - one.low)

-- the greatest from one clock to each of the others
abbrev pub greatest_to : (Ahead → Ahead → ℕ) → Ahead → List Ahead → ℕ
greatest_to apart one [] = 0
greatest_to apart one (other ∷ others) = max (apart one other) (greatest_to apart one others)

-- the greatest over all pairs of clocks
abbrev pub greatest_of_pairs : (Ahead → Ahead → ℕ) → List Ahead → ℕ
greatest_of_pairs apart [] = 0
greatest_of_pairs apart (one ∷ others) = max (greatest_to apart one others) (greatest_of_pairs apart others)

-- how far the clocks are apart: nothing where no proxy told a reading, and 0 where one did
abbrev pub spread_in : List Ahead → Option Spread
spread_in [] = None
spread_in (one ∷ others) = Some (record {
  at_least = greatest_of_pairs apart_at_least (one ∷ others);
  at_most = greatest_of_pairs apart_at_most (one ∷ others);
})

-- Clocks near, where they may be so many seconds apart: broken where they are further apart at least, and seen to hold where they are
-- no further apart at most.
abbrev pub near_after : Finding → ℕ → Option Spread → Finding
near_after before interval None = before
near_after before interval (Some spread) = finding_after before (nat_lt (interval * 1000) spread.at_least) (nat_le spread.at_most (interval * 1000))
