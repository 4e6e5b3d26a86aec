-- How the clocks are gone through one by one.
use Rattle.std.specs.Prelude.{◌-◌, max, min, List, [], ◌∷◌, Option, Some, None}
use Rattle.mr_watch.specs.Spread.{ahead_of}
use Rattle.mr_watch.specs.declared.look.ProxySeen.{ProxySeen}
use Rattle.mr_watch.specs.declared.spread.Ahead.{Ahead}
use Rattle.mr_watch.specs.declared.spread.ClocksSeen.{ClocksSeen}

-- one clock
abbrev pub first_seen : Ahead → ClocksSeen
first_seen ahead = record {
  least_low = ahead.low;
  greatest_low = ahead.low;
  least_high = ahead.high;
  greatest_high = ahead.high;
  spread = record { at_least = 0; at_most = 0 };
}

-- one clock more
abbrev pub seen_with : ClocksSeen → Ahead → ClocksSeen
seen_with seen ahead = record {
  least_low = min seen.least_low ahead.low;
  greatest_low = max seen.greatest_low ahead.low;
  least_high = min seen.least_high ahead.high;
  greatest_high = max seen.greatest_high ahead.high;
  spread = record {
    at_least = max seen.spread.at_least (max (ahead.low - seen.least_high) (seen.greatest_low - ahead.high));
    at_most = max seen.spread.at_most (max (ahead.high - seen.least_low) (seen.greatest_high - ahead.low));
  };
}

-- one clock after another
abbrev pub next_seen : Option ClocksSeen → Option Ahead → Option ClocksSeen
next_seen seen None = seen
next_seen None (Some ahead) = Some (first_seen ahead)
next_seen (Some seen) (Some ahead) = Some (seen_with seen ahead)

-- the clocks of all these proxies, one after another
abbrev pub walk : Option ClocksSeen → List ProxySeen → Option ClocksSeen
walk seen [] = seen
walk seen (proxy ∷ proxies) = walk (next_seen seen (ahead_of proxy)) proxies
