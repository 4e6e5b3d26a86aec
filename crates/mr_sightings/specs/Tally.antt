-- What is counted of requests, each count as far as 64 bits go.
use Rattle.std.specs.Prelude.{ℕ, Bool, true, false, max, replicate}
use Rattle.mr_counting.specs.Counting.{one_more, sum_of}
use Rattle.mr_counting.specs.LegTimes.{no_times, one_more_at, timed}
use Rattle.mr_counting.specs.Sums.{sums_of, times_sum}
use Rattle.mr_sightings.specs.Outcome.{is_answer}
use Rattle.mr_sightings.specs.Trouble.{place_of}
use Rattle.mr_sightings.specs.declared.outcome.Outcome.{Outcome}
use Rattle.mr_sightings.specs.declared.outcome.Outcome.TheVariants.{Hit, Miss, Stored, Acknowledged, Failed}
use Rattle.mr_sightings.specs.declared.tally.Tally.{Tally}

-- of no request
abbrev pub no_tally : Tally
no_tally = record {
  requests = 0;
  hits = 0;
  misses = 0;
  stored = 0;
  acknowledged = 0;
  troubles = replicate 11 0;
  times = no_times;
  greatest = 0;
}

-- what a request came to is counted
abbrev pub outcome_counted : Outcome → Tally → Tally
outcome_counted Hit tally = record tally { hits = one_more tally.hits }
outcome_counted Miss tally = record tally { misses = one_more tally.misses }
outcome_counted Stored tally = record tally { stored = one_more tally.stored }
outcome_counted Acknowledged tally = record tally { acknowledged = one_more tally.acknowledged }
outcome_counted (Failed trouble) tally = record tally { troubles = one_more_at (place_of trouble) tally.troubles }

-- how long it took is counted, where that was an answer
abbrev pub time_counted : Bool → ℕ → Tally → Tally
time_counted true micros tally = record tally { times = timed micros tally.times; greatest = max tally.greatest micros }
time_counted false micros tally = tally

-- a request came to this after so many microseconds
abbrev pub counted : Outcome → ℕ → Tally → Tally
counted outcome micros tally =
    time_counted (is_answer outcome) micros (outcome_counted outcome (record tally { requests = one_more tally.requests }))

-- what was counted twice, together
abbrev pub tally_sum : Tally → Tally → Tally
tally_sum tally more = record {
  requests = sum_of tally.requests more.requests;
  hits = sum_of tally.hits more.hits;
  misses = sum_of tally.misses more.misses;
  stored = sum_of tally.stored more.stored;
  acknowledged = sum_of tally.acknowledged more.acknowledged;
  troubles = sums_of tally.troubles more.troubles;
  times = times_sum tally.times more.times;
  greatest = max tally.greatest more.greatest;
}
