mod StandingLemmas
mod SumLemmas
