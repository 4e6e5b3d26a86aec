-- What a proxy did since the look before.
use Rattle.std.specs.Prelude.{ℕ, ◌-◌, ◌*◌, ◌^◌, ◌/◌, ◌&&◌, max, min, is_some, Bool, List, Option, Some, None, find}
use Rattle.std.specs.Str.{bytes_eq}
use Rattle.mr_watch.specs.declared.look.ProxySeen.{ProxySeen}
use Rattle.mr_watch.specs.declared.told.ProxyTold.{ProxyTold}

-- the same address, which answered
abbrev pub is_same_told : ProxySeen → ProxySeen → Bool
is_same_told proxy earlier = bytes_eq earlier.address.now proxy.address.now && is_some earlier.told

-- requests in a second, where so many were made in so many milliseconds; no more than 64 bits count
abbrev pub rate_at : ℕ → ℕ → ℕ
rate_at requests milliseconds = min (requests * 1000 / max milliseconds 1) (2 ^ 64 - 1)

-- what it had issued, where it answered
abbrev pub requests_of : Option ProxyTold → Option ℕ
requests_of None = None
requests_of (Some told) = Some told.traffic.requests

-- requests in a second between two answers
abbrev pub rate_between : ℕ → ℕ → Option ℕ → Option ℕ → Option ℕ
rate_between answered earlier_answered None earlier = None
rate_between answered earlier_answered (Some requests) None = None
rate_between answered earlier_answered (Some requests) (Some earlier) = Some (rate_at (requests - earlier) (answered - earlier_answered))

-- requests in a second since an earlier answer, if there was one
abbrev pub rate_since : ProxySeen → Option ProxySeen → Option ℕ
rate_since proxy None = None
rate_since proxy (Some earlier) = rate_between proxy.answered earlier.answered (requests_of proxy.told) (requests_of earlier.told)

-- requests in a second since the look before, where the same address answered then
abbrev pub rate_of : List ProxySeen → ProxySeen → Option ℕ
rate_of earlier proxy = rate_since proxy (find (is_same_told proxy) earlier)
