-- What a proxy keeps.
use Rattle.std.specs.Prelude.{◌≡◌, ℕ, List, [], Option, None, slice_get}
use Rattle.std.specs.Option.{option_map}
use Rattle.mr_history.specs.declared.op_id.OpId.{OpId}
use Rattle.mr_phases.specs.Schedule.{Hop}
use Rattle.mr_pools.specs.Routing.{RoutingView}
use Rattle.mr_proxy.specs.Pending.{PendingView}

-- a proxy: which it is, what is under way at it, and by which routing and schedule it sends
pub record ProxyView : Type 0 where
  pub number : ℕ
  pub incarnation : ℕ
  -- the number of the next request
  pub next : ℕ
  -- the reading by which the last request was judged
  pub last : Option ℕ
  -- the requests under way, in order of issue
  pub outstanding : List PendingView
  pub routing : RoutingView
  pub schedule : List Hop
  -- the most requests under way
  pub room : ℕ

-- a proxy that accepted no request yet
abbrev pub fresh_proxy : ℕ → ℕ → RoutingView → List Hop → ℕ → ProxyView
fresh_proxy number incarnation routing schedule room =
    record { number = number; incarnation = incarnation; next = 0; last = None; outstanding = []; routing = routing; schedule = schedule; room = room }

-- the fresh proxy of the same number, incarnation, routing, schedule and room
abbrev pub opening_of : ProxyView → ProxyView
opening_of p = fresh_proxy p.number p.incarnation p.routing p.schedule p.room

-- the name of the request under way that was issued first
abbrev pub oldest_of : ProxyView → Option OpId
oldest_of p = option_map (λ pending. pending.op) (slice_get p.outstanding 0)

-- nothing under way, no last reading, and no number given out
pub record IsFresh (p : ProxyView) : Type 0 where
  pub nothing_outstanding : p.outstanding ≡ []
  pub no_reading : p.last ≡ None
  pub no_number : p.next ≡ 0

-- the same number, incarnation, routing, schedule and room, whatever is under way
pub record AreAlike (p q : ProxyView) : Type 0 where
  pub number : p.number ≡ q.number
  pub incarnation : p.incarnation ≡ q.incarnation
  pub routing : p.routing ≡ q.routing
  pub schedule : p.schedule ≡ q.schedule
  pub room : p.room ≡ q.room
