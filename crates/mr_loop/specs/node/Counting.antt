-- A cache that counts the items that it drops for new ones.
use Rattle.std.specs.Prelude.{◌≡◌, ℕ, Bool, true, false, ◌&&◌, is_none, length, nat_le, if◌then◌else◌}
use Rattle.mr_text.specs.declared.reply.Reply.{Reply}
use Rattle.mr_text.specs.declared.reply.Reply.TheVariants.{Items, Stored, Deleted, NotFound, Error, ClientError, ServerError}
use Rattle.mr_text.specs.declared.request.Request.{Request}
use Rattle.mr_text.specs.declared.request.Request.TheVariants.{Get, Set, Delete, Quit}
use Rattle.mr_node.specs.Expiry.{expiry_of, is_alive}
use Rattle.mr_node.specs.Items.{item_of}
use Rattle.mr_node.specs.Outcome.{OutcomeAt}
use Rattle.mr_node.specs.Recency.{CacheView, RecencyStep}
use Rattle.mr_counting.specs.Counting.{one_more}

-- a cache with how many items went since a new one took their room
pub record CountingView : Type 0 where
  pub cache : CacheView
  pub evicted : ℕ

-- a set that is done drops another item: the cache is full, and the set keeps its own under a key that isn't there
abbrev pub evicts : CacheView → ℕ → Request → Bool
evicts old now (Get keys) = false
evicts old now (Set key flags exptime block noreply) =
    nat_le old.capacity (length old.items) && (is_none (item_of key old.items) && is_alive now (expiry_of now exptime))
evicts old now (Delete key noreply) = false
evicts old now Quit = false

-- it was stored
abbrev pub is_stored : Reply → Bool
is_stored (Items items) = false
is_stored Stored = true
is_stored Deleted = false
is_stored NotFound = false
is_stored Error = false
is_stored (ClientError cause) = false
is_stored (ServerError cause) = false

-- one more item went, if one did
abbrev pub eviction_counted : Bool → ℕ → ℕ
eviction_counted evicted count = if evicted then one_more count else count

-- a request is one step of the cache, and the item that it makes go is counted
pub record CountingStep (old : CountingView) (now : ℕ) (request : Request) (outcome : Reply) (new : CountingView) : Type 0 where
  pub step : OutcomeAt RecencyStep (λ old _ _ new. new ≡ old) old.cache now request outcome new.cache
  pub counted : new.evicted ≡ eviction_counted (evicts old.cache now request && is_stored outcome) old.evicted
