-- What a look says of three of the premises: one configuration, an empty new pool, no clock that went back.
use Rattle.std.specs.Prelude.{ℕ, zero, suc, ◌+◌, ◌==◌, ◌&&◌, ◌||◌, not, nat_lt, Bool, true, false, List, length, Option, Some, None, is_some, option_and_then}
use Rattle.std.specs.List.{list_any}
use Rattle.std.specs.Str.{bytes_eq}
use Rattle.mr_phases.specs.Schedule.{Hop, start_at}
use Rattle.mr_watch.specs.Finding.{finding_after}
use Rattle.mr_watch.specs.declared.finding.Finding.{Finding}
use Rattle.mr_watch.specs.declared.look.NodeSeen.{NodeSeen}
use Rattle.mr_watch.specs.declared.look.ProxySeen.{ProxySeen}
use Rattle.mr_watch.specs.declared.told.ProxyTold.{ProxyTold}

-- the proxy answered
abbrev pub has_told : ProxySeen → Bool
has_told proxy = is_some proxy.told

-- what its clock said, where it answered and told that
abbrev pub reading_of : ProxySeen → Option ℕ
reading_of proxy = option_and_then (λ (told : ProxyTold). told.clock) proxy.told

-- it told another digest than this one
abbrev pub is_other_digest : List ℕ → Option ProxyTold → Bool
is_other_digest expected None = false
is_other_digest expected (Some told) = not (bytes_eq told.digest.now expected)

-- the proxy told another digest than this one
abbrev pub tells_other : List ℕ → ProxySeen → Bool
tells_other expected proxy = is_other_digest expected proxy.told

-- one configuration: broken where a proxy tells another digest, and seen to hold where one answered and none does
abbrev pub same_after : Finding → List ℕ → List ProxySeen → Finding
same_after before expected proxies = finding_after before (list_any (tells_other expected) proxies) (list_any has_told proxies)

-- a reading below one that was told before
abbrev pub is_below : Option ℕ → Option ℕ → Bool
is_below None earlier = false
is_below (Some reading) None = false
is_below (Some reading) (Some earlier) = nat_lt reading earlier

-- the same address told a later reading before
abbrev pub is_behind : ProxySeen → ProxySeen → Bool
is_behind proxy earlier = bytes_eq proxy.address.now earlier.address.now && is_below (reading_of proxy) (reading_of earlier)

-- it told that its clock gave a reading before the one that it gave last
abbrev pub has_steps_back : Option ProxyTold → Bool
has_steps_back None = false
has_steps_back (Some told) = nat_lt 0 told.steps_back

-- its clock went back, by what it tells or since the look before
abbrev pub went_back : List ProxySeen → ProxySeen → Bool
went_back earlier proxy = has_steps_back proxy.told || list_any (is_behind proxy) earlier

-- no clock went back: broken where one did, and seen to hold where a proxy answered and none did
abbrev pub forward_after : Finding → List ProxySeen → List ProxySeen → Finding
forward_after before earlier proxies = finding_after before (list_any (went_back earlier) proxies) (list_any has_told proxies)

-- a reading that isn't before a second: also none
abbrev pub is_from : ℕ → Option ℕ → Bool
is_from start None = true
is_from start (Some reading) = not (nat_lt reading start)

-- the proxy answered, and its clock may have reached the second
abbrev pub may_have_begun : ℕ → ProxySeen → Bool
may_have_begun start proxy = has_told proxy && is_from start (reading_of proxy)

-- a proxy answered, and each that did is before the second
abbrev pub are_before : ℕ → List ProxySeen → Bool
are_before start proxies = list_any has_told proxies && not (list_any (may_have_begun start) proxies)

-- items were seen
abbrev pub some_items : Option ℕ → Bool
some_items None = false
some_items (Some items) = nat_lt 0 items

-- it was seen that there are none
abbrev pub no_items : Option ℕ → Bool
no_items None = false
no_items (Some items) = items == 0

-- the node is in the pool
abbrev pub is_in : ℕ → NodeSeen → Bool
is_in pool node = node.pool == pool

-- it is in the pool, and holds items
abbrev pub is_filled : ℕ → NodeSeen → Bool
is_filled pool node = is_in pool node && some_items node.items

-- it is in the pool, and wasn't seen to hold none
abbrev pub may_be_filled : ℕ → NodeSeen → Bool
may_be_filled pool node = is_in pool node && not (no_items node.items)

-- the pool has nodes, and each was seen to hold none
abbrev pub is_empty_pool : ℕ → List NodeSeen → Bool
is_empty_pool pool nodes = list_any (is_in pool) nodes && not (list_any (may_be_filled pool) nodes)

-- of the hop of this number: its new pool holds items, though each proxy that answered is before its start
abbrev pub was_filled : List Hop → List ProxySeen → List NodeSeen → ℕ → Bool
was_filled hops proxies nodes hop = are_before (start_at hops hop) proxies && list_any (is_filled (hop + 1)) nodes

-- of the hop of this number: its new pool is empty, and each proxy that answered is before its start
abbrev pub was_empty : List Hop → List ProxySeen → List NodeSeen → ℕ → Bool
was_empty hops proxies nodes hop = are_before (start_at hops hop) proxies && is_empty_pool (hop + 1) nodes

-- it is so for some number below this one
abbrev pub any_below : (ℕ → Bool) → ℕ → Bool
any_below test zero = false
any_below test (suc count) = any_below test count || test count

-- each new pool is empty when its migration begins: broken where one is filled before, and seen to hold where one is empty then
abbrev pub empty_after : Finding → List Hop → List ProxySeen → List NodeSeen → Finding
empty_after before hops proxies nodes =
    finding_after before (any_below (was_filled hops proxies nodes) (length hops)) (any_below (was_empty hops proxies nodes) (length hops))
