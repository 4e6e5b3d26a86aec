-- What a request comes to at a cache that others ask too, and what is known of such a cache.
use Rattle.std.specs.Prelude.{ℕ, length}
use Rattle.mr_text.specs.declared.reply.Reply.{Reply}
use Rattle.mr_text.specs.declared.request.Request.{Request}
use Rattle.mr_loop.specs.node.Counting.{CountingStep, CountingView}
use Rattle.mr_driver.specs.declared.shared_cache.CacheLook.{CacheLook}

-- it is one step of the cache, at one reading, from whatever the others have left to whatever they find next
abbrev pub IsOneStep : ℕ → Request → Reply → Type 0
IsOneStep now request outcome = (before : CountingView) × (after : CountingView) × CountingStep before now request outcome after

-- what is known of it at a moment
abbrev pub look_of : CountingView → CacheLook
look_of c = record { items = length c.cache.items; capacity = c.cache.capacity; evicted = c.evicted }
