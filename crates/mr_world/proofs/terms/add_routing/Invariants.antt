use Rattle.std.proofs.Common.{◌≡◌, ◌||◌, ℕ, List, take}
use Rattle.std.specs.List.{list_any}
use Rattle.mr_world.specs.Terms.{is_in, is_among}
use Rattle.mr_world.proofs.terms.add_routing.Given as goal

-- the names of the pools so far are added
abbrev pub invariant-loop-pool : goal.invariant-loop-pool
invariant-loop-pool l = (name : List ℕ) → is_among l.names name ≡ (is_among l.initial.names name || list_any (λ pool. is_in pool name) (take l.pool-index l.later))
