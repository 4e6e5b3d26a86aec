use Rattle.std.proofs.Common.{◌≡◌, ◌||◌, ℕ, List, take}
use Rattle.mr_world.specs.Terms.{is_in, is_among}
use Rattle.mr_world.proofs.terms.add_pool.Given as goal

-- the names so far are added
abbrev pub invariant-loop-name : goal.invariant-loop-name
invariant-loop-name l = (name : List ℕ) → is_among l.names name ≡ (is_among l.initial.names name || is_in (take l.name-index l.name-items) name)
