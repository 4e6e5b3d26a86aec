-- What lists of seeds stand for that only contracts see.
use Rattle.std.specs.Prelude.{List, [], ◌∷◌, ◌++◌}
use Rattle.std.specs.declared.random_state.RandomState.{RandomState}
use Rattle.mr_servers.specs.declared.seeds.Seeds.{Seeds, Nothing, And'}

-- the seeds, in the order in which they were drawn
abbrev pub seeds_of : Seeds → List RandomState
seeds_of Nothing = []
seeds_of (And' marker before seed) = seeds_of before ++ seed.value ∷ []
