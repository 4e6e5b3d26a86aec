-- How keys are hashed.
use Rattle.std.specs.RandomState.{initial_hasher}
use Rattle.std.specs.Hash.DefaultHasher.{initial}
use Rattle.std.specs.declared.hash.DefaultHasher.{DefaultHasher}
use Rattle.mr_node.specs.declared.key_hashing.KeyHashing.{KeyHashing}
use Rattle.mr_node.specs.declared.key_hashing.KeyHashing.TheVariants.{Fixed, Seeded}

-- the hasher of a key before the first byte: that of no seed, or that of the seed
abbrev pub hasher_of : KeyHashing → DefaultHasher
hasher_of Fixed = initial
hasher_of (Seeded state) = initial_hasher state
