-- What the hashes of a key are.
use Rattle.std.specs.Prelude.{ℕ, ◌*◌, ◌%◌, ◌^◌, List, sum, fold, bit_xor, codes}
use Rattle.mr_pools.specs.declared.hash.NamedHash.{NamedHash}
use Rattle.mr_pools.specs.declared.hash.NamedHash.TheVariants.{Sum, Fnv}

-- the sum of the bytes, wrapped to 32 bits
abbrev pub sum_of_bytes : List ℕ → ℕ
sum_of_bytes key = sum key % 2 ^ 32

-- where FNV-1a of 32 bits starts
abbrev pub fnv_offset_basis : ℕ
fnv_offset_basis = 2166136261

-- what it multiplies by
abbrev pub fnv_prime : ℕ
fnv_prime = 16777619

-- FNV-1a of 32 bits: each byte is taken in by exclusive-or, and then the hash is multiplied by the prime
-- (from: the published definition of FNV-1a)
abbrev pub fnv1a32_of : List ℕ → ℕ
fnv1a32_of key = fold (λ hash byte. bit_xor hash byte * fnv_prime % 2 ^ 32) fnv_offset_basis key

-- the hash of a key by a named hash
abbrev pub spot_by : NamedHash → List ℕ → ℕ
spot_by Sum key = sum_of_bytes key
spot_by Fnv key = fnv1a32_of key

-- the text that names a hash
abbrev pub name_of_hash : NamedHash → List ℕ
name_of_hash Sum = codes "sum"
name_of_hash Fnv = codes "fnv1a32"
