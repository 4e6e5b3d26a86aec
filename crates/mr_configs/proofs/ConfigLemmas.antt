-- The hash of a name is the one that the name is given back by.
use Rattle.std.specs.Prelude.{◌≡◌, ◌≢◌, List, ℕ, Ok, Err}
use Rattle.std.proofs.Common.{refl, rules}
use Rattle.std.proofs.lemmas.Slice.Eq.{bytes_eq-Decides}
use Rattle.mr_pools.specs.Hash.{name_of_hash}
use Rattle.mr_pools.specs.declared.hash.NamedHash.{NamedHash}
use Rattle.mr_pools.specs.declared.hash.NamedHash.TheVariants.{Sum, Fnv}
use Rattle.mr_configs.specs.Config.{hash_named}
use Rattle.mr_configs.specs.declared.error.PlanError.TheVariants.{BadHash}

pub named_hash : (text : List ℕ) (hash : NamedHash) → text ≡ name_of_hash hash → hash_named text ≡ Ok hash
named_hash text Sum e = rw e refl
named_hash text Fnv e = rw e refl

pub no_hash : (text : List ℕ) → ((hash : NamedHash) → text ≢ name_of_hash hash) → hash_named text ≡ Err BadHash
no_hash text none = search (rules, none Sum, none Fnv, bytes_eq-Decides)
