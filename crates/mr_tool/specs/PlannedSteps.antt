-- What private functions that make a configuration of words say to one another. No clause of a public call cites these definitions.
use Rattle.std.specs.Prelude.{◌≡◌, ⊤, ℕ, List, Result, Ok, Err, Vec}
use Rattle.mr_pools.specs.declared.error.PoolError.{PoolError}
use Rattle.mr_pools.specs.declared.error.PoolError.TheVariants.{BadName, OutOfMemory}
use Rattle.mr_tool.specs.PlannedConfig.{SaysNames}
use Rattle.mr_words.specs.Words.{members_of}

-- the names that a word says, or why it says none
abbrev pub MakesNames : {Z : Type 0} → List ℕ → Result (Vec (List ℕ) Z) PoolError → Type 0
MakesNames word (Ok names) = SaysNames word × (names.items ≡ members_of word)
MakesNames word (Err BadName) = ¬ SaysNames word
MakesNames word (Err OutOfMemory) = ⊤
MakesNames word (Err refusal) = ⊥
