-- A set of which the line was read, and not yet the block.
use Rattle.std.specs.Prelude.{◌≡◌, ℕ, ◌≤◌, Bool, List, [], ℤ, Option, Some, None}
use Rattle.mr_text.specs.Limits.{MAX_BLOCK}
use Rattle.mr_text.specs.Requests.{IsSetLine}

-- what its line said
pub record SetWords : Type 0 where
  pub key : List ℕ
  pub flags : ℕ
  pub exptime : ℤ
  pub block_length : ℕ
  pub noreply : Bool

-- what is kept of the bytes that were read: nothing where none were, or what a set's line said
abbrev pub IsBegun : Option SetWords → List ℕ → Type 0
IsBegun None front = front ≡ []
IsBegun (Some set) front =
    IsSetLine front set.key set.flags set.exptime set.block_length set.noreply × (set.block_length ≤ MAX_BLOCK)
