-- What the name of a node is.
use Rattle.std.specs.Prelude.{◌≢◌, ℕ, ◌≤◌, List, length, All}
use Rattle.mr_pools.specs.Limits.{longest_name}

-- a visible ASCII character, from the exclamation mark to the tilde, other than a comma
abbrev pub IsNameByte : ℕ → Type 0
IsNameByte byte = (0x21 ≤ byte) × (byte ≤ 0x7E) × (byte ≢ 0x2C)

-- the name of a node: 1 to 255 bytes, each of which may stand in one
pub record IsNodeName (bytes : List ℕ) : Type 0 where
  pub not_empty : 1 ≤ length bytes
  pub not_long : length bytes ≤ longest_name
  pub visible : All IsNameByte bytes
