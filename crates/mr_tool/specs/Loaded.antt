-- A configuration beside the bytes that it was read of.
use Rattle.std.specs.Prelude.{ℕ, List}
use Rattle.mr_configs.specs.Config.{ConfigView}

-- a configuration, and the bytes that it was read of
pub record Loaded : Type 0 where
  pub bytes : List ℕ
  pub config : ConfigView
