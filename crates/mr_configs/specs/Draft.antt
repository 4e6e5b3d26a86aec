-- A configuration that was looked at whole, and is yet to be made.
use Rattle.std.specs.Prelude.{◌≡◌, ◌≤◌, List, length, true}
use Rattle.mr_configs.specs.Chain.{pools_of, are_all_apart}
use Rattle.mr_configs.specs.ChainDraft.{migrations_in, chain_drafted, IsChainReady}
use Rattle.mr_configs.specs.Config.{ConfigView}
use Rattle.mr_configs.specs.Fields.{Text}
use Rattle.mr_configs.specs.declared.config.Draft.{Draft}

-- the pools of the chain that it has
abbrev pub pools_drafted : Draft → List (List Text)
pools_drafted draft = pools_of (chain_drafted draft.chain)

-- the configuration that it becomes
abbrev pub config_drafted : Draft → ConfigView
config_drafted draft = record { routing = record { pools = pools_drafted draft; hash = draft.hash }; schedule = draft.schedule }

-- nothing but want of memory keeps it from being made
pub record IsConfigReady (draft : Draft) : Type 0 where
  pub chain : IsChainReady draft.chain
  pub some : 1 ≤ length (migrations_in draft.chain)
  pub apart : are_all_apart (pools_drafted draft) ≡ true
  -- as many migrations as the schedule has hops
  pub matched : length (migrations_in draft.chain) ≡ length draft.schedule
