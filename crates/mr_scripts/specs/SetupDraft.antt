-- A setup that was looked at whole, and is yet to be made.
use Rattle.std.specs.Prelude.{◌≡◌, ℕ, List, map, IsOk, Option, Some, None, Result, Ok, ⊤}
use Rattle.std.specs.Str.{chars}
use Rattle.serde_json.specs.Data.{Data}
use Rattle.serde_json.specs.View.{view}
use Rattle.mr_world.specs.Setup.{SetupView}
use Rattle.mr_world.specs.declared.setup.HeldItem.{HeldItem}
use Rattle.mr_world.specs.declared.setup.ProxySetup.{ProxySetup}
use Rattle.mr_shown.specs.declared.format.Format.{Format}
use Rattle.mr_configs.specs.Checking.{◌>>=◌}
use Rattle.mr_configs.specs.Config.{ConfigView}
use Rattle.mr_configs.specs.Draft.{config_drafted, IsConfigReady}
use Rattle.mr_scripts.specs.BlockDraft.{block_drafted, IsBlockReady}
use Rattle.mr_scripts.specs.Lists.{all_of}
use Rattle.mr_scripts.specs.Setups.{held_of, proxy_of, checked_setup}
use Rattle.mr_scripts.specs.Texts.{key_of_text, node_name_of_text}
use Rattle.mr_configs.specs.declared.config.Draft.{Draft}
use Rattle.mr_configs.specs.declared.error.PlanError.{PlanError}
use Rattle.mr_scripts.specs.declared.held.HeldDraft.{HeldDraft}
use Rattle.mr_scripts.specs.declared.proxies.ProxyDraft.{ProxyDraft}
use Rattle.mr_scripts.specs.declared.setups.SetupDraft.{SetupDraft}

-- the item that it becomes
abbrev pub held_drafted : HeldDraft → HeldItem
held_drafted draft = record { node = draft.node.now; key = chars draft.key.now; flags = draft.flags; block = block_drafted draft.block }

-- nothing but want of memory keeps it from being made
pub record IsHeldReady (draft : HeldDraft) : Type 0 where
  pub node : node_name_of_text draft.node.now ≡ Ok draft.node.now
  pub key : key_of_text draft.key.now ≡ Ok (chars draft.key.now)
  pub block : IsBlockReady draft.block

-- the configuration of a proxy: its own, or else the common one
abbrev pub config_chosen : ConfigView → Option Draft → ConfigView
config_chosen common None = common
config_chosen common (Some own) = config_drafted own

-- its own configuration can be made, if it has one
abbrev pub CanOwnBeMade : Option Draft → Type 0
CanOwnBeMade None = ⊤
CanOwnBeMade (Some own) = IsConfigReady own

-- the proxy that it becomes, beside a common configuration
abbrev pub proxy_drafted : ConfigView → ProxyDraft → ProxySetup
proxy_drafted common draft =
    record {
      routing = (config_chosen common draft.own).routing;
      schedule = (config_chosen common draft.own).schedule;
      room = draft.room;
      reading = draft.reading;
    }

-- what comes of a setup whose other values were looked at
abbrev pub setup_between : Format → ConfigView → ℕ → List Data → List Data → Result SetupView PlanError
setup_between format common capacity held proxies =
    all_of (held_of format) held >>= λ items.
    all_of (proxy_of common) proxies >>= λ fleet.
    checked_setup (record { proxies = fleet; capacity = capacity; held = items })

-- the setup that it becomes
abbrev pub setup_drafted : Format → SetupDraft → Result SetupView PlanError
setup_drafted format draft = setup_between format (config_drafted draft.common) draft.capacity (map view draft.held.now) (map view draft.proxies.now)

-- nothing but want of memory keeps it from being made
pub record IsSetupReady (format : Format) (draft : SetupDraft) : Type 0 where
  pub common : IsConfigReady draft.common
  pub held : IsOk (all_of (held_of format) (map view draft.held.now))
  pub proxies : IsOk (all_of (proxy_of (config_drafted draft.common)) (map view draft.proxies.now))
  pub whole : IsOk (setup_drafted format draft)
