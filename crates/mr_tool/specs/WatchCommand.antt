-- What the command `watch` does.
use Rattle.std.specs.Prelude.{◌≡◌, ℕ, ◌⊎◌, Bool, true, false, List, Result, Ok, Err}
use Rattle.mr_configs.specs.Config.{ConfigView}
use Rattle.mr_configs.specs.Digest.{IsDigest}
use Rattle.mr_looks.specs.Watch.{WatchesConfig, fleet_of}
use Rattle.mr_looks.specs.WatchText.{manner_of}
use Rattle.mr_words.specs.declared.printing.PrintFault.{PrintFault}
use Rattle.mr_servers.specs.declared.screen.Screen.{Screen}
use Rattle.mr_words.specs.Words.{addresses_in}
use Rattle.mr_words.specs.declared.watch_words.WatchValues.{WatchValues}
use Rattle.mr_tool.specs.Devices.{Devices}
use Rattle.mr_tool.specs.Fault.{fault_of_printing}
use Rattle.mr_tool.specs.Input.{LoadsConfig, LoadsWhole}
use Rattle.mr_tool.specs.Loaded.{Loaded}
use Rattle.mr_tool.specs.PlanCommand.{LacksConfig}
use Rattle.mr_tool.specs.WatchedWords.{AreAddresses, RefusesWord}
use Rattle.mr_tool.specs.declared.ended.Ended.{Ended}
use Rattle.mr_tool.specs.declared.ended.Ended.TheVariants.{Done, Faulted}
use Rattle.mr_tool.specs.declared.fault.Fault.{Fault}
use Rattle.mr_tool.specs.declared.fault.Fault.TheVariants.{Memory, Output, File, Net, Plan}

-- how the command ends of a watch that saw nothing wrong, or did
abbrev pub end_of_watch : Bool → Ended
end_of_watch true = Done
end_of_watch false = Faulted

-- what the command gives of a watch that came to this
abbrev pub given_by : Result Bool PrintFault → Result Ended Fault
given_by (Ok sound) = Ok (end_of_watch sound)
given_by (Err failed) = Err (fault_of_printing failed)

-- The configuration was had, by one load, nothing is read, and this came of its watch, whose output goes to this place. What proxies
-- tell is held against the digest of the bytes of the file.
pub record Watches (values : WatchValues) (screen : Screen) (before after : Devices) (result : Result Ended Fault) : Type 0 where
  pub loaded : Loaded
  pub loads : LoadsWhole values.config.now before.sources loaded after.sources
  pub unread : after.input ≡ before.input
  pub are_addresses : AreAddresses (addresses_in values)
  pub digest : List ℕ
  pub is_digest : IsDigest loaded.bytes digest
  pub came : Result Bool PrintFault
  pub watches : WatchesConfig (manner_of values.json values.once screen) values.once (fleet_of loaded.config digest (addresses_in values))
      before.output came after.output
  pub given : result ≡ given_by came

-- memory was refused once the configuration was had, and nothing is written
pub record LacksWatch (values : WatchValues) (before after : Devices) : Type 0 where
  pub config : ConfigView
  pub loaded : LoadsConfig values.config.now before.sources (Ok config) after.sources
  pub unread : after.input ≡ before.input
  pub unwritten : after.output ≡ before.output

-- the configuration was had, and the fault names the first word that is no address; nothing is written
pub record RefusesAddress (values : WatchValues) (fault : Fault) (before after : Devices) : Type 0 where
  pub config : ConfigView
  pub loaded : LoadsConfig values.config.now before.sources (Ok config) after.sources
  pub unread : after.input ≡ before.input
  pub unwritten : after.output ≡ before.output
  pub refuses : RefusesWord (addresses_in values) fault

-- What the command does. It writes its looks and its last lines, or finds the first of the faults in this order: the file, the
-- configuration, a word that is no address, the output. The file is loaded once, and nothing is read.
abbrev pub WatchGives : WatchValues → Screen → Devices → Devices → Result Ended Fault → Type 0
WatchGives values screen before after (Ok ended) = Watches values screen before after (Ok ended)
WatchGives values screen before after (Err Output) = Watches values screen before after (Err Output)
WatchGives values screen before after (Err (File line)) = LacksConfig values.config.now (File line) before after
WatchGives values screen before after (Err (Plan refusal)) = LacksConfig values.config.now (Plan refusal) before after
WatchGives values screen before after (Err (Net line)) = RefusesAddress values (Net line) before after
WatchGives values screen before after (Err Memory) =
    LacksConfig values.config.now Memory before after ⊎ LacksWatch values before after ⊎ Watches values screen before after (Err Memory)
WatchGives values screen before after (Err fault) = ⊥
