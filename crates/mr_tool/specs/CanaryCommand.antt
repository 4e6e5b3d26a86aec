-- What the command `canary` does.
use Rattle.std.specs.Prelude.{◌≡◌, ℕ, ◌⊎◌, Bool, true, false, List, [], ◌∷◌, Result, Ok, Err, IsErrAnd}
use Rattle.mr_configs.specs.Config.{ConfigView}
use Rattle.mr_flights.specs.Flight.{FliesConfig}
use Rattle.mr_flights.specs.declared.fault.FlightFault.{FlightFault}
use Rattle.mr_flights.specs.declared.fault.FlightFault.TheVariants as flight
use Rattle.mr_servers.specs.declared.screen.Screen.{Screen}
use Rattle.mr_text.specs.declared.error.TextError.TheVariants.{BadKey}
use Rattle.mr_words.specs.Words.{proxies_in}
use Rattle.mr_words.specs.declared.canary_words.CanaryValues.{CanaryValues}
use Rattle.mr_tool.specs.Devices.{Devices}
use Rattle.mr_tool.specs.Fault.{IsNetFault}
use Rattle.mr_tool.specs.Input.{LoadsConfig, LoadsWhole}
use Rattle.mr_tool.specs.Loaded.{Loaded}
use Rattle.mr_tool.specs.PlanCommand.{LacksConfig}
use Rattle.mr_tool.specs.WatchedWords.{AreAddresses, RefusesWord}
use Rattle.mr_tool.specs.declared.ended.Ended.{Ended}
use Rattle.mr_tool.specs.declared.ended.Ended.TheVariants.{Done, Faulted}
use Rattle.mr_tool.specs.declared.fault.Fault.{Fault}
use Rattle.mr_tool.specs.declared.fault.Fault.TheVariants.{Memory, Input, Output, File, Net, Plan, Text}

-- how the command ends of a canary of whose deletes nothing came back, or something did
abbrev pub end_of_canary : Bool → Ended
end_of_canary true = Done
end_of_canary false = Faulted

-- the first of these words; an empty one where there is none
abbrev pub first_word : List (List ℕ) → List ℕ
first_word [] = []
first_word (word ∷ words) = word

-- The fault of a canary at these proxies that stopped so: without a number for its run as without a seed, by a prefix that makes no key
-- as by a key that is none, and where none of the proxies was reached the fault of the first one's address.
abbrev pub IsFlightFault : List (List ℕ) → FlightFault → Fault → Type 0
IsFlightFault proxies flight.Memory fault = fault ≡ Memory
IsFlightFault proxies flight.Write fault = fault ≡ Output
IsFlightFault proxies flight.NoNumber fault = fault ≡ Input
IsFlightFault proxies flight.BadPrefix fault = fault ≡ Text BadKey
IsFlightFault proxies flight.Net fault = IsNetFault (first_word proxies) fault

-- what the command gives of a canary at these proxies that came to this
abbrev pub IsGivenBy : List (List ℕ) → Result Bool FlightFault → Result Ended Fault → Type 0
IsGivenBy proxies (Ok sound) result = result ≡ Ok (end_of_canary sound)
IsGivenBy proxies (Err stopped) result = IsErrAnd result (IsFlightFault proxies stopped)

-- The configuration was had, by one load, nothing is read, and this came of its canary, whose output goes to this place.
pub record Flies (values : CanaryValues) (screen : Screen) (before after : Devices) (result : Result Ended Fault) : Type 0 where
  pub loaded : Loaded
  pub loads : LoadsWhole values.config.now before.sources loaded after.sources
  pub unread : after.input ≡ before.input
  pub are_addresses : AreAddresses (proxies_in values)
  pub came : Result Bool FlightFault
  pub flies : FliesConfig values screen loaded.config before.output came after.output
  pub given : IsGivenBy (proxies_in values) came result

-- the configuration was had, and the fault names the first word that is no address; nothing is written
pub record RefusesProxy (values : CanaryValues) (fault : Fault) (before after : Devices) : Type 0 where
  pub config : ConfigView
  pub loaded : LoadsConfig values.config.now before.sources (Ok config) after.sources
  pub unread : after.input ≡ before.input
  pub unwritten : after.output ≡ before.output
  pub refuses : RefusesWord (proxies_in values) fault

-- What the command does. It writes its seconds, its table and its verdict, or finds the first of the faults in this order: the file, the
-- configuration, a word that is no address, then those of the canary. The file is loaded once, and nothing is read.
abbrev pub CanaryGives : CanaryValues → Screen → Devices → Devices → Result Ended Fault → Type 0
CanaryGives values screen before after (Err (File line)) = LacksConfig values.config.now (File line) before after
CanaryGives values screen before after (Err (Plan refusal)) = LacksConfig values.config.now (Plan refusal) before after
CanaryGives values screen before after (Err (Net line)) =
    RefusesProxy values (Net line) before after ⊎ Flies values screen before after (Err (Net line))
CanaryGives values screen before after (Err Memory) =
    LacksConfig values.config.now Memory before after ⊎ RefusesProxy values Memory before after ⊎ Flies values screen before after (Err Memory)
CanaryGives values screen before after result = Flies values screen before after result
