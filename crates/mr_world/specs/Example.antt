-- Runs in which the premises hold, a delete is acknowledged, a set follows it, and a get hits what was set: what the
-- headline speaks of happens, in one migration and where a fleet is between two.
use Rattle.std.specs.Prelude.{◌≡◌, ◌≢◌, ℕ, ◌<◌, All, List, [], ◌∷◌}
use Rattle.mr_text.specs.declared.item.Item.{Item}
use Rattle.mr_history.specs.declared.op_id.OpId.{OpId}
use Rattle.mr_history.specs.declared.entry.Entry.TheVariants.{Removed}
use Rattle.mr_history.specs.History.{IsAcknowledged, IsStored, IsHit}
use Rattle.mr_phases.specs.declared.side.Side.TheVariants.{Old, New}
use Rattle.mr_phases.specs.Schedule.{hop_of}
use Rattle.mr_world.specs.declared.event.Event.{Event}
use Rattle.mr_world.specs.declared.setup.ProxySetup.{ProxySetup}
use Rattle.mr_world.specs.Headline.{IsPlan, PremisesHold}
use Rattle.mr_world.specs.Lists.{Has}
use Rattle.mr_world.specs.Setup.{SetupView, Begins}
use Rattle.mr_world.specs.Steps.{WorldRun}
use Rattle.mr_world.specs.WorldView.{WorldView}

-- two proxies whose clocks differ at first
pub record HasTwoClocks (setup : SetupView) : Type 0 where
  pub one : ProxySetup
  pub other : ProxySetup
  pub both : setup.proxies ≡ one ∷ other ∷ []
  pub differ : one.reading ≢ other.reading

-- a delete of an item's key is performed in both pools and acknowledged, then the item is stored, and then a get is
-- issued that hits it
pub record HitsAfterDelete (w : WorldView) : Type 0 where
  pub delete : OpId
  pub get : OpId
  pub item : Item
  pub start : ℕ
  pub done : ℕ
  pub stored : ℕ
  pub issue : ℕ
  pub answer : ℕ
  pub acknowledged : IsAcknowledged w.history delete item.key start done
  pub from_old : Has w.history (Removed delete Old item.key)
  pub from_new : Has w.history (Removed delete New item.key)
  pub set_later : done < stored
  pub set : IsStored w.history item stored
  pub asked_later : stored < issue
  pub hit : IsHit w.history get item issue answer 0

-- a setup, events and the run of them, under the premises
pub record Happens : Type 0 where
  pub setup : SetupView
  pub events : List Event
  pub first : WorldView
  pub last : WorldView
  pub clocks : HasTwoClocks setup
  pub plans : All (λ proxy. IsPlan proxy.routing proxy.schedule) setup.proxies
  pub begins : Begins setup first
  pub run : WorldRun first events last
  pub premises : PremisesHold setup events
  pub shows : HitsAfterDelete last

-- three proxies, of which the first is in the first migration yet, and the others are in the second
pub record AreBetweenHops (setup : SetupView) : Type 0 where
  pub one : ProxySetup
  pub two : ProxySetup
  pub three : ProxySetup
  pub all : setup.proxies ≡ one ∷ two ∷ three ∷ []
  pub behind : hop_of one.schedule one.reading ≡ 0
  pub ahead : hop_of two.schedule two.reading ≡ 1
  pub ahead_too : hop_of three.schedule three.reading ≡ 1

-- the same of a chain of migrations
pub record HappensBetweenHops : Type 0 where
  pub setup : SetupView
  pub events : List Event
  pub first : WorldView
  pub last : WorldView
  pub clocks : AreBetweenHops setup
  pub plans : All (λ proxy. IsPlan proxy.routing proxy.schedule) setup.proxies
  pub begins : Begins setup first
  pub run : WorldRun first events last
  pub premises : PremisesHold setup events
  pub shows : HitsAfterDelete last
