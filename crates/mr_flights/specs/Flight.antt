-- What is written of the flight of a canary.
use Rattle.std.specs.Prelude.{◌≡◌, ◌↔◌, ◌⊎◌, ◌-◌, ◌*◌, ◌/◌, ◌^◌, min, max, ℕ, nat_eq, nat_le, Bool, false, List, [], ◌∷◌, ◌++◌, length, Result, Ok, Err}
use Rattle.mr_canary.specs.Notes.{IsConvicted}
use Rattle.mr_canary.specs.declared.note.Probe.{Probe}
use Rattle.mr_configs.specs.Config.{ConfigView}
use Rattle.mr_counting.specs.Counting.{sum_of}
use Rattle.mr_driver.specs.Going.{GoesOn}
use Rattle.mr_flights.specs.Flock.{CanaryStep}
use Rattle.mr_flights.specs.Log.{LogView, Sights, log_of}
use Rattle.mr_flights.specs.Scene.{SceneView}
use Rattle.mr_flights.specs.Plans.{IsMade}
use Rattle.mr_flights.specs.Seeing.{FailsToWrite, IsSight, without_second}
use Rattle.mr_flights.specs.Showing.{ending, manner_of, shown}
use Rattle.mr_flights.specs.declared.fault.FlightFault.{FlightFault}
use Rattle.mr_flights.specs.declared.fault.FlightFault.TheVariants.{Memory, Write, NoNumber, BadPrefix, Net}
use Rattle.mr_flights.specs.declared.showing.Manner.{Manner}
use Rattle.mr_flights.specs.declared.showing.Sight.{Sight}
use Rattle.mr_probes.specs.CanaryView.{CanaryView, begun_cleaning}
use Rattle.mr_probes.specs.Naming.{key_text}
use Rattle.mr_servers.specs.declared.screen.Screen.{Screen}
use Rattle.mr_sightings.specs.declared.verdict.Verdict.{Verdict}
use Rattle.mr_text.specs.Key.{IsKey}
use Rattle.mr_text.specs.Sink.{SinkView, HasWritten}
use Rattle.mr_words.specs.Words.{proxies_in}
use Rattle.mr_words.specs.declared.canary_words.CanaryValues.{CanaryValues}
use Rattle.mr_words.specs.declared.canary_words.Span.{Span}
use Rattle.mr_words.specs.declared.canary_words.Span.TheVariants.{Seconds, UntilMigrated}

-- where the canary of these values flies, by this configuration, and since when
abbrev pub scene_by : CanaryValues → ConfigView → ℕ → SceneView
scene_by values config begun = record { proxies = proxies_in values; hops = config.schedule; begun = begun }

-- how many hits the seconds told of that showed what was deleted
abbrev pub told_by : SceneView → Sights → ℕ
told_by scene sights = (log_of scene.hops sights).came_back

-- Seconds of one canary, the last one first: how it was before the first and is behind the last. It goes on from each to the next, which is
-- seen of it as it is then, and behind which it counts anew.
abbrev pub AreSights : SceneView → CanaryView → Sights → CanaryView → Type 0
AreSights scene first [] last = last ≡ first
AreSights scene first (sight ∷ earlier) last =
    (before : CanaryView) × (canary : CanaryView) × AreSights scene first earlier before × GoesOn CanaryStep before canary
    × IsSight scene (told_by scene earlier) canary sight × (last ≡ without_second canary)

-- what is written of them, one behind the other
abbrev pub all_shown : Manner → Sights → List ℕ
all_shown manner [] = []
all_shown manner (sight ∷ earlier) = all_shown manner earlier ++ shown manner sight

-- the most seconds of a flight that ends once everything is migrated
abbrev pub most_seconds : ℕ
most_seconds = 2 ^ 64 - 1

-- a flight ends behind these seconds, though it might have more: ten of them were in the last phase of the last migration
abbrev pub is_over : Span → LogView → Bool
is_over (Seconds seconds) log = false
is_over UntilMigrated log = nat_le 10 log.migrated

-- the most seconds of a flight
abbrev pub most_of : Span → ℕ
most_of (Seconds seconds) = seconds
most_of UntilMigrated = most_seconds

-- how many looks there are, ten in a second, at whether so many deletes were answered: those of the time that they take at this rate in a
-- second, and of five seconds more
abbrev pub looks_of : ℕ → ℕ → ℕ
looks_of deletes rate = sum_of (min (deletes * 10) (2 ^ 64 - 1) / max rate 1) 50

-- no more seconds follow these: there are as many as were asked for; or ten of them were in the last phase of the last migration, or there
-- are as many as there may be
abbrev pub AreAll : Span → SceneView → Sights → Type 0
AreAll (Seconds seconds) scene sights = length sights ≡ seconds
AreAll UntilMigrated scene sights = ((log_of scene.hops sights).migrated ≡ 10) ⊎ (length sights ≡ most_seconds)

-- seconds of a canary were seen and written, and nothing else
pub record HasShown (manner : Manner) (scene : SceneView) (first : CanaryView) (sights : Sights) (last : CanaryView) (old new : SinkView) : Type 0 where
  pub are_sights : AreSights scene first sights last
  pub writes : HasWritten (all_shown manner sights) old new

-- seconds were written, and stay
pub record StopsBetween (manner : Manner) (scene : SceneView) (first : CanaryView) (old new : SinkView) : Type 0 where
  pub sights : Sights
  pub last : CanaryView
  pub shown : HasShown manner scene first sights last old new

-- seconds were written, and stay, and then one call that was to write a text failed
pub record StopsBehind (manner : Manner) (scene : SceneView) (first : CanaryView) (old new : SinkView) : Type 0 where
  pub sights : Sights
  pub last : CanaryView
  pub between : SinkView
  pub shown : HasShown manner scene first sights last old between
  pub text : List ℕ
  pub fails : FailsToWrite text between new

-- all seconds of a canary were written, and are kept
pub record HasFlown (manner : Manner) (span : Span) (scene : SceneView) (first : CanaryView) (log : LogView) (last : CanaryView) (old new : SinkView) : Type 0 where
  pub sights : Sights
  pub shown : HasShown manner scene first sights last old new
  pub all : AreAll span scene sights
  pub kept : log ≡ log_of scene.hops sights

-- what comes of the seconds of a flight
abbrev pub FliesSeconds : Manner → Span → SceneView → CanaryView → LogView → CanaryView → SinkView → Result (Unit {0}) FlightFault → SinkView → Type 0
FliesSeconds manner span scene first log last old (Ok _) new = HasFlown manner span scene first log last old new
FliesSeconds manner span scene first log last old (Err Write) new = StopsBehind manner scene first old new
FliesSeconds manner span scene first log last old (Err Memory) new = StopsBetween manner scene first old new
FliesSeconds manner span scene first log last old (Err Net) new = StopsBetween manner scene first old new
FliesSeconds manner span scene first log last old (Err fault) new = ⊥

-- what a canary comes to at these proxies, of whose seconds this is kept
abbrev pub verdict_of : SceneView → CanaryView → LogView → Verdict
verdict_of scene canary log = record {
  came_back = canary.notebook.came_back;
  requests = log.total.requests;
  proxies = length scene.proxies;
  acknowledged = log.total.acknowledged;
  left = canary.notebook.left;
}

-- Nothing came back of a canary: it counted no hit that showed what was deleted, and that is so exactly where its notes convict no get.
pub record IsSound (canary : CanaryView) (sound : Bool) : Type 0 where
  pub counted : sound ≡ nat_eq canary.notebook.came_back 0
  pub judged : (canary.notebook.came_back ≡ 0) ↔ ((get : Probe) → ¬ IsConvicted canary.notebook.judge.notes get)

-- what comes of the table of the seconds that are kept so, and of the verdict
abbrev pub WritesEnding : Manner → SceneView → CanaryView → LogView → SinkView → Result Bool FlightFault → SinkView → Type 0
WritesEnding manner scene canary log old (Ok sound) new = HasWritten (ending manner log.rows (verdict_of scene canary log)) old new × IsSound canary sound
WritesEnding manner scene canary log old (Err Write) new = (text : List ℕ) × FailsToWrite text old new
WritesEnding manner scene canary log old (Err Memory) new = new ≡ old
WritesEnding manner scene canary log old (Err fault) new = ⊥

-- All seconds were written, and then what was seen of the same canary while it deleted its keys.
pub record HasCleaned
    (manner : Manner) (span : Span) (scene : SceneView) (first : CanaryView) (sights : Sights) (last : Sight) (canary : CanaryView) (old new : SinkView)
    : Type 0 where
  pub before : CanaryView
  pub are_sights : AreSights scene first sights before
  pub all : AreAll span scene sights
  pub cleans : GoesOn CanaryStep (begun_cleaning before) canary
  pub is_last : IsSight scene (told_by scene sights) canary last
  pub writes : HasWritten (all_shown manner (last ∷ sights)) old new

-- That was written, and then the table of all of it and the verdict, and it is said whether nothing came back of the canary, as it was at the
-- end.
pub record HasFlownOut (manner : Manner) (span : Span) (scene : SceneView) (first : CanaryView) (old : SinkView) (sound : Bool) (new : SinkView) : Type 0 where
  pub sights : Sights
  pub last : Sight
  pub canary : CanaryView
  pub between : SinkView
  pub cleaned : HasCleaned manner span scene first sights last canary old between
  pub writes : HasWritten (ending manner (log_of scene.hops (last ∷ sights)).rows (verdict_of scene canary (log_of scene.hops (last ∷ sights)))) between new
  pub is_sound : IsSound canary sound

-- that was written, and stays
pub record StopsBeforeEnding (manner : Manner) (span : Span) (scene : SceneView) (first : CanaryView) (old new : SinkView) : Type 0 where
  pub sights : Sights
  pub last : Sight
  pub canary : CanaryView
  pub cleaned : HasCleaned manner span scene first sights last canary old new

-- that was written, and stays, and then the one call that was to write the ending failed
pub record FailsToEnd (manner : Manner) (span : Span) (scene : SceneView) (first : CanaryView) (old new : SinkView) : Type 0 where
  pub between : SinkView
  pub stops : StopsBeforeEnding manner span scene first old between
  pub text : List ℕ
  pub fails : FailsToWrite text between new

-- what comes of a flight of this canary once its proxies were reached
abbrev pub FliesOut : Manner → Span → SceneView → CanaryView → SinkView → Result Bool FlightFault → SinkView → Type 0
FliesOut manner span scene first old (Ok sound) new = HasFlownOut manner span scene first old sound new
FliesOut manner span scene first old (Err Write) new = StopsBehind manner scene first old new ⊎ FailsToEnd manner span scene first old new
FliesOut manner span scene first old (Err Memory) new = StopsBetween manner scene first old new ⊎ StopsBeforeEnding manner span scene first old new
FliesOut manner span scene first old (Err Net) new = StopsBetween manner scene first old new
FliesOut manner span scene first old (Err fault) new = ⊥

-- a canary was made for these values, of some run, and went on until a proxy was reached
pub record HasBegun (values : CanaryValues) (config : ConfigView) (first : CanaryView) : Type 0 where
  pub run : ℕ
  pub made : CanaryView
  pub is_made : IsMade values config.routing run made
  pub reaches : GoesOn CanaryStep made first

-- its prefix makes no key for some run and some number, and nothing is written
pub record RefusesPrefix (prefix : List ℕ) (old new : SinkView) : Type 0 where
  pub run : ℕ
  pub number : ℕ
  pub is_none : ¬ IsKey (key_text prefix run number)
  pub unwritten : new ≡ old

-- one canary was made for these values, and flew
pub record Flies (values : CanaryValues) (screen : Screen) (config : ConfigView) (old : SinkView) (result : Result Bool FlightFault) (new : SinkView) : Type 0 where
  pub first : CanaryView
  pub has_begun : HasBegun values config first
  pub begun : ℕ
  pub flies : FliesOut (manner_of values.json screen) values.span (scene_by values config begun) first old result new

-- What comes of a canary of these values by this configuration, whose output goes to this place. For want of memory or of a connection it
-- may come to nothing.
abbrev pub FliesConfig : CanaryValues → Screen → ConfigView → SinkView → Result Bool FlightFault → SinkView → Type 0
FliesConfig values screen config old (Err NoNumber) new = new ≡ old
FliesConfig values screen config old (Err BadPrefix) new = RefusesPrefix values.prefix.now old new
FliesConfig values screen config old (Err Memory) new = (new ≡ old) ⊎ Flies values screen config old (Err Memory) new
FliesConfig values screen config old (Err Net) new = (new ≡ old) ⊎ Flies values screen config old (Err Net) new
FliesConfig values screen config old result new = Flies values screen config old result new
