-- What a canary saw in a second, and what is written of it.
use Rattle.std.specs.Prelude.{◌≡◌, ⊤, ℕ, ◌-◌, All, List, [], ◌∷◌, drop, take, slice_get, unwrap_or, Result, Ok, Err, Vec}
use Rattle.mr_canary.specs.Notes.{Tells}
use Rattle.mr_flights.specs.Log.{LogView, with_second}
use Rattle.mr_flights.specs.Scene.{SceneView, IsDeed}
use Rattle.mr_flights.specs.Showing.{shown}
use Rattle.mr_flights.specs.declared.fault.FlightFault.{FlightFault}
use Rattle.mr_flights.specs.declared.fault.FlightFault.TheVariants.{Memory, Write}
use Rattle.mr_flights.specs.declared.showing.Manner.{Manner}
use Rattle.mr_flights.specs.declared.showing.Sight.{Sight}
use Rattle.mr_phases.specs.Schedule.{hop_of, phase_of}
use Rattle.mr_probes.specs.CanaryView.{CanaryView}
use Rattle.mr_probes.specs.declared.notebook.Found.{Found}
use Rattle.mr_sightings.specs.Tally.{no_tally}
use Rattle.mr_sightings.specs.declared.came_back.CameBack.{CameBack}
use Rattle.mr_text.specs.Sink.{SinkView, HasWritten, IsOneWrite}
use Rattle.mr_text.specs.declared.error.WriteFault.{WriteFault}

-- how many convictions are taken of a canary at a time
abbrev pub most_found : ℕ
most_found = 64

-- the convictions of a canary that weren't taken yet, as many as are taken at a time
abbrev pub found_taken : CanaryView → List Found
found_taken canary = take most_found canary.notebook.found

-- the canary once these were taken
abbrev pub without_found : CanaryView → CanaryView
without_found canary = record canary { notebook = record canary.notebook { found = drop most_found canary.notebook.found } }

-- the canary once its second was taken too
abbrev pub without_second : CanaryView → CanaryView
without_second canary = record canary { notebook = record canary.notebook { found = drop most_found canary.notebook.found; second = no_tally } }

-- by what a canary noted, each of these was stored, deleted and hit as it says
abbrev pub AreConvicted : CanaryView → List Found → Type 0
AreConvicted canary found = All (λ one. Tells canary.notebook.judge.notes one.conviction) found

-- the convictions that weren't taken yet were taken, unless memory was refused
abbrev pub TakesFound : {Z E : Type 0} → CanaryView → Result (Vec Found Z) E → CanaryView → Type 0
TakesFound old (Ok found) new = (found.items ≡ found_taken old) × (new ≡ without_found old) × AreConvicted old (found_taken old)
TakesFound old (Err error) new = ⊤

-- the name of the key of a number; an empty one where there is none
abbrev pub key_at : List (List ℕ) → ℕ → List ℕ
key_at keys number = unwrap_or (slice_get keys number) []

-- what is told of a conviction: the key, and the set, the delete and the get, each with the proxy that its client was at and when it was
-- issued
pub record IsTold (scene : SceneView) (keys : List (List ℕ)) (found : Found) (told : CameBack) : Type 0 where
  pub key : told.key.now ≡ key_at keys found.conviction.get.key
  pub set : IsDeed scene found.stamp.client found.stamp.time told.set
  pub delete : IsDeed scene found.conviction.delete.client found.conviction.delete.time told.delete
  pub get : IsDeed scene found.conviction.get.client found.conviction.get.time told.get

-- what is told of convictions, of each in its order
abbrev pub AreTold : SceneView → List (List ℕ) → List Found → List CameBack → Type 0
AreTold scene keys [] [] = ⊤
AreTold scene keys (one ∷ more) (told ∷ others) = IsTold scene keys one told × AreTold scene keys more others
AreTold scene keys _ _ = ⊥

-- A second as it was seen of a canary, which had told of so many hits before that showed what was deleted: its migration and its phase are
-- those of the schedule, it has all that the canary counted since it was last asked, what came back is told, and came back by its notes.
pub record IsSight (scene : SceneView) (before : ℕ) (canary : CanaryView) (sight : Sight) : Type 0 where
  pub hop : sight.second.hop ≡ hop_of scene.hops sight.second.at
  pub phase : sight.second.phase ≡ phase_of scene.hops sight.second.at
  pub tally : sight.second.tally ≡ canary.notebook.second
  pub came_back : sight.second.came_back ≡ canary.notebook.came_back - before
  pub found : AreTold scene canary.notebook.keys (found_taken canary) sight.found.now
  pub convicted : AreConvicted canary (found_taken canary)

-- the one call that hands over a text failed
abbrev pub FailsToWrite : List ℕ → SinkView → SinkView → Type 0
FailsToWrite text old new = (fault : WriteFault) × IsOneWrite text old (Err fault) new

-- a second was seen, kept and written, and the canary counts anew
pub record HasSeen (manner : Manner) (scene : SceneView) (at : ℕ) (canary left : CanaryView) (before after : LogView) (old new : SinkView) : Type 0 where
  pub sight : Sight
  pub at_is : sight.second.at ≡ at
  pub is_sight : IsSight scene before.came_back canary sight
  pub kept : after ≡ with_second scene.hops sight.second before
  pub anew : left ≡ without_second canary
  pub writes : HasWritten (shown manner sight) old new

-- what comes of a second that is to be written: it is, or memory was refused before, or its one write failed
abbrev pub WritesSecond : Manner → SceneView → ℕ → CanaryView → CanaryView → LogView → LogView → SinkView → Result (Unit {0}) FlightFault → SinkView → Type 0
WritesSecond manner scene at canary left before after old (Ok _) new = HasSeen manner scene at canary left before after old new
WritesSecond manner scene at canary left before after old (Err Write) new = (text : List ℕ) × FailsToWrite text old new
WritesSecond manner scene at canary left before after old (Err Memory) new = new ≡ old
WritesSecond manner scene at canary left before after old (Err fault) new = ⊥
