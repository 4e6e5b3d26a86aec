-- What comes of playing events on a fleet.
use Rattle.std.specs.Prelude.{◌≡◌, ℕ, List, [], ◌∷◌, length, take, slice_get, Option, Some, None}
use Rattle.mr_world.specs.Refusals.{refusal_of_event}
use Rattle.mr_world.specs.Setup.{SetupView, Begins}
use Rattle.mr_world.specs.Steps.{WorldStep}
use Rattle.mr_world.specs.WorldView.{WorldView}
use Rattle.mr_world.specs.declared.event.Event.{Event}
use Rattle.mr_world.specs.declared.note.Note.{Note}
use Rattle.mr_transcripts.specs.declared.play.Stop.{Stop}

-- each event is accepted, one after the other, and these are the notes of them
abbrev pub PlaysTo : WorldView → List Event → List Note → WorldView → Type 0
PlaysTo old [] [] new = new ≡ old
PlaysTo old [] (note ∷ notes) new = ⊥
PlaysTo old (event ∷ events) [] new = ⊥
PlaysTo old (event ∷ events) (note ∷ notes) new =
    (middle : WorldView) × (refusal_of_event old event ≡ None) × WorldStep old event note middle × PlaysTo middle events notes new

-- the first events, so many, were accepted; all of them, or the next one is refused
abbrev pub StopsAt : WorldView → List Event → ℕ → Option Stop → Type 0
StopsAt world events played None = played ≡ length events
StopsAt world events played (Some stop) =
    (stop.index ≡ played) × ((event : Event) × (slice_get events played ≡ Some event) × (refusal_of_event world event ≡ Some stop.refusal))

-- the events were played on the fleet of a setup, up to the first that is refused
pub record IsPlay (setup : SetupView) (events : List Event) (notes : List Note) (world : WorldView) (stop : Option Stop) : Type 0 where
  pub start : WorldView
  pub begins : Begins setup start
  pub plays : PlaysTo start (take (length notes) events) notes world
  pub stops : StopsAt world events (length notes) stop
