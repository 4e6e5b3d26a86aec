-- The transcript of a play.
use Rattle.std.specs.Prelude.{◌≡◌, ℕ, ◌+◌, ◌<◌, ◌≤◌, List, length, Some, None, codes}
use Rattle.serde_json.specs.Data.{Data, array, object, put}
use Rattle.serde_json.specs.Written.{compact_text}
use Rattle.mr_shown.specs.declared.format.Format.{Format}
use Rattle.mr_history.specs.declared.entry.Entry.{Entry}
use Rattle.mr_world.specs.Premises.{premises_of}
use Rattle.mr_world.specs.Setup.{SetupView}
use Rattle.mr_world.specs.WorldView.{WorldView}
use Rattle.mr_world.specs.declared.event.Event.{Event}
use Rattle.mr_world.specs.declared.note.Note.{Note}
use Rattle.mr_world.specs.declared.premises.Premises.{Premises}
use Rattle.mr_scripts.specs.Limits.{most_bytes}
use Rattle.mr_transcripts.specs.Play.{IsPlay}
use Rattle.mr_shown.specs.Shown.{entries_json, notes_json, premises_json, verdict_json}
use Rattle.mr_shown.specs.Verdict.{JudgesSo}
use Rattle.mr_configs.specs.declared.error.PlanError.{PlanError}
use Rattle.mr_configs.specs.declared.error.PlanError.TheVariants.{EventRefused, TooLarge, OutOfMemory}
use Rattle.mr_shown.specs.declared.verdict.KeptVerdict.{KeptVerdict}

-- a script's own JSON with what came of its play, each under its key, and the data of the history in the script's format
abbrev pub with_outcome : Format → Data → List Note → List Entry → Premises → KeptVerdict → Data
with_outcome format (object members) notes history premises verdict =
    object
    (put (codes "verdict") (verdict_json verdict)
    (put (codes "premises") (premises_json premises)
    (put (codes "notes") (array (notes_json notes)) (put (codes "history") (array (entries_json format history)) members))))
with_outcome format value notes history premises verdict = value

-- the compact text of the transcript of a play
abbrev pub transcript_text : Format → Data → List Note → WorldView → KeptVerdict → List ℕ
transcript_text format script notes world verdict = compact_text (with_outcome format script notes world.history (premises_of world) verdict)

-- all events were accepted, and this is the verdict on what happened
pub record IsWholePlay (setup : SetupView) (events : List Event) (notes : List Note) (world : WorldView) (verdict : KeptVerdict) : Type 0 where
  pub play : IsPlay setup events notes world None
  pub judges : JudgesSo world.history verdict

-- the text, with one line end no larger than a transcript may be, is the transcript of a play of all events
pub record IsTranscript (format : Format) (script : Data) (setup : SetupView) (events : List Event) (text : List ℕ) : Type 0 where
  pub notes : List Note
  pub world : WorldView
  pub verdict : KeptVerdict
  pub whole : IsWholePlay setup events notes world verdict
  pub text_is : text ≡ transcript_text format script notes world verdict
  pub fits : length text + 1 ≤ most_bytes

-- Why there is no transcript: the first event that is refused, or else a text that is too large; or memory was refused. A play
-- takes memory from its beginning on, to make its fleet, so want of memory may come of any script; whether an event is refused,
-- and how long the text is, is known only of what was played.
abbrev pub RefusesTranscript : Format → Data → SetupView → List Event → PlanError → Type 0
RefusesTranscript format script setup events (EventRefused index refusal) =
    (notes : List Note) × (world : WorldView) × IsPlay setup events notes world (Some (record { index = index; refusal = refusal }))
RefusesTranscript format script setup events TooLarge =
    (notes : List Note) × (world : WorldView) × (verdict : KeptVerdict) × IsWholePlay setup events notes world verdict
    × (most_bytes < length (transcript_text format script notes world verdict) + 1)
RefusesTranscript format script setup events refusal = refusal ≡ OutOfMemory
