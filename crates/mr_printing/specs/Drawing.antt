-- The picture of a transcript.
use Rattle.std.specs.Prelude.{ℕ, ◌-◌, List, [], ◌∷◌, length, map, take, string_bytes}
use Rattle.mr_drawing.specs.Picture.{SceneView, picture_of}
use Rattle.mr_printing.specs.CheckText.{premises_line, verdict_line, outcome_line}
use Rattle.mr_transcripts.specs.declared.check.Checked.{Checked}
use Rattle.mr_transcripts.specs.declared.seen.Seen.{Seen}

-- a line without its end
abbrev pub without_end : List ℕ → List ℕ
without_end line = take (length line - 1) line

-- the three lines that a check prints, without their ends
abbrev pub check_lines : Checked → List (List ℕ)
check_lines checked =
    without_end (premises_line checked.premises) ∷ without_end (verdict_line checked.verdict) ∷ without_end (outcome_line checked.outcome) ∷ []

-- what is drawn of what is seen of a transcript
abbrev pub seen_scene : Seen → SceneView
seen_scene seen =
    record {
      proxies = seen.setup.proxies;
      events = seen.events.items;
      titles = map string_bytes seen.texts.items;
      notes = seen.notes.items;
      sent = seen.world.sent;
      replies = seen.world.replies;
      entries = seen.world.history;
      verdict = seen.checked.verdict;
      said = check_lines seen.checked;
    }

-- the text of the picture of a transcript, with what a check prints of it at the top
unfoldable pub drawing_text : Seen → List ℕ
drawing_text seen = picture_of (seen_scene seen)
