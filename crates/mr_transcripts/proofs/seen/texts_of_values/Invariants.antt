use Rattle.std.proofs.Common.{map, take, string_bytes}
use Rattle.serde_json.specs.View.{view}
use Rattle.mr_transcripts.specs.Seen.{AreTexts}
use Rattle.mr_transcripts.proofs.seen.texts_of_values.Given as goal

-- the texts so far are those of the first values
abbrev pub invariant-loop-value : goal.invariant-loop-value
invariant-loop-value l = AreTexts (map view (take l.value-index l.values)) (map string_bytes l.texts.items)
