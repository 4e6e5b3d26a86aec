use Rattle.std.proofs.Common.{rules}
use Rattle.serde_json.specs.View.{view}
use Rattle.mr_transcripts.specs.Transcript.{IsWholePlay}
use Rattle.mr_transcripts.proofs.LeastLemmas.{long_history_is_too_large}
use Rattle.mr_transcripts.proofs.PlayLemmas.{whole_play}
use Rattle.mr_transcripts.proofs.transcript.transcript_of.Goals as goal

pub returns-then-has_long_history-clause-refused : goal.returns-then-has_long_history-clause-refused
returns-then-has_long_history-clause-refused c =
    let play = c.in_ok-play.play in
    let verdict = c.in_ok-verdict.verdict in
    let whole : IsWholePlay c.args.setup c.args.events.items play.notes.items play.world verdict =
    whole_play _ _ _ _ _ _ c.in_ok-play.ensures.played c.in-None.is c.in_ok-verdict.ensures in
    (play.notes.items, play.world, verdict, whole, long_history_is_too_large c.args.format (view c.args.script) play.notes.items play.world verdict (search rules))
