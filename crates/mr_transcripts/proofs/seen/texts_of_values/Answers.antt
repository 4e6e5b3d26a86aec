use Rattle.std.proofs.Common.{sym, string_bytes}
use Rattle.std.proofs.lemmas.List.{map-append, take_all, take_more}
use Rattle.serde_json.specs.View.{view}
use Rattle.mr_transcripts.proofs.SeenLemmas.{one_more_text}
use Rattle.mr_transcripts.proofs.seen.texts_of_values.Goals as goal

pub loop-value-preserved : goal.loop-value-preserved
loop-value-preserved c = rw (
  c.in_ok-push.ensures.items,
  map-append string_bytes,
  take_more c.args.values.now c.loop-value.value-index c.value-item.result c.loop-value-test.true,
  map-append view,
  sym c.value-item.is,
) (one_more_text _ _ _ _ c.loop-value.invariant c.in_ok-to_string.ensures.text)

pub returns : goal.returns
returns c = rw (sym (take_all c.loop-value.value-index c.args.values.now c.loop-value-test.false)) c.loop-value.invariant
