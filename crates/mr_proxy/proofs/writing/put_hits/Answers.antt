use Rattle.std.proofs.Common.{◌∷◌, [], rules, arith, Err}
use Rattle.std.proofs.lemmas.Result.{err_from_is_err_and}
use Rattle.mr_text.specs.Canonical.{items_text}
use Rattle.mr_text.specs.Gathering.{HasGathered, Gathers}
use Rattle.mr_join.specs.Join.{hits_of}
use Rattle.mr_proxy.specs.Slots.{reply_of_slot}
use Rattle.mr_proxy.proofs.WritingLemmas.{gathered_more, more_hits, stopped_more, all_hits}
use Rattle.mr_proxy.proofs.writing.put_hits.Goals as goal

pub loop-place-preserved : goal.loop-place-preserved
loop-place-preserved g c =
    let so_far = c.loop-place.invariant in
    let costs = so_far.1 in
    let more = c.in_ok-put_hit.ensures.calls in
    let key = c.index-keys-place.result in
    let slot = c.index-slots-place.result in
    let count =
    more_hits c.args.keys.now c.args.slots.now c.loop-place.place key slot (omega arith) (omega arith) c.index-keys-place.is c.index-slots-place.is in
    let one : HasGathered (items_text (hits_of (key ∷ []) (reply_of_slot slot ∷ []))) c.loop-place.buffer (g.W.Sink.told c.loop-place.writer)
    c.put_hit.new.buffer (g.W.Sink.told c.put_hit.new.writer) = search rules in (
      gathered_more c.args.keys.now c.args.slots.now c.loop-place.place key slot _ _ _ _ _ _
          (omega arith) (omega arith) c.index-keys-place.is c.index-slots-place.is so_far.0 one,
      omega arith,
    )

pub returns-in_err-put_hit-clause-text : goal.returns-in_err-put_hit-clause-text
returns-in_err-put_hit-clause-text g c =
    let p = err_from_is_err_and c.from_residual.result c.from_residual.ensures.1 in
    let key = c.index-keys-place.result in
    let slot = c.index-slots-place.result in
    let stop : Gathers (items_text (hits_of (key ∷ []) (reply_of_slot slot ∷ []))) c.loop-place.buffer (g.W.Sink.told c.loop-place.writer) (Err p.0)
    c.put_hit.new.buffer (g.W.Sink.told c.put_hit.new.writer) = search rules in
    rw p.1
    (stopped_more c.args.keys.now c.args.slots.now c.loop-place.place key slot _ _ c.put_hit.new.buffer _ _ _ p.0
    (omega arith) (omega arith) c.index-keys-place.is c.index-slots-place.is c.loop-place.invariant.0 stop)

pub returns-in_err-put_hit-clause-calls : goal.returns-in_err-put_hit-clause-calls
returns-in_err-put_hit-clause-calls g c =
    let p = err_from_is_err_and c.from_residual.result c.from_residual.ensures.1 in
    let costs = c.loop-place.invariant.1 in
    let more = c.in_err-put_hit.ensures.calls in
    let count =
    all_hits c.args.keys.now c.args.slots.now c.loop-place.place c.index-keys-place.result c.index-slots-place.result (omega arith) (omega arith)
    c.index-keys-place.is c.index-slots-place.is in
    rw p.1 (omega arith)
