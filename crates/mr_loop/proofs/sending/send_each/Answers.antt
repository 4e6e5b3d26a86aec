use Rattle.std.proofs.Common.{◌∙◌, sym, ap, [], ◌∷◌, ◌++◌, append_assoc, reverse}
use Rattle.std.proofs.lemmas.List.{reverse-append}
use Rattle.mr_proxy.specs.declared.sheet.LegSheet.{LegSheet}
use Rattle.mr_loop.specs.Links.{link_of}
use Rattle.mr_loop.proofs.SentLemmas.{up_next, sent_next}
use Rattle.mr_loop.proofs.sending.send_each.Goals as goal

pub loop-sent-preserved : goal.loop-sent-preserved
loop-sent-preserved c =
    let i = c.loop-sent.invariant in
    let rest = c.pop.new.self.items in
    let number = c.link_of-number.ensures ∙ ap (λ (s : LegSheet). link_of c.args.routing.now s) c.sheet.ensures in
    record {
      front = i.front ++ c.in-Some.sent ∷ [];
      splits = i.splits ∙ ap (λ l. i.front ++ reverse l) c.in-Some.ensures.items ∙ ap (λ l. i.front ++ l) (reverse-append rest (c.in-Some.sent ∷ []))
          ∙ sym (append_assoc i.front (c.in-Some.sent ∷ []) (reverse rest))
          ∙ ap (λ l. (i.front ++ c.in-Some.sent ∷ []) ++ reverse l.items) (sym c.send_leg.ensures.others);
      up = up_next c.args.routing.now i.front c.in-Some.sent c.args.links.now c.loop-sent.links c.link_of-number.result c.loop-sent.all c.in-Ok.went c.both-all.result
          i.up i.gone number c.in-Ok.ensures.went c.both-all.ensures;
      gone = sent_next c.args.routing.now i.front c.in-Some.sent c.args.links.now c.loop-sent.links c.send_leg.new.links c.link_of-number.result
          i.gone number c.in-Ok.ensures.sent;
      marked = c.in-Ok.ensures.marked ∙ i.marked;
    }
