use Rattle.std.proofs.Common.{◌∙◌, sym, ap, arith, [], ◌∷◌, ◌++◌, append_assoc, length}
use Rattle.mr_sessions.proofs.CarryLemmas.{sent_on, one_more}
use Rattle.mr_sessions.proofs.carrying.send_all.Goals as goal

pub loop-leg-preserved : goal.loop-leg-preserved
loop-leg-preserved g c =
    let i = c.loop-leg.invariant in
    let next = c.in-Some.ensures.steps.0 in
    record {
      can_next = tt;
      is_finite = tt;
      few = i.few;
      out = omega (arith, c.saturating_add.ensures, i.few, i.out, ap length next);
      front = i.front ++ c.in-Some.leg ∷ [];
      splits = i.splits ∙ ap (λ l. i.front ++ l) next ∙ sym (append_assoc i.front (c.in-Some.leg ∷ []) c.next.new.self.rest.items);
      sent = one_more _ _ _ i.front c.in-Some.leg i.sent (sent_on _ _ c.in-Some.leg c.send.result c.send.ensures.told (sym c.is_some.ensures ∙ c.if-is_some.false));
    }
