-- Legs that are counted, one by one.
use Rattle.std.proofs.Common.{◌≡◌, ℕ, List, [], ◌∷◌, ◌++◌, refl, sym, ap, ◌∙◌, append_assoc}
use Rattle.mr_loop.specs.declared.link_counts.LinkCounts.{LinkCounts}
use Rattle.mr_loop.specs.declared.sent_legs.SentLeg.{SentLeg}
use Rattle.mr_loop.specs.Counts.{CountsCarried, legs_carried, leg_carried}

pub carried_none : (now : ℕ) (legs : List SentLeg) (counts : LinkCounts) → CountsCarried now legs legs counts counts
carried_none now legs counts = record { carried = []; splits = refl; counted = refl }

legs_more : (now : ℕ) (legs : List SentLeg) (sent : SentLeg) (counts : LinkCounts)
    → legs_carried now (legs ++ sent ∷ []) counts ≡ leg_carried now sent (legs_carried now legs counts)
legs_more now [] sent counts = refl
legs_more now (first ∷ legs) sent counts = legs_more now legs sent (leg_carried now first counts)

-- one more has its reply
pub carried_more : (now : ℕ) (legs left later : List SentLeg) (sent : SentLeg) (old between new : LinkCounts) → CountsCarried now legs left old between
    → left ≡ sent ∷ later → new ≡ leg_carried now sent between → CountsCarried now legs later old new
carried_more now legs left later sent old between new k first e = record {
  carried = k.carried ++ sent ∷ [];
  splits = k.splits ∙ ap (λ l. k.carried ++ l) first ∙ sym (append_assoc k.carried (sent ∷ []) later);
  counted = e ∙ ap (λ x. leg_carried now sent x) k.counted ∙ sym (legs_more now k.carried sent old);
}
