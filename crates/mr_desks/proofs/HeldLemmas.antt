-- What a proxy without a book keeps, from step to step.
use Rattle.std.proofs.Common.{◌≡◌, ℕ, ◌+◌, Option, Some, None, refl, sym, ap, ◌∙◌}
use Rattle.std.proofs.lemmas.List.Elements.{All-push}
use Rattle.mr_text.specs.declared.request.Request.{Request}
use Rattle.mr_history.specs.declared.op_id.OpId.{OpId}
use Rattle.mr_join.specs.declared.leg_reply.LegReply.{LegReply}
use Rattle.mr_proxy.specs.declared.sheet.LegBack.{LegBack}
use Rattle.mr_proxy.specs.declared.sheet.LegId.{LegId}
use Rattle.mr_proxy.specs.Issue.{sheets_of, pending_of, after_issue}
use Rattle.mr_proxy.specs.Pending.{PendingView, is_complete}
use Rattle.mr_proxy.specs.ProxyView.{ProxyView}
use Rattle.mr_proxy.specs.Transitions.{place_of_op, pending_with, open_sheet, noted_by, settled, after_take, after_give_up}
use Rattle.mr_desks.specs.Recorded.{Gave, PendingStands}
use Rattle.mr_desks.specs.Shared.{IsSharedCore}
use Rattle.mr_desks.proofs.KeptLemmas.{open_stands, noted_stands, settled_as, settled_next, left_stands, left_next}

pub held_issue : (gave : Gave) (core new : ProxyView) (issues t : ℕ) (request : Request) → IsSharedCore gave core issues → new ≡ after_issue core t request
    → IsSharedCore gave new (issues + 1)
held_issue gave core new issues t request h is =
    rw is
    (record {
      stands = All-push (PendingStands gave) core.outstanding (pending_of core t request) h.stands (open_stands gave (sheets_of core t request));
      counted = ap (λ n. n + 1) h.counted;
    })

held_by : (gave : Gave) (core : ProxyView) (issues n : ℕ) (back : LegBack) (w : Option PendingView) → noted_by core back.sheet.id back.reply ≡ w
    → IsSharedCore gave core issues → ∥ gave back.sheet back.reply ∥₁ → open_sheet core back.sheet.id ≡ Some back.sheet
    → IsSharedCore gave (settled core n w) issues
held_by gave core issues n back None e h g own = h
held_by gave core issues n back (Some noted) e h g own =
    record {
      stands = settled_as gave core n noted (is_complete noted) h.stands (noted_stands gave core back noted own e h.stands g);
      counted = h.counted ∙ sym (settled_next core n noted (is_complete noted));
    }

pub held_take : (gave : Gave) (core new : ProxyView) (issues : ℕ) (back : LegBack) (id : LegId) (reply : LegReply)
    → IsSharedCore gave core issues → ∥ gave back.sheet back.reply ∥₁ → open_sheet core back.sheet.id ≡ Some back.sheet
    → id ≡ back.sheet.id → reply ≡ back.reply → new ≡ after_take core id reply → IsSharedCore gave new issues
held_take gave core new issues back id reply h g own named same is =
    rw (is, named, same)
    (held_by gave core issues (place_of_op core.outstanding back.sheet.id.op) back (noted_by core back.sheet.id back.reply) refl h g own)

pub held_give_up : (gave : Gave) (core : ProxyView) (issues : ℕ) (op : OpId) → IsSharedCore gave core issues → IsSharedCore gave (after_give_up core op) issues
held_give_up gave core issues op h =
    let n = place_of_op core.outstanding op in
    let o = pending_with core.outstanding op in
    record { stands = left_stands gave core n o h.stands; counted = h.counted ∙ sym (left_next core n o) }
