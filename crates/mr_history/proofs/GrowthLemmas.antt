-- What holds of a history still holds of it with more at its end.
use Rattle.std.proofs.Common.{◌≡◌, ℕ, ◌<◌, ◌≤◌, inl, inr, List, [], ◌∷◌, ◌++◌, length, refl, sym, subst, arith}
use Rattle.mr_text.specs.declared.item.Item.{Item}
use Rattle.mr_text.specs.declared.request.Request.{Request}
use Rattle.mr_history.specs.declared.op_id.OpId.{OpId}
use Rattle.mr_history.specs.declared.entry.Entry.{Entry}
use Rattle.mr_history.specs.declared.verdict.Verdict.{Verdict}
use Rattle.mr_history.specs.declared.verdict.Verdict.TheVariants.{Safe, Stale, Invented}
use Rattle.mr_history.specs.History.{IsIssued, IsHit, IsFreshHit, IsSafe, IsWellFormed}
use Rattle.mr_history.specs.Judgement.{Judges}
use Rattle.mr_history.proofs.Lists.{at_within, at_left, at_before, at_last}
use Rattle.mr_history.proofs.FormLemmas.{answered_after}

issued_before : (history later : List Entry) (op : OpId) (request : Request) (place : ℕ) → IsIssued (history ++ later) op request place
    → place < length history → IsIssued history op request place
issued_before history later op request place issued below = record { proxy = issued.proxy; there = at_before history later issued.there below }

-- the get was issued in what was there, and a delete acknowledged before that was issued in it too
pub fresh_grows : (history later : List Entry) (item : Item) (issue answer : ℕ) → IsWellFormed (history ++ later) → IsFreshHit history item issue answer
    → issue ≤ length history → IsFreshHit (history ++ later) item issue answer
fresh_grows history later item issue answer formed fresh below = record {
  place = fresh.place;
  stored = record { by = fresh.stored.by; there = at_left later fresh.stored.there };
  before = fresh.before;
  after = λ delete start done ack early.
      let first : start < done = answered_after formed ack.answered ack.issued in
      fresh.after delete start done
      (record {
        noreply = ack.noreply;
        reply = ack.reply;
        issued = issued_before history later delete _ start ack.issued (omega arith);
        answered = at_before history later ack.answered (omega arith);
        acknowledges = ack.acknowledges;
      })
      early;
}

pub safe_grows : (history : List Entry) (entry : Entry) → IsWellFormed (history ++ entry ∷ []) → IsSafe history
    → ((get : OpId) (item : Item) (issue index : ℕ) → IsHit (history ++ entry ∷ []) get item issue (length history) index
    → IsFreshHit (history ++ entry ∷ []) item issue (length history))
    → IsSafe (history ++ entry ∷ [])
safe_grows history entry formed safe new get item issue answer index hit =
    let first : issue < answer = answered_after formed hit.answered hit.issued in
    elim (at_last history entry hit.answered) [
      | inl old ↦
          let below = at_within old in
          fresh_grows history (entry ∷ []) item issue answer formed
          (safe get item issue answer index (record {
            keys = hit.keys;
            items = hit.items;
            issued = issued_before history (entry ∷ []) get _ issue hit.issued (omega arith);
            answered = old;
            has = hit.has;
          }))
          (omega arith)
      | inr last ↦
          subst (λ k. IsFreshHit (history ++ entry ∷ []) item issue k) (sym last.0)
          (new get item issue index (subst (λ k. IsHit (history ++ entry ∷ []) get item issue k index) last.0 hit))
    ]

pub safe_is_told : (history : List Entry) (verdict : Verdict) → Judges history verdict → IsSafe history → verdict ≡ Safe
safe_is_told history Safe judged safe = refl
safe_is_told history (Stale get key delete) judged safe = absurd (judged.first.bad (safe _ _ _ _ _ judged.first.hit))
safe_is_told history (Invented get key) judged safe = absurd (judged.first.bad (safe _ _ _ _ _ judged.first.hit))
