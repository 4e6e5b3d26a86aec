-- What a well formed history is like, and that it stays one.
use Rattle.std.proofs.Common.{◌≡◌, ◌∙◌, ◌↔◌, ℕ, ◌<◌, ◌≤◌, inl, inr, Bool, true, false, not, IsTrue, List, [], ◌∷◌, ◌++◌, length, take, refl, sym, ap, subst, arith}
use Rattle.std.specs.List.{list_any}
use Rattle.std.proofs.lemmas.List.{take-append-le}
use Rattle.std.proofs.lemmas.Bool.{cases_order}
use Rattle.std.proofs.Math.Seq.{take-append_seam}
use Rattle.mr_text.specs.declared.request.Request.{Request}
use Rattle.mr_text.specs.declared.reply.Reply.{Reply}
use Rattle.mr_history.specs.declared.op_id.OpId.{OpId}
use Rattle.mr_history.specs.declared.entry.Entry.{Entry}
use Rattle.mr_history.specs.declared.entry.Entry.TheVariants.{Answered}
use Rattle.mr_history.specs.Places.{At}
use Rattle.mr_history.specs.History.{IsIssued, WasIssued, WasAnswered, Fits, IsWellFormed}
use Rattle.mr_history.specs.steps.Tests.{is_issued, is_answered}
use Rattle.mr_history.proofs.Lists.{at_within, at_taken, at_take, at_last}
use Rattle.mr_history.proofs.TestLemmas.{issued_if, issued_then, answered_if, answered_then}

-- what the tests of a history say of an entry that is to come

pub issued_told : (history : List Entry) (op : OpId) (b : Bool) → b ≡ list_any (is_issued op) history → IsTrue b ↔ WasIssued history op
issued_told history op b same =
    (λ h. issued_if history op (sym same ∙ h), λ w. same ∙ issued_then history op w)

pub not_issued_told : (history : List Entry) (op : OpId) (b : Bool) → b ≡ list_any (is_issued op) history → IsTrue (not b) ↔ (¬ WasIssued history op)
not_issued_told history op true same = (λ h. cc, λ no. absurd (no (issued_if history op (sym same))))
not_issued_told history op false same = (λ h w. let e = same ∙ issued_then history op w in cc, λ no. refl)

pub not_answered_told : (history : List Entry) (op : OpId) (b : Bool) → b ≡ list_any (is_answered op) history → IsTrue (not b) ↔ (¬ WasAnswered history op)
not_answered_told history op true same = (λ h. cc, λ no. absurd (no (answered_if history op (sym same))))
not_answered_told history op false same = (λ h w. let e = same ∙ answered_then history op w in cc, λ no. refl)

-- an op is issued once
pub issued_once : {history : List Entry} {op : OpId} {p q : Request} {i j : ℕ} → IsWellFormed history → IsIssued history op p i → IsIssued history op q j → i ≡ j
issued_once {history = history} {op = op} {p = p} {q = q} {i = i} {j = j} formed a b =
    elim (cases_order i j) [
      | inl same ↦ same
      | inr apart ↦ elim apart [
        | inl less ↦ absurd ((formed.fits j _ b.there).1 (record { place = i; request = p; issued = record { proxy = a.proxy; there = at_take j history less a.there } }))
        | inr less ↦ absurd ((formed.fits i _ a.there).1 (record { place = j; request = q; issued = record { proxy = b.proxy; there = at_take i history less b.there } }))
      ]
    ]

-- an answer stands behind its op's issue
pub answered_after : {history : List Entry} {op : OpId} {reply : Reply} {request : Request} {i j : ℕ} → IsWellFormed history
    → At history j (Answered op reply) → IsIssued history op request i → i < j
answered_after {history = history} {op = op} {i = i} {j = j} formed answer issue =
    let was = (formed.fits j _ answer).0 in
    let (below, there) = at_taken j history was.issued.there in
    let there : IsIssued history op was.request was.place = record { proxy = was.issued.proxy; there = there } in
    let same : i ≡ was.place = issued_once formed issue there in
    omega arith

-- one more entry that fits
pub pushed : (history : List Entry) (entry : Entry) → IsWellFormed history → Fits history entry → IsWellFormed (history ++ entry ∷ [])
pushed history entry formed fits = record {
  fits = λ place other there. elim (at_last history entry there) [
    | inl old ↦
        let below : place ≤ length history = (let l = at_within old in omega arith) in
        subst (λ before. Fits before other) (sym (take-append-le place history (entry ∷ []) below)) (formed.fits place other old)
    | inr new ↦
        let before : history ≡ take place (history ++ entry ∷ []) = sym (ap (λ n. take n (history ++ entry ∷ [])) new.0 ∙ take-append_seam history (entry ∷ [])) in
        subst (λ e. Fits (take place (history ++ entry ∷ [])) e) (sym new.1) (subst (λ h. Fits h entry) before fits)
  ];
}
