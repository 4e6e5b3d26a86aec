-- That no hit convicts in a view of a safe history.
use Rattle.std.proofs.Common.{◌≢◌, ℕ, ◌<◌, ◌≤◌, List, [], ◌∷◌, refl, sym, subst, arith}
use Rattle.mr_text.specs.declared.item.Item.{Item}
use Rattle.mr_text.specs.declared.request.Request.TheVariants as requests
use Rattle.mr_text.specs.declared.reply.Reply.TheVariants as replies
use Rattle.mr_join.specs.Join.{Acknowledges}
use Rattle.mr_history.specs.Places.{At}
use Rattle.mr_history.specs.declared.entry.Entry.{Entry}
use Rattle.mr_history.specs.declared.entry.Entry.TheVariants as entries
use Rattle.mr_history.specs.History as fleet
use Rattle.mr_canary.specs.declared.note.Probe.{Probe}
use Rattle.mr_canary.specs.declared.note.Asked.TheVariants.{Get, Set, Delete}
use Rattle.mr_canary.specs.declared.note.Answer.{Answer}
use Rattle.mr_canary.specs.declared.note.Answer.TheVariants.{Hit, Miss, Stored, Deleted, NotFound, Unanswered}
use Rattle.mr_canary.specs.declared.note.Note.{Note}
use Rattle.mr_canary.specs.Notes as clients
use Rattle.mr_canary.specs.Views.{Names, IsToldBy, IsView, ArePerformedOnce}

is_an_answer : (answer : Answer) → clients.Acknowledges answer → answer ≢ Unanswered
is_an_answer Deleted ack same = cc
is_an_answer NotFound ack same = cc
is_an_answer (Hit value) ack same = cc
is_an_answer Miss ack same = cc
is_an_answer Stored ack same = cc
is_an_answer Unanswered ack same = absurd ack

-- the item that clients saw hit
abbrev item_of : Names → ℕ → ℕ → ℕ → Item
item_of names key value flags = record { key = names.key key; flags = flags; block = names.block key value }

module _ {names : Names} {history : List Entry} {seen : ℕ → ℕ} where
  -- the history acknowledges the delete that clients saw acknowledged
  acknowledged : (delete : Probe) (answer : Answer) (place : ℕ) → clients.Acknowledges answer → (told : IsToldBy names history seen delete Delete answer place)
      → fleet.IsAcknowledged history told.op (names.key delete.key) told.issue told.done
  acknowledged delete Deleted place ack told = record {
    noreply = told.asks.0;
    reply = told.reply;
    issued = subst (λ r. fleet.IsIssued history told.op r told.issue) told.asks.1 told.issued;
    answered = told.answered;
    acknowledges = subst Acknowledges (sym told.says) tt;
  }
  acknowledged delete NotFound place ack told = record {
    noreply = told.asks.0;
    reply = told.reply;
    issued = subst (λ r. fleet.IsIssued history told.op r told.issue) told.asks.1 told.issued;
    answered = told.answered;
    acknowledges = subst Acknowledges (sym told.says) tt;
  }
  acknowledged delete (Hit value) place ack told = absurd ack
  acknowledged delete Miss place ack told = absurd ack
  acknowledged delete Stored place ack told = absurd ack
  acknowledged delete Unanswered place ack told = absurd ack

  hit : (get : Probe) (value place : ℕ) (told : IsToldBy names history seen get Get (Hit value) place)
      → fleet.IsHit history told.op (item_of names get.key value told.says.0) told.issue told.done 0
  hit get value place told = record {
    keys = names.key get.key ∷ [];
    items = item_of names get.key value told.says.0 ∷ [];
    issued = subst (λ r. fleet.IsIssued history told.op r told.issue) told.asks told.issued;
    answered = subst (λ r. At history told.done (entries.Answered told.op r)) told.says.1 told.answered;
    has = record { gets = refl };
  }

-- what was stored last was stored before its set was answered, so before the delete was issued, and is not fresh
pub no_false_alarm : (names : Names) (history : List Entry) (notes : List Note) (seen : ℕ → ℕ) → IsView names history notes seen → ArePerformedOnce names history
    → fleet.IsSafe history → (get : Probe) → ¬ clients.IsConvicted notes get
no_false_alarm names history notes seen view once safe get convicted =
    let c = convicted.convicts in
    let got : IsToldBy names history seen get Get (Hit convicted.value) c.hit = view.told get Get _ _ c.is_hit.issued c.is_hit.answered (λ same. cc) in
    let gone : IsToldBy names history seen convicted.delete Delete c.is_acknowledged.answer c.acknowledged =
    view.told convicted.delete Delete _ _ c.is_acknowledged.issued c.is_acknowledged.answered (is_an_answer _ c.is_acknowledged.acknowledges) in
    let kept : IsToldBy names history seen convicted.set (Set convicted.value) Stored c.stored =
    view.told convicted.set (Set convicted.value) _ _ c.is_stored.issued c.is_stored.answered (λ same. cc) in
    let fresh = safe got.op _ got.issue got.done 0 (hit get convicted.value c.hit got) in
    let ack : fleet.IsAcknowledged history gone.op (names.key get.key) gone.issue gone.done =
    subst (λ k. fleet.IsAcknowledged history gone.op (names.key k) gone.issue gone.done) c.is_acknowledged.of_key
    (acknowledged convicted.delete _ c.acknowledged c.is_acknowledged.acknowledges gone) in
    let acknowledged_seen : seen c.acknowledged ≤ seen get.number = view.in_order _ _ (let l = c.acknowledged_before in omega arith) in
    let stored_seen : seen c.stored ≤ seen convicted.delete.number = view.in_order _ _ (let l = c.answered_before in omega arith) in
    let early : gone.done < got.issue = (let a = gone.answered_before in let b = got.issued_after in omega arith) in
    let late : gone.issue < fresh.place = fresh.after gone.op gone.issue gone.done ack early in
    let asked = kept.asks in
    let issued : fleet.IsIssued history kept.op (requests.Set (names.key get.key) asked.0 asked.1 (names.block get.key convicted.value) asked.2) kept.issue =
    subst (λ k. fleet.IsIssued history kept.op (requests.Set (names.key k) asked.0 asked.1 (names.block k convicted.value) asked.2) kept.issue) c.is_stored.of_key
    (subst (λ r. fleet.IsIssued history kept.op r kept.issue) asked.3 kept.issued) in
    let done : At history kept.done (entries.Answered kept.op replies.Stored) = subst (λ r. At history kept.done (entries.Answered kept.op r)) kept.says kept.answered in
    let before : fresh.place < kept.done = once.before get.key convicted.value kept.op asked.0 asked.1 asked.2 kept.issue kept.done issued done _ _ fresh.place fresh.stored.there in
    (let a = kept.answered_before in let b = gone.issued_after in omega arith)
