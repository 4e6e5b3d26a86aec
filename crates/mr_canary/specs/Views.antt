-- When notes are what clients saw of a history, and that none of them convicts where the history is safe.
use Rattle.std.specs.Prelude.{◌≡◌, ◌≢◌, ℕ, ◌<◌, ◌≤◌, ℤ, Bool, List, [], ◌∷◌}
use Rattle.mr_text.specs.declared.request.Request.{Request}
use Rattle.mr_text.specs.declared.request.Request.TheVariants as requests
use Rattle.mr_text.specs.declared.reply.Reply.{Reply}
use Rattle.mr_text.specs.declared.reply.Reply.TheVariants as replies
use Rattle.mr_history.specs.Places.{At}
use Rattle.mr_history.specs.declared.op_id.OpId.{OpId}
use Rattle.mr_history.specs.declared.entry.Author.{Author}
use Rattle.mr_history.specs.declared.entry.Entry.{Entry}
use Rattle.mr_history.specs.declared.entry.Entry.TheVariants as entries
use Rattle.mr_history.specs.History as fleet
use Rattle.mr_canary.specs.declared.note.Probe.{Probe}
use Rattle.mr_canary.specs.declared.note.Asked.{Asked}
use Rattle.mr_canary.specs.declared.note.Asked.TheVariants.{Get, Set, Delete}
use Rattle.mr_canary.specs.declared.note.Answer.{Answer}
use Rattle.mr_canary.specs.declared.note.Answer.TheVariants.{Hit, Miss, Stored, Deleted, NotFound, Unanswered}
use Rattle.mr_canary.specs.declared.note.Note.{Note}
use Rattle.mr_canary.specs.Notes.{IsIssued, IsAnswered, IsConvicted}

-- the texts of keys, and the data of a key's values
pub record Names : Type 0 where
  pub key : ℕ → List ℕ
  pub block : ℕ → ℕ → List ℕ

-- the request that a client sends to ask for it
abbrev pub Asks : Names → ℕ → Asked → Request → Type 0
Asks names key Get request = request ≡ requests.Get (names.key key ∷ [])
Asks names key (Set value) request = (flags : ℕ) × (exptime : ℤ) × (noreply : Bool) × (request ≡ requests.Set (names.key key) flags exptime (names.block key value) noreply)
Asks names key Delete request = (noreply : Bool) × (request ≡ requests.Delete (names.key key) noreply)

-- the reply that a client takes for the answer
abbrev pub Says : Names → ℕ → Answer → Reply → Type 0
Says names key (Hit value) reply = (flags : ℕ) × (reply ≡ replies.Items (record { key = names.key key; flags = flags; block = names.block key value } ∷ []))
Says names key Miss reply = reply ≡ replies.Items []
Says names key Stored reply = reply ≡ replies.Stored
Says names key Deleted reply = reply ≡ replies.Deleted
Says names key NotFound reply = reply ≡ replies.NotFound
Says names key Unanswered reply = ⊥

-- the answer is that of the history to the request: a proxy issued it after its client did, and answered it before the answer came to the client
pub record IsToldBy (names : Names) (history : List Entry) (seen : ℕ → ℕ) (probe : Probe) (asked : Asked) (answer : Answer) (place : ℕ) : Type 0 where
  pub op : OpId
  pub request : Request
  pub reply : Reply
  pub issue : ℕ
  pub done : ℕ
  pub asks : Asks names probe.key asked request
  pub says : Says names probe.key answer reply
  pub issued : fleet.IsIssued history op request issue
  pub answered : At history done (entries.Answered op reply)
  pub issued_after : seen probe.number ≤ issue
  pub answered_before : done < seen place

-- The notes are what clients saw of the history. So many of its entries had happened before each note, and each answer is told by it;
-- of a request without an answer nothing is said.
pub record IsView (names : Names) (history : List Entry) (notes : List Note) (seen : ℕ → ℕ) : Type 0 where
  pub in_order : (earlier later : ℕ) → earlier ≤ later → seen earlier ≤ seen later
  pub told : (probe : Probe) (asked : Asked) (answer : Answer) (place : ℕ) → IsIssued notes probe asked → IsAnswered notes probe answer place
      → answer ≢ Unanswered → IsToldBy names history seen probe asked answer place

-- Nothing stores a set's value once the set was answered with STORED: each of its legs is performed at most once, and no other set has its
-- value. A safe history needn't be so.
pub record ArePerformedOnce (names : Names) (history : List Entry) : Type 0 where
  pub before : (key value : ℕ) (set : OpId) (flags : ℕ) (exptime : ℤ) (noreply : Bool) (issue done : ℕ)
      → fleet.IsIssued history set (requests.Set (names.key key) flags exptime (names.block key value) noreply) issue
      → At history done (entries.Answered set replies.Stored)
      → (by : Author) (flags' place : ℕ) → At history place (entries.Stored by (names.key key) flags' (names.block key value)) → place < done

-- no hit convicts where the notes are a view of a safe history in which the legs of sets are performed at most once
abbrev pub NoFalseAlarm : Type 0
NoFalseAlarm =
    (names : Names) (history : List Entry) (notes : List Note) (seen : ℕ → ℕ)
    → IsView names history notes seen → ArePerformedOnce names history → fleet.IsSafe history
    → (get : Probe) → ¬ IsConvicted notes get
