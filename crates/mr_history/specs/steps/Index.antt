-- What an index over the front of a history keeps of it. No clause of a public call cites these definitions.
use Rattle.std.specs.Prelude.{◌≡◌, ℕ, ◌<◌, ◌≤◌, ◌&&◌, ◌==◌, if◌then◌else◌, Bool, List, Option, Some, None}
use Rattle.std.specs.Ordering.{nat_cmp}
use Rattle.std.specs.Cmp.Lexicographic.{slice_cmp}
use Rattle.std.specs.BTreeMap.{BTreeMap, get_by}
use Rattle.std.specs.HashMap as hash
use denote.Ref.{Bor}
use Rattle.mr_text.specs.declared.request.Request.{Request}
use Rattle.mr_text.specs.declared.request.Request.TheVariants.{Delete}
use Rattle.mr_history.specs.declared.op_id.OpId.{OpId}
use Rattle.mr_history.specs.declared.entry.Entry.{Entry}
use Rattle.mr_history.specs.declared.deletes.Bound.{Bound}
use Rattle.mr_history.specs.declared.deletes.Deletes.{Deletes}
use Rattle.mr_history.specs.declared.index.Index.{Index}
use Rattle.mr_history.specs.declared.entry.Entry.TheVariants.{Issued, Answered}
use Rattle.mr_history.specs.Places.{At}
use Rattle.mr_history.specs.History.{IsIssued, IsAcknowledged}
use Rattle.mr_history.specs.steps.Tests.{acknowledges}

-- the parts of two names of requests are equal, in the order in which a derived test compares them
abbrev pub op_eq : OpId → OpId → Bool
op_eq a b = (a.proxy == b.proxy) && ((a.incarnation == b.incarnation) && (a.number == b.number))

-- each delete of the key that was acknowledged before the place was issued at the latest place or before it
pub record AreIssuedBy (history : List Entry) (key : List ℕ) (place latest : ℕ) : Type 0 where
  pub early : (delete : OpId) (start done : ℕ) → IsAcknowledged history delete key start done → done < place → start ≤ latest

-- each bound holds of the deletes of the key, and the last one of those that were acknowledged in what was read
pub record AreBounds (history : List Entry) (key : List ℕ) (read : ℕ) (deletes : Deletes) : Type 0 where
  pub bounds : (index : ℕ) (bound : Bound) → At deletes.bounds.items index bound → AreIssuedBy history key bound.place bound.latest
  pub all : AreIssuedBy history key read deletes.latest

-- without bounds no delete of the key was acknowledged
abbrev pub BoundsDeletes : List Entry → List ℕ → ℕ → Option Deletes → Type 0
BoundsDeletes history key read None = AreIssuedBy history key read 0
BoundsDeletes history key read (Some deletes) = AreBounds history key read deletes

-- what a map by key has for the bytes of a key
abbrev pub find_by_key : BTreeMap (Bor (List ℕ)) Deletes → List ℕ → Option Deletes
find_by_key map key = get_by (λ k. slice_cmp nat_cmp key k.now) map

-- the deletes of each key that were acknowledged in what was read are bounded
abbrev pub AreBounded : List Entry → ℕ → BTreeMap (Bor (List ℕ)) Deletes → Type 0
AreBounded history read map = (key : List ℕ) → BoundsDeletes history key read (find_by_key map key)

-- the place acknowledges no delete but one of this key that was issued at the start
pub record IsAcknowledgement (history : List Entry) (key : List ℕ) (start place : ℕ) : Type 0 where
  pub only : (delete : OpId) (key' : List ℕ) (start' : ℕ) → IsAcknowledged history delete key' start' place → (key' ≡ key) × (start' ≡ start)

-- the place acknowledges no delete
abbrev pub AcknowledgesNothing : List Entry → ℕ → Type 0
AcknowledgesNothing history place = (delete : OpId) (key : List ℕ) (start : ℕ) → IsAcknowledged history delete key start place → ⊥

-- it is known where each request was issued
abbrev pub KnowsIssues : {S : Type 0} → List Entry → ℕ → hash.HashMap OpId ℕ S → Type 0
KnowsIssues history read map = (op : OpId) (request : Request) (place : ℕ) → IsIssued history op request place → place < read → hash.get op_eq map op ≡ Some place

-- the index has what it keeps of the entries that were read
pub record IsIndex (index : Index) : Type 0 where
  pub issues : KnowsIssues index.entries.now index.read index.issues
  pub deletes : AreBounded index.entries.now index.read index.deletes

-- the index is one over this history, of which so many entries were read
pub record IsIndexOf (history : List Entry) (end : ℕ) (index : Index) : Type 0 where
  pub kept : IsIndex index
  pub entries : index.entries.now ≡ history
  pub read : index.read ≡ end

-- the op is a delete of this key that was issued at the start
pub record IsDelete (history : List Entry) (op : OpId) (key : List ℕ) (start : ℕ) : Type 0 where
  pub noreply : Bool
  pub issued : IsIssued history op (Delete key noreply) start

-- the op is no delete
abbrev pub IsNoDelete : List Entry → OpId → Type 0
IsNoDelete history op = (key : List ℕ) (start : ℕ) → IsDelete history op key start → ⊥

-- the bound holds of the deletes of the key, whatever was read of whatever history
abbrev pub BoundsWhatItKeeps : Deletes → ℕ → ℕ → Type 0
BoundsWhatItKeeps deletes place latest = (history : List Entry) (key : List ℕ) (read : ℕ) → AreBounds history key read deletes → place ≤ read → AreIssuedBy history key place latest

-- the op that the entry acknowledges
abbrev pub acknowledged_op : Entry → Option OpId
acknowledged_op (Answered op reply) = if acknowledges reply then Some op else None
acknowledged_op entry = None

abbrev pub deleted_key_of_request : Request → Option (List ℕ)
deleted_key_of_request (Delete key noreply) = Some key
deleted_key_of_request request = None

-- the key of the delete that the entry issues
abbrev pub deleted_key : Entry → Option (List ℕ)
deleted_key (Issued op proxy request) = deleted_key_of_request request
deleted_key entry = None
