-- What a judge of a history says, and when.
use Rattle.std.specs.Prelude.{◌≡◌, ℕ, ◌<◌, ◌≤◌, ◌⊎◌, List}
use Rattle.mr_text.specs.declared.item.Item.{Item}
use Rattle.mr_history.specs.declared.op_id.OpId.{OpId}
use Rattle.mr_history.specs.declared.entry.Entry.{Entry}
use Rattle.mr_history.specs.declared.verdict.Verdict.{Verdict}
use Rattle.mr_history.specs.declared.verdict.Verdict.TheVariants.{Safe, Stale, Invented}
use Rattle.mr_history.specs.declared.judge.Finding.{Finding}
use Rattle.mr_history.specs.declared.judge.Finding.TheVariants.{Fresh, Unstored, Outdated}
use Rattle.mr_history.specs.Places.{At}
use Rattle.mr_history.specs.History.{IsHit, IsFreshHit, IsStored, IsAcknowledged, IsSafe}

-- this answer and item come before those
abbrev pub ComesBefore : (answer index answer' index' : ℕ) → Type 0
ComesBefore answer index answer' index' = (answer < answer') ⊎ ((answer ≡ answer') × (index < index'))

-- the hit isn't fresh, and each hit before it is: by the place of the answer and then that of the item in it
pub record IsFirstBadHit (history : List Entry) (get : OpId) (item : Item) (issue answer index : ℕ) : Type 0 where
  pub hit : IsHit history get item issue answer index
  pub bad : ¬ IsFreshHit history item issue answer
  pub first : (get' : OpId) (item' : Item) (issue' answer' index' : ℕ) → IsHit history get' item' issue' answer' index'
      → ComesBefore answer' index' answer index → IsFreshHit history item' issue' answer'

-- nothing stored the item before the answer
abbrev pub IsInvented : List Entry → Item → ℕ → Type 0
IsInvented history item answer = (place : ℕ) → IsStored history item place → place < answer → ⊥

-- of the entries before the answer this is the last one that stored the item
pub record IsLastStored (history : List Entry) (item : Item) (answer place : ℕ) : Type 0 where
  pub stored : IsStored history item place
  pub before : place < answer
  pub last : (later : ℕ) → IsStored history item later → later < answer → later ≤ place

-- a delete of the key, issued at start and after what was stored, that was acknowledged before the get's issue
pub record Convicts (history : List Entry) (key : List ℕ) (stored issue : ℕ) (delete : OpId) (start : ℕ) : Type 0 where
  pub done : ℕ
  pub acknowledged : IsAcknowledged history delete key start done
  pub before : done < issue
  pub after : stored < start

-- of the deletes that convict the hit this one was issued first
pub record IsFirstConvict (history : List Entry) (key : List ℕ) (stored issue : ℕ) (delete : OpId) : Type 0 where
  pub start : ℕ
  pub convicts : Convicts history key stored issue delete start
  pub first : (delete' : OpId) (start' : ℕ) → Convicts history key stored issue delete' start' → start ≤ start'

-- the first bad hit shows an item that nothing stored
pub record ShowsInvented (history : List Entry) (get : OpId) (key : List ℕ) : Type 0 where
  pub item : Item
  pub issue : ℕ
  pub answer : ℕ
  pub index : ℕ
  pub of_key : item.key ≡ key
  pub first : IsFirstBadHit history get item issue answer index
  pub invented : IsInvented history item answer

-- the first bad hit shows an item that was stored last before the issue of this delete
pub record ShowsStale (history : List Entry) (get : OpId) (key : List ℕ) (delete : OpId) : Type 0 where
  pub item : Item
  pub issue : ℕ
  pub answer : ℕ
  pub index : ℕ
  pub stored : ℕ
  pub of_key : item.key ≡ key
  pub first : IsFirstBadHit history get item issue answer index
  pub last : IsLastStored history item answer stored
  pub convicted : IsFirstConvict history key stored issue delete

-- what each verdict says of a history: all hits are fresh, or which is the first that isn't, and why
abbrev pub Judges : List Entry → Verdict → Type 0
Judges history Safe = IsSafe history
Judges history (Invented get key) = ShowsInvented history get key.now
Judges history (Stale get key delete) = ShowsStale history get key.now delete

-- each hit of an answer before this place is fresh
pub record AreFreshBefore (history : List Entry) (end : ℕ) : Type 0 where
  pub fresh : (get : OpId) (item : Item) (issue answer index : ℕ) → IsHit history get item issue answer index → answer < end → IsFreshHit history item issue answer

-- what was found of one item of an answer
abbrev pub FindsItem : List Entry → Item → ℕ → ℕ → Finding → Type 0
FindsItem history item issue answer Fresh = IsFreshHit history item issue answer
FindsItem history item issue answer Unstored = IsInvented history item answer
FindsItem history item issue answer (Outdated delete) = (stored : ℕ) × IsLastStored history item answer stored × IsFirstConvict history item.key stored issue delete

-- the items before this index are fresh
pub record AreFreshUpTo (history : List Entry) (items : List Item) (issue answer end : ℕ) : Type 0 where
  pub fresh : (index : ℕ) (item : Item) → index < end → At items index item → IsFreshHit history item issue answer
