-- The laws of the layers below that the headline rests on, and what grows with a history.
use Rattle.std.proofs.Common.{◌≡◌, ℕ, ◌+◌, ◌<◌, ◌≤◌, Bool, List, [], ◌∷◌, ◌++◌, length, slice_get, Some, Contains, inl, inr, arith}
use Rattle.mr_text.specs.declared.item.Item.{Item}
use Rattle.mr_text.specs.declared.request.Request.{Request}
use Rattle.mr_text.specs.declared.request.Request.TheVariants.{Delete}
use Rattle.mr_history.specs.declared.op_id.OpId.{OpId}
use Rattle.mr_history.specs.declared.entry.Author.{Author}
use Rattle.mr_history.specs.declared.entry.Entry.{Entry}
use Rattle.mr_history.specs.declared.entry.Entry.TheVariants as entry
use Rattle.mr_history.specs.History.{IsIssued, WasIssued, IsHit, IsFreshHit, IsSafe, IsWellFormed}
use Rattle.mr_join.specs.declared.leg_reply.LegReply.{LegReply}
use Rattle.mr_node.specs.CacheStep.{CacheStep, contents_of}
use Rattle.mr_node.specs.Recency.{CacheView, RecencyStep}
use Rattle.mr_node.specs.declared.command.NodeCommand.{NodeCommand}
use Rattle.mr_phases.specs.Pools.{read_pool, delete_pools, SomeFrom}
use Rattle.mr_phases.specs.Schedule.{Hop, IsChain, hop_of, least_interval}
use Rattle.mr_pools.specs.Names.{HasNode, name_at}
use Rattle.mr_pools.specs.Routing.{RoutingView, IsRouting}
use Rattle.mr_proxy.specs.declared.sheet.LegSheet.{LegSheet}
use Rattle.mr_proxy.specs.Sheets.{pool_at, sheets_by, IsSheetOf, GoesBy, DeletesIn}
use Rattle.mr_world.specs.declared.message.Message.{Message}
use Rattle.mr_world.specs.declared.message.Delivery.{Delivery}
use Rattle.mr_world.specs.Ground.{SetSent, DeleteSent, LegUpTo, IsSource, IsHeld, DeletesReachDown, SetsComeLater, GetsComeLater, GetComesLater, HitsAreFresh}
use Rattle.mr_world.specs.Ground.IsSource.{from_beginning, from_set}
use Rattle.mr_world.specs.Lists.{Has}
use Rattle.mr_world.proofs.Lists.{at_left, at_before, at_cases, at_new, at_one, at_within, has_left, length_left}

pub record GroundLaws : Type 0 where
  pub says : (routing : RoutingView) (hops : List Hop) (op : OpId) (u : ℕ) (request : Request) (place : ℕ) (sheet : LegSheet)
      → slice_get (sheets_by routing hops op u request) place ≡ Some sheet → IsSheetOf routing hops op u request place sheet
  pub goes_by : (routing : RoutingView) (hops : List Hop) (op : OpId) (u : ℕ) (request : Request) (place : ℕ) (sheet : LegSheet)
      → slice_get (sheets_by routing hops op u request) place ≡ Some sheet → GoesBy hops u (pool_at sheet) sheet.command
  pub deletes : (routing : RoutingView) (hops : List Hop) (op : OpId) (u : ℕ) (key : List ℕ) (noreply : Bool) (pool : ℕ)
      → Contains (delete_pools hops u) pool → DeletesIn (sheets_by routing hops op u (Delete key noreply)) op pool key
  pub hop_within : (hops : List Hop) (t : ℕ) → 0 < length hops → hop_of hops t < length hops
  pub overlap : (hops : List Hop) (t u : ℕ) → IsChain hops → t ≤ u + least_interval hops → u ≤ t + least_interval hops
      → Contains (delete_pools hops u) (read_pool hops t)
  pub read_up : (hops : List Hop) (t u : ℕ) → IsChain hops → t ≤ u → read_pool hops t ≤ read_pool hops u
  pub deletes_up : (hops : List Hop) (t u pool : ℕ) → IsChain hops → t ≤ u → Contains (delete_pools hops t) pool → SomeFrom (delete_pools hops u) pool
  pub cache : (old new : CacheView) (now : ℕ) (command : NodeCommand) (reply : LegReply)
      → RecencyStep old now command reply new → CacheStep (contents_of old.items) command reply (contents_of new.items)
  pub stand_once : (routing : RoutingView) (p q i j : ℕ) → IsRouting routing → HasNode routing p i → HasNode routing q j
      → name_at routing p i ≡ name_at routing q j → (p ≡ q) × (i ≡ j)
  pub fresh_grows : (history later : List Entry) (item : Item) (issue answer : ℕ) → IsWellFormed (history ++ later) → IsFreshHit history item issue answer
      → issue ≤ length history → IsFreshHit (history ++ later) item issue answer
  pub safe_grows : (history : List Entry) (entry : Entry) → IsWellFormed (history ++ entry ∷ []) → IsSafe history
      → ((get : OpId) (item : Item) (issue index : ℕ) → IsHit (history ++ entry ∷ []) get item issue (length history) index
      → IsFreshHit (history ++ entry ∷ []) item issue (length history))
      → IsSafe (history ++ entry ∷ [])

-- what was sent

pub delete_grows : {S : List Message} {d : OpId} {key : List ℕ} {Goal : ℕ → Type 0} (T : List Message) → DeleteSent S d key Goal → DeleteSent (S ++ T) d key Goal
delete_grows T leg = record { message = leg.message; has = has_left T leg.has; same_op = leg.same_op; command = leg.command; pool = leg.pool }

pub up_higher : {S : List Message} {d : OpId} {key : List ℕ} {pool : ℕ} (high : ℕ) → pool ≤ high → LegUpTo S d key pool → LegUpTo S d key high
up_higher high above leg = record { message = leg.message; has = leg.has; same_op = leg.same_op; command = leg.command; pool = (let l = leg.pool in omega arith) }

pub set_grows : {S : List Message} {by : OpId} {item : Item} {pool : ℕ} (T : List Message) → SetSent S by item pool → SetSent (S ++ T) by item pool
set_grows T s = record { message = s.message; has = has_left T s.has; same_op = s.same_op; exptime = s.exptime; command = s.command; pool = s.pool }

pub source_grows : {S : List Message} {item : Item} {pool : ℕ} {by : Author} (T : List Message) → IsSource S item pool by → IsSource (S ++ T) item pool by
source_grows T (from_beginning first) = from_beginning first
source_grows T (from_set s) = from_set (set_grows T s)

-- what happened

abbrev pub still_issued : {H : List Entry} {op : OpId} (K : List Entry) → WasIssued H op → WasIssued (H ++ K) op
still_issued K was = record { place = was.place; request = was.request; issued = record { proxy = was.issued.proxy; there = at_left K was.issued.there } }

pub issued_early : {H : List Entry} (K : List Entry) {op : OpId} {q : Request} {i : ℕ} → IsIssued (H ++ K) op q i → i < length H → IsIssued H op q i
issued_early {H = H} K issued below = record { proxy = issued.proxy; there = at_before H K issued.there below }

-- entries of which none is an issue
abbrev pub IssuesNothing : List Entry → Type 0
IssuesNothing K = (op : OpId) (proxy : ℕ) (q : Request) → Has K (entry.Issued op proxy q) → ⊥

pub issued_quiet : {H K : List Entry} → IssuesNothing K → {op : OpId} {q : Request} {i : ℕ} → IsIssued (H ++ K) op q i → IsIssued H op q i
issued_quiet {H = H} {K = K} quiet {op = op} {q = q} issued =
    elim (at_cases H K issued.there) [
      | inl old ↦ record { proxy = issued.proxy; there = old }
      | inr new ↦ absurd (quiet op issued.proxy q (new.1))
    ]

pub down_quiet : (hops : List Hop) {readings : List ℕ} {S : List Message} {H K : List Entry} → DeletesReachDown hops readings S H → IssuesNothing K
    → DeletesReachDown hops readings S (H ++ K)
down_quiet hops down quiet = λ d key noreply issue number reading issued clock. down d key noreply issue number reading (issued_quiet quiet issued) clock

-- a set that is performed now comes after all that was issued
pub sets_quiet : {S : List Message} {H K : List Entry} → SetsComeLater S H → IssuesNothing K → SetsComeLater S (H ++ K)
sets_quiet {H = H} {K = K} later quiet = λ by d item stored pool place issue key noreply sent at issued.
    let old = issued_quiet quiet issued in
    elim (at_cases H K at) [
      | inl before ↦ later by d item stored pool place issue key noreply sent before old
      | inr new ↦ inl (let below = at_within old.there in let past = new.0 in omega arith)
    ]

pub get_grows : {S : List Message} {H : List Entry} {m : Message} (T : List Message) (K : List Entry) → GetComesLater S H m → GetComesLater (S ++ T) (H ++ K) m
get_grows T K g = record {
  was = still_issued K g.was;
  not_above = λ d key noreply issue issued early.
      delete_grows T (g.not_above d key noreply issue (issued_early K issued (let w = at_within g.was.issued.there in omega arith)) early);
}

pub get_grows_history : {S : List Message} {H : List Entry} {m : Message} (K : List Entry) → GetComesLater S H m → GetComesLater S (H ++ K) m
get_grows_history K g = record {
  was = still_issued K g.was;
  not_above = λ d key noreply issue issued early. g.not_above d key noreply issue (issued_early K issued (let w = at_within g.was.issued.there in omega arith)) early;
}

pub gets_grow : {S : List Message} {H : List Entry} (K : List Entry) → GetsComeLater S H → GetsComeLater S (H ++ K)
gets_grow K later = λ m key has is. get_grows_history K (later m key has is)

-- an item stays held where no new entry removes it
pub held_grows : {S : List Message} {H K : List Entry} {pool : ℕ} {item : Item} → IsHeld S H pool item
    → ((m : Message) → Has S m → pool_at m.sheet ≡ pool → Has K (entry.Removed m.sheet.id.op m.sheet.side item.key) → ⊥) → IsHeld S (H ++ K) pool item
held_grows {H = H} {K = K} h none = record {
  by = h.by;
  place = h.place;
  stored = at_left K h.stored;
  source = h.source;
  unremoved = λ m gone has there at. elim (at_cases H K at) [ inl old ↦ h.unremoved m gone has there old | inr new ↦ absurd (none m has there (new.1)) ];
}

module _ (L : GroundLaws) where
  -- what is fresh by now stays so
  pub fresh_more : (H K : List Entry) (item : Item) (issue : ℕ) → IsWellFormed (H ++ K) → issue ≤ length H → IsFreshHit H item issue (length H)
      → IsFreshHit (H ++ K) item issue (length (H ++ K))
  fresh_more H K item issue formed early f =
      let g = L.fresh_grows H K item issue (length H) formed f early in
      record { place = g.place; stored = g.stored; before = (let b = g.before in let l = length_left H K in omega arith); after = g.after }

  pub hits_more : (S : List Message) (R : List Delivery) (H K : List Entry) → IsWellFormed (H ++ K) → HitsAreFresh S R H → HitsAreFresh S R (H ++ K)
  hits_more S R H K formed fresh = λ m flags block c.
      let f = fresh m flags block c in
      let below = at_within (f.0).issued.there in
      (still_issued K (f.0), fresh_more H K _ _ formed (omega arith) (f.1))

  -- an entry that answers nothing leaves a safe history safe
  pub safe_quiet : (H : List Entry) (e : Entry) → IsWellFormed (H ++ e ∷ []) → IsSafe H → ((get : OpId) (reply : _) → e ≡ entry.Answered get reply → ⊥)
      → IsSafe (H ++ e ∷ [])
  safe_quiet H e formed safe silent =
      L.safe_grows H e formed safe (λ get item issue index hit. absurd (silent get _ (at_one (at_new H e) hit.answered)))
