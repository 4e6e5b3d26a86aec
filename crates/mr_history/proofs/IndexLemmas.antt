-- What an index over the front of a history keeps, and how one more entry changes it.
use Rattle.std.proofs.Common.{◌≡◌, ◌≢◌, ◌∙◌, ℕ, ◌+◌, ◌<◌, ◌≤◌, ◌==◌, ◌&&◌, ◌||◌, inl, inr, Bool, true, false, List, [], ◌∷◌, ◌++◌, length, take, get_or, position, Option, MatchOption, Some, None, refl, sym, ap, cond, subst, arith}
use Rattle.std.proofs.lemmas.Bool.{cases_lt}
use Rattle.std.proofs.lemmas.Bool.Decides.{nat_tests}
use Rattle.std.proofs.lemmas.Slice.Eq.{bytes_eq-Decides}
use Rattle.std.proofs.lemmas.Option.{slice_get-get_or}
use Rattle.std.proofs.lemmas.List.Quantifiers.{position-Some}
use Rattle.std.proofs.lemmas.List.Folds.{list_any_more}
use Rattle.std.specs.List.{list_any}
use Rattle.std.specs.HashMap.{HashMap, get}
use denote.Ref.{Bor}
use Rattle.std.specs.Str.{bytes_eq}
use Rattle.std.specs.Map.{update}
use Rattle.mr_text.specs.declared.item.Item.{Item}
use Rattle.mr_text.specs.declared.request.Request.{Request}
use Rattle.mr_text.specs.declared.request.Request.TheVariants.{Get, Set, Delete, Quit}
use Rattle.mr_text.specs.declared.reply.Reply.{Reply}
use Rattle.mr_history.specs.declared.op_id.OpId.{OpId}
use Rattle.mr_history.specs.declared.entry.Entry.{Entry}
use Rattle.mr_history.specs.declared.entry.Entry.TheVariants.{Issued, Stored, Removed, Answered}
use Rattle.mr_history.specs.declared.deletes.Bound.{Bound}
use Rattle.mr_history.specs.declared.deletes.Deletes.{Deletes}
use Rattle.mr_history.specs.OpIds.{is_same_op}
use Rattle.mr_history.specs.Places.{At}
use Rattle.mr_history.specs.History.{IsIssued, WasIssued, IsAcknowledged, IsStored, IsFreshHit, IsWellFormed}
use Rattle.mr_history.specs.steps.Tests.{is_stored, is_issued_get, is_acknowledged, acknowledges, issued_delete, NoConvict}
use Rattle.mr_history.specs.steps.Index.{op_eq, AreIssuedBy, AreBounds, BoundsDeletes, IsAcknowledgement, AcknowledgesNothing, KnowsIssues, IsDelete, IsNoDelete, deleted_key, deleted_key_of_request, acknowledged_op}
use Rattle.mr_history.proofs.Lists.{at_last, at_one, at_taken, at_within, position_none}
use Rattle.mr_history.proofs.TestLemmas.{same_op, same_op_true, stored_entry, issued_get_entry}
use Rattle.mr_history.proofs.FormLemmas.{issued_once}

-- a bound holds of fewer places, and a later one bounds too
pub bound_weakens : {history : List Entry} {key : List ℕ} {place place' latest latest' : ℕ} → AreIssuedBy history key place latest → place' ≤ place → latest ≤ latest'
    → AreIssuedBy history key place' latest'
bound_weakens bound fewer later = record {
  early = λ delete start done ack before. (let below = bound.early delete start done ack (omega arith) in omega arith);
}

-- one more place bounds what it acknowledges
pub bound_grows : {history : List Entry} {key : List ℕ} {place latest : ℕ} → AreIssuedBy history key place latest
    → ((delete : OpId) (start : ℕ) → IsAcknowledged history delete key start place → start ≤ latest) → AreIssuedBy history key (place + 1) latest
bound_grows {history = history} {key = key} {place = place} bound here = record {
  early = λ delete start done ack before. elim (cases_lt done place) [
    | inl this ↦ bound.early delete start done ack this
    | inr other ↦
        let same : done ≡ place = omega arith in
        here delete start (subst (λ k. IsAcknowledged history delete key start k) same ack)
  ];
}

pub bound_added : (old new : Deletes) (start place : ℕ) → new.bounds.items ≡ old.bounds.items ++ (record { place = place; latest = old.latest }) ∷ []
    → old.latest ≤ new.latest → start ≤ new.latest
    → (history : List Entry) (key : List ℕ) → IsAcknowledgement history key start place → AreBounds history key place old → AreBounds history key (place + 1) new
bound_added old new start place items later latest history key only bounds = record {
  bounds = λ index bound there. elim (at_last old.bounds.items _ (subst (λ l. At l index bound) items there)) [
    | inl this ↦ bounds.bounds index bound this
    | inr last ↦ subst (λ (b : Bound). AreIssuedBy history key b.place b.latest) (sym last.1) bounds.all
  ];
  all = bound_grows (bound_weakens bounds.all (omega arith) later) (λ delete start' ack. (let same = (only.only delete key start' ack).1 in omega arith));
}

-- an acknowledgement of another key's delete changes no bound
pub others_bounded : (history : List Entry) (key : List ℕ) (start place : ℕ) → IsAcknowledgement history key start place → (key' : List ℕ) → key' ≢ key
    → (found : Option Deletes) → BoundsDeletes history key' place found → BoundsDeletes history key' (place + 1) found
others_bounded history key start place only key' apart None bounded = bound_grows bounded (λ delete start' ack. absurd (apart (only.only delete key' start' ack).0))
others_bounded history key start place only key' apart (Some deletes) bounded = record {
  bounds = bounded.bounds;
  all = bound_grows bounded.all (λ delete start' ack. absurd (apart (only.only delete key' start' ack).0));
}

-- what is found of a key where one of its deletes was noted
pub noted : (find find_new : List ℕ → Option Deletes) (history : List Entry) (key : List ℕ) (start place : ℕ) (new : Deletes) → IsAcknowledgement history key start place
    → ((key' : List ℕ) → BoundsDeletes history key' place (find key')) → AreBounds history key (place + 1) new
    → (key' : List ℕ) → find_new key' ≡ cond (bytes_eq key key') (Some new) (find key') → BoundsDeletes history key' (place + 1) (find_new key')
noted find find_new history key start place new only bounded added key' found =
    subst (λ o. BoundsDeletes history key' (place + 1) o) (sym found)
    (elim (bytes_eq key key') as (λ b. bytes_eq key key' ≡ b → BoundsDeletes history key' (place + 1) (cond b (Some new) (find key'))) [
      | true ↦ λ e. let same : key ≡ key' = (bytes_eq-Decides key key').0 e in subst (λ k. AreBounds history k (place + 1) new) same added
      | false ↦ λ e. others_bounded history key start place only key'
          (λ same. let yes : bytes_eq key key' ≡ true = (bytes_eq-Decides key key').1 (sym same) in cc)
          (find key') (bounded key')
    ] refl)

-- what is found where something was taken out at a key and put back there
pub put_back : (key bytes bytes' : List ℕ) (new : Deletes) (q : List ℕ) (find find_taken find_new : List ℕ → Option Deletes) → bytes ≡ key → bytes' ≡ key
    → find_taken q ≡ update bytes_eq find bytes None q → find_new q ≡ update bytes_eq find_taken bytes' (Some new) q → find_new q ≡ cond (bytes_eq key q) (Some new) (find q)
put_back key bytes bytes' new q find find_taken find_new same same' taken put =
    let taken : find_taken q ≡ cond (bytes_eq key q) None (find q) = subst (λ b. find_taken q ≡ cond (bytes_eq b q) None (find q)) same taken in
    let put : find_new q ≡ cond (bytes_eq key q) (Some new) (find_taken q) = subst (λ b. find_new q ≡ cond (bytes_eq b q) (Some new) (find_taken q)) same' put in
    put ∙ (elim (bytes_eq key q) as (λ b. find_taken q ≡ cond b None (find q) → cond b (Some new) (find_taken q) ≡ cond b (Some new) (find q)) [
      | true ↦ λ e. refl
      | false ↦ λ e. e
    ]) taken

-- where nothing is acknowledged no bound changes
pub nothing_bounded : (history : List Entry) (place : ℕ) → AcknowledgesNothing history place → (key : List ℕ) (found : Option Deletes)
    → BoundsDeletes history key place found → BoundsDeletes history key (place + 1) found
nothing_bounded history place none key None bounded = bound_grows bounded (λ delete start ack. absurd (none delete key start ack))
nothing_bounded history place none key (Some deletes) bounded = record {
  bounds = bounded.bounds;
  all = bound_grows bounded.all (λ delete start ack. absurd (none delete key start ack));
}

-- an op that was issued in what was read is known
pub issue_known : {S : Type 0} (history : List Entry) (read : ℕ) (map : HashMap OpId ℕ S) (op : OpId) → IsWellFormed history → KnowsIssues history read map → WasIssued (take read history) op
    → (request : Request) (place : ℕ) → IsIssued history op request place → (place < read) × (get op_eq map op ≡ Some place)
issue_known history read map op formed known was request place issued =
    let (below, there) = at_taken read history was.issued.there in
    let first : IsIssued history op was.request was.place = record { proxy = was.issued.proxy; there = there } in
    let same : place ≡ was.place = issued_once formed issued first in
    let within : place < read = omega arith in
    (within, known op request place issued within)

-- the entry of an op that was issued in what was read stands where the map has it
pub issue_read : {S : Type 0} (history : List Entry) (read : ℕ) (map : HashMap OpId ℕ S) (op : OpId) → IsWellFormed history → KnowsIssues history read map → WasIssued (take read history) op
    → (place : ℕ) × (proxy : ℕ) × (request : Request) × At history place (Issued op proxy request) × (place < read) × (get op_eq map op ≡ Some place)
issue_read history read map op formed known was =
    let (below, there) = at_taken read history was.issued.there in
    (was.place, was.issued.proxy, was.request, there, below, known op was.request was.place (record { proxy = was.issued.proxy; there = there }) below)

deleting_request : (key : List ℕ) (request : Request) → deleted_key_of_request request ≡ Some key → (noreply : Bool) × (request ≡ Delete key noreply)
deleting_request key (Get keys) h = cc
deleting_request key (Set key' flags exptime block noreply) h = cc
deleting_request key (Delete key' noreply) h = (noreply, cc)
deleting_request key Quit h = cc

-- what stands where the map has the op
module _ {S : Type 0} (history : List Entry) (read : ℕ) (map : HashMap OpId ℕ S) (op : OpId) (formed : IsWellFormed history) (known : KnowsIssues history read map)
    (was : WasIssued (take read history) op) where
  pub never_unknown : get op_eq map op ≡ None → ⊥
  never_unknown none = let (place, proxy, request, there, below, found) = issue_read history read map op formed known was in cc

  pub never_past : (start : ℕ) → get op_eq map op ≡ Some start → length history ≤ start → ⊥
  never_past start found past =
      let (place, proxy, request, there, below, found') = issue_read history read map op formed known was in
      let same : start ≡ place = cc in
      let within = at_within there in
      omega arith

  pub issued_here : (start : ℕ) → get op_eq map op ≡ Some start → (entry : Entry) → At history start entry
      → (proxy : ℕ) × (request : Request) × (entry ≡ Issued op proxy request)
  issued_here start found entry there =
      let (place, proxy, request, there', below, found') = issue_read history read map op formed known was in
      let same : place ≡ start = cc in
      (proxy, request, at_one there (subst (λ k. At history k (Issued op proxy request)) same there'))

  pub delete_here : (start : ℕ) → get op_eq map op ≡ Some start → (entry : Entry) → At history start entry → (key : List ℕ) → deleted_key entry ≡ Some key → IsDelete history op key start
  delete_here start found entry there key deletes =
      let (proxy, request, same) = issued_here start found entry there in
      let (noreply, same') = deleting_request key request (subst (λ e. deleted_key e ≡ Some key) same deletes) in
      record { noreply = noreply; issued = record { proxy = proxy; there = subst (λ r. At history start (Issued op proxy r)) same' (subst (At history start) same there) } }

  pub no_delete_here : (start : ℕ) → get op_eq map op ≡ Some start → (entry : Entry) → At history start entry → deleted_key entry ≡ None → IsNoDelete history op
  no_delete_here start found entry there none key start' delete =
      let (below, found') = issue_known history read map op formed known was _ start' delete.issued in
      let same : start' ≡ start = cc in
      let there' = subst (λ k. At history k (Issued op delete.issued.proxy (Delete key delete.noreply))) same delete.issued.there in
      let deletes : deleted_key entry ≡ Some key = ap deleted_key (at_one there there') in
      cc

-- the answer to an op acknowledges that op alone
pub acknowledges_delete : (history : List Entry) (op : OpId) (reply : Reply) (key : List ℕ) (start place : ℕ) → IsWellFormed history → At history place (Answered op reply)
    → IsDelete history op key start → IsAcknowledgement history key start place
acknowledges_delete history op reply key start place formed there delete = record {
  only = λ delete' key' start' ack.
      let same = at_one ack.answered there in
      let op_same : delete' ≡ op = cc in
      let issued = subst (λ o. IsIssued history o (Delete key' ack.noreply) start') op_same ack.issued in
      let place_same : start' ≡ start = issued_once formed issued delete.issued in
      let one = at_one (subst (λ k. At history k (Issued op issued.proxy (Delete key' ack.noreply))) place_same issued.there) delete.issued.there in
      (cc, place_same);
}

pub acknowledges_none : (history : List Entry) (op : OpId) (reply : Reply) (place : ℕ) → At history place (Answered op reply) → IsNoDelete history op → AcknowledgesNothing history place
acknowledges_none history op reply place there none delete key start ack =
    let same = at_one ack.answered there in
    let op_same : delete ≡ op = cc in
    none key start (record { noreply = ack.noreply; issued = subst (λ o. IsIssued history o (Delete key ack.noreply) start) op_same ack.issued })

-- the derived test of two names says whether they are equal
pub same_op_is : (a b : OpId) → is_same_op a b ≡ op_eq a b
same_op_is a b = both (a.proxy == b.proxy) (a.incarnation == b.incarnation) (a.number == b.number)
  where
    both : (p q r : Bool) → ((p && q) && r) ≡ (p && (q && r))
    both true q r = refl
    both false q r = refl

pub op_eq_true : (a b : OpId) → op_eq a b ≡ true → a ≡ b
op_eq_true a b h = same_op a b (same_op_is a b ∙ h)

pub op_eq_refl : (a : OpId) → op_eq a a ≡ true
op_eq_refl a = grind (arith, nat_tests)

-- the issues stay known where the next entry is no Issued entry
pub known_beside : {S : Type 0} (history : List Entry) (place : ℕ) (map : HashMap OpId ℕ S) (entry : Entry) → At history place entry → KnowsIssues history place map
    → ((op : OpId) (proxy : ℕ) (request : Request) → entry ≢ Issued op proxy request) → KnowsIssues history (place + 1) map
known_beside history place map entry there known apart op request start issued below = elim (cases_lt start place) [
  | inl this ↦ known op request start issued this
  | inr other ↦
      let same : start ≡ place = omega arith in
      absurd (apart op issued.proxy request (at_one there (subst (λ k. At history k (Issued op issued.proxy request)) same issued.there)))
]

-- and where what it issues is noted
pub known_noted : {S : Type 0} (history : List Entry) (place : ℕ) (map map' : HashMap OpId ℕ S) (op : OpId) (proxy : ℕ) (request : Request) → IsWellFormed history
    → At history place (Issued op proxy request) → KnowsIssues history place map
    → ((q : OpId) → get op_eq map' q ≡ cond (op_eq op q) (Some place) (get op_eq map q)) → KnowsIssues history (place + 1) map'
known_noted history place map map' op proxy request formed there known changes op' request' start issued below =
    changes op' ∙ (elim (op_eq op op') as (λ b. op_eq op op' ≡ b → cond b (Some place) (get op_eq map op') ≡ Some start) [
      | true ↦ λ e.
          let same : op ≡ op' = op_eq_true op op' e in
          let here : IsIssued history op' request place = record { proxy = proxy; there = subst (λ o. At history place (Issued o proxy request)) same there } in
          ap Some (issued_once formed here issued)
      | false ↦ λ e. elim (cases_lt start place) [
        | inl this ↦ known op' request' start issued this
        | inr other ↦
            let same : start ≡ place = omega arith in
            let one = at_one there (subst (λ k. At history k (Issued op' issued.proxy request')) same issued.there) in
            let op_same : op ≡ op' = cc in
            let yes : op_eq op op' ≡ true = subst (λ o. op_eq op o ≡ true) op_same (op_eq_refl op) in
            cc
      ]
    ]) refl

-- an item that was stored, and behind the issue of each of its key's deletes that count
pub shown_fresh : (history : List Entry) (item : Item) (issue answer place latest : ℕ) → IsStored history item place → place < answer
    → AreIssuedBy history item.key issue latest → latest ≤ place → IsFreshHit history item issue answer
shown_fresh history item issue answer place latest stored before bound late = record {
  place = place;
  stored = stored;
  before = before;
  after = λ delete start done ack early.
      let first : start ≤ latest = bound.early delete start done ack early in
      elim (cases_lt start place) [
        | inl this ↦ this
        | inr other ↦
            let same : start ≡ place = omega arith in
            let both = at_one (subst (λ k. At history k (Issued delete ack.issued.proxy (Delete item.key ack.noreply))) same ack.issued.there) stored.there in
            cc
      ];
}

-- what an entry that passes says of the item
pub passing_stored : (history : List Entry) (item : Item) (place : ℕ) (entry : Entry) → At history place entry → is_stored item entry ≡ true → IsStored history item place
passing_stored history item place entry there passes =
    let (by, same) = stored_entry item entry passes in
    record { by = by; there = subst (λ e. At history place e) same there }

-- what is told of an op is told of its answer
pub acknowledged_told : (history : List Entry) (op : OpId) (reply : Reply) (place : ℕ) → IsWellFormed history → At history place (Answered op reply)
    → (found : Option (Bor (List ℕ) × ℕ)) → MatchOption found (IsNoDelete history op) (λ delete. IsDelete history op delete.0.now delete.1)
    → MatchOption found (AcknowledgesNothing history place) (λ delete. IsAcknowledgement history delete.0.now delete.1 place)
acknowledged_told history op reply place formed there None told = acknowledges_none history op reply place there told
acknowledged_told history op reply place formed there (Some delete) told = acknowledges_delete history op reply delete.0.now delete.1 place formed there told

-- where a get was issued, by what stands where the map has it
module _ {S : Type 0} (history : List Entry) (read : ℕ) (map : HashMap OpId ℕ S) (get_op : OpId) (formed : IsWellFormed history) (known : KnowsIssues history read map)
    (was : WasIssued (take read history) get_op) (start : ℕ) (found : get op_eq map get_op ≡ Some start) (entry : Entry) (there : At history start entry) where
  issued_at : (i : ℕ) → position (is_issued_get get_op) history ≡ Some i → (proxy : ℕ) × (keys : List (List ℕ)) × At history i (Issued get_op proxy (Get keys))
  issued_at i first =
      let here = position-Some (is_issued_get get_op) history i entry first in
      let (proxy, keys, same) = issued_get_entry get_op _ here.1 in
      (proxy, keys, record { gets = slice_get-get_or history i entry here.0 ∙ ap Some same })

  pub get_found : is_issued_get get_op entry ≡ true → Some start ≡ position (is_issued_get get_op) history
  get_found passes =
      elim (position (is_issued_get get_op) history) as (λ o. position (is_issued_get get_op) history ≡ o → Some start ≡ o) [
        | None ↦ λ none. let fails = position_none (is_issued_get get_op) history start entry none there in cc
        | Some i ↦ λ first.
            let (proxy, keys, at_first) = issued_at i first in
            let (proxy', keys', same) = issued_get_entry get_op entry passes in
            let here : IsIssued history get_op (Get keys') start = record { proxy = proxy'; there = subst (λ e. At history start e) same there } in
            let other : IsIssued history get_op (Get keys) i = record { proxy = proxy; there = at_first } in
            ap Some (issued_once formed here other)
      ] refl

  pub get_missed : is_issued_get get_op entry ≡ false → None ≡ position (is_issued_get get_op) history
  get_missed fails =
      elim (position (is_issued_get get_op) history) as (λ (o : Option ℕ). position (is_issued_get get_op) history ≡ o → None ≡ o) [
        | None ↦ λ none. refl
        | Some i ↦ λ first.
            let (proxy, keys, at_first) = issued_at i first in
            let (below, found') = issue_known history read map get_op formed known was (Get keys) i (record { proxy = proxy; there = at_first }) in
            let same : i ≡ start = cc in
            let one = at_one there (subst (λ k. At history k (Issued get_op proxy (Get keys))) same at_first) in
            let passes : is_issued_get get_op entry ≡ true = subst (λ e. is_issued_get get_op e ≡ true) (sym one) (same_op_true get_op) in
            cc
      ] refl

-- what an entry acknowledges
pub acknowledged_some : (entry : Entry) (op q : OpId) → acknowledged_op entry ≡ Some op → is_acknowledged q entry ≡ op_eq op q
acknowledged_some (Issued op' proxy request) op q h = cc
acknowledged_some (Stored by key flags block) op q h = cc
acknowledged_some (Removed op' side key) op q h = cc
acknowledged_some (Answered op' reply) op q h =
    (elim (acknowledges reply) as (λ b. cond b (Some op') None ≡ Some op → (b && is_same_op op' q) ≡ op_eq op q) [
      | true ↦ λ e. let same : op' ≡ op = cc in subst (λ o. is_same_op o q ≡ op_eq op q) (sym same) (same_op_is op q)
      | false ↦ λ e. cc
    ]) h

pub acknowledged_none : (entry : Entry) (q : OpId) → acknowledged_op entry ≡ None → is_acknowledged q entry ≡ false
acknowledged_none (Issued op' proxy request) q h = refl
acknowledged_none (Stored by key flags block) q h = refl
acknowledged_none (Removed op' side key) q h = refl
acknowledged_none (Answered op' reply) q h =
    (elim (acknowledges reply) as (λ (b : Bool). cond b (Some op') None ≡ None → (b && is_same_op op' q) ≡ false) [
      | true ↦ λ e. cc
      | false ↦ λ e. refl
    ]) h

-- the ops that are acknowledged among one entry more
more_ops : (entries : List Entry) (i : ℕ) (entry : Entry) (q : OpId) → i < length entries → entry ≡ get_or entries i entry
    → list_any (is_acknowledged q) (take (i + 1) entries) ≡ (list_any (is_acknowledged q) (take i entries) || is_acknowledged q entry)
more_ops entries i entry q below read =
    list_any_more (is_acknowledged q) entries i entry below ∙ ap (λ e. list_any (is_acknowledged q) (take i entries) || is_acknowledged q e) (sym read)

pub ops_kept : (entries : List Entry) (i : ℕ) (entry : Entry) (has : OpId → Bool) → i < length entries → entry ≡ get_or entries i entry
    → ((q : OpId) → has q ≡ list_any (is_acknowledged q) (take i entries)) → acknowledged_op entry ≡ None
    → (q : OpId) → has q ≡ list_any (is_acknowledged q) (take (i + 1) entries)
ops_kept entries i entry has below read so_far none q =
    so_far q ∙ or_false (list_any (is_acknowledged q) (take i entries)) (is_acknowledged q entry) (acknowledged_none entry q none) ∙ sym (more_ops entries i entry q below read)
  where
    or_false : (a b : Bool) → b ≡ false → a ≡ (a || b)
    or_false true b h = refl
    or_false false b h = sym h

pub ops_added : (entries : List Entry) (i : ℕ) (entry : Entry) (op : OpId) (has has_new : OpId → Bool) → i < length entries → entry ≡ get_or entries i entry
    → ((q : OpId) → has q ≡ list_any (is_acknowledged q) (take i entries)) → acknowledged_op entry ≡ Some op
    → ((q : OpId) → has_new q ≡ cond (op_eq op q) true (has q))
    → (q : OpId) → has_new q ≡ list_any (is_acknowledged q) (take (i + 1) entries)
ops_added entries i entry op has has_new below read so_far some changes q =
    changes q ∙ or_cond (op_eq op q) (has q) (list_any (is_acknowledged q) (take i entries)) (is_acknowledged q entry) (so_far q) (acknowledged_some entry op q some)
    ∙ sym (more_ops entries i entry q below read)
  where
    or_cond : (b h a c : Bool) → h ≡ a → c ≡ b → cond b true h ≡ (a || c)
    or_cond true h true c e f = refl
    or_cond true h false c e f = sym f
    or_cond false h true c e f = e
    or_cond false h false c e f = e ∙ sym f

-- no convict is issued by the next entry either
module _ (entries : List Entry) (key : List ℕ) (i : ℕ) (entry : Entry) (there : At entries i entry) where
  none_more : NoConvict entries key i → ((delete : OpId) → issued_delete key entry ≡ Some delete → list_any (is_acknowledged delete) entries ≡ false) → NoConvict entries key (i + 1)
  none_more none here = record {
    fail = λ place entry' delete below there' issued. elim (cases_lt place i) [
      | inl this ↦ none.fail place entry' delete this there' issued
      | inr other ↦
          let same : place ≡ i = omega arith in
          let one : entry' ≡ entry = at_one (subst (λ k. At entries k entry') same there') there in
          here delete (subst (λ e. issued_delete key e ≡ Some delete) one issued)
    ];
  }

  pub none_here : (delete : OpId) → issued_delete key entry ≡ Some delete → list_any (is_acknowledged delete) entries ≡ false → NoConvict entries key i → NoConvict entries key (i + 1)
  none_here delete issued fails none = none_more none (λ delete' issued'. let same : delete ≡ delete' = cc in subst (λ d. list_any (is_acknowledged d) entries ≡ false) same fails)

  pub no_delete : issued_delete key entry ≡ None → NoConvict entries key i → NoConvict entries key (i + 1)
  no_delete nothing none = none_more none (λ delete' issued'. cc)
