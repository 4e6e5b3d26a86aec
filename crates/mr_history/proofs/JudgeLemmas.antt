-- What the judge's searches tell of a hit.
use Rattle.std.proofs.Common.{◌≡◌, ◌≢◌, ◌∙◌, ℕ, ◌+◌, ◌-◌, ◌<◌, ◌≤◌, ◌⊎◌, inl, inr, true, List, length, take, drop, position, Some, None, refl, sym, ap, subst, arith}
use Rattle.std.specs.List.{list_any}
use Rattle.std.proofs.lemmas.Bool.{cases_lt}
use Rattle.std.proofs.lemmas.Option.{slice_get-get_or}
use Rattle.std.proofs.lemmas.List.Quantifiers.{position-Some}
use Rattle.mr_text.specs.declared.item.Item.{Item}
use Rattle.mr_text.specs.declared.request.Request.TheVariants.{Get, Delete}
use Rattle.mr_text.specs.declared.reply.Reply.TheVariants.{Items}
use Rattle.mr_history.specs.declared.op_id.OpId.{OpId}
use Rattle.mr_history.specs.declared.entry.Entry.{Entry}
use Rattle.mr_history.specs.declared.entry.Entry.TheVariants.{Issued, Answered}
use Rattle.mr_history.specs.Places.{At}
use Rattle.mr_history.specs.History.{IsIssued, IsAcknowledged, IsHit, IsFreshHit, IsSafe, IsWellFormed}
use Rattle.mr_history.specs.Judgement.{IsFirstBadHit, IsInvented, IsLastStored, Convicts, IsFirstConvict, ShowsInvented, ShowsStale, AreFreshBefore, AreFreshUpTo}
use Rattle.mr_history.specs.steps.Tests.{is_stored, is_issued_get, is_acknowledged, issued_delete, NonePasses, LastPasses, NoConvict, FirstConvict}
use Rattle.mr_history.proofs.Lists.{at_within, at_one, at_taken, at_take, at_dropped, at_drop, any_place, position_none}
use Rattle.mr_history.proofs.TestLemmas.{place_any, same_op_true, stored_entry, stored_passes, acknowledged_entry, acknowledged_passes, issued_get_entry, deleting_entry, deleting_passes}
use Rattle.mr_history.proofs.FormLemmas.{issued_once, answered_after}

-- nothing among the entries before the answer stores the item
pub unstored : (history : List Entry) (item : Item) (answer : ℕ) → NonePasses (is_stored item) (take answer history) 0 → IsInvented history item answer
unstored history item answer none place stored before =
    let fails = none.fail place _ (omega arith) (at_take answer history before stored.there) in
    let passes = stored_passes item stored.by in
    cc

pub stored_last : (history : List Entry) (item : Item) (answer place : ℕ) → LastPasses (is_stored item) (take answer history) place → IsLastStored history item answer place
stored_last history item answer place last =
    let (by, same) = stored_entry item last.element last.passes in
    let (below, there) = at_taken answer history last.there in
    record {
      stored = record { by = by; there = subst (λ e. At history place e) same there };
      before = below;
      last = λ later stored before. elim (cases_lt place later) [
        | inr other ↦ other
        | inl this ↦
            let fails = last.last.fail later _ (omega arith) (at_take answer history before stored.there) in
            let passes = stored_passes item stored.by in
            cc
      ];
    }

-- a delete that is issued behind what was stored last, where it is acknowledged before the get's issue
module _ (history : List Entry) (item : Item) (issue answer stored : ℕ) (formed : IsWellFormed history) (last : IsLastStored history item answer stored) where
  -- the entries from what was stored up to the get's issue
  abbrev between : List Entry
  between = take (issue - stored) (drop stored history)

  inside : (i : ℕ) (entry : Entry) → At between i entry → (stored + i < issue) × At history (stored + i) entry
  inside i entry there =
      let (below, dropped) = at_taken (issue - stored) (drop stored history) there in
      (omega arith, at_dropped stored history dropped)

  into : (place : ℕ) (entry : Entry) → stored ≤ place → place < issue → At history place entry → At between (place - stored) entry
  into place entry behind below there =
      let moved : stored + (place - stored) ≡ place = omega arith in
      at_take (issue - stored) (drop stored history) (omega arith)
      (at_drop stored history (subst (λ k. At history k entry) (sym moved) there))

  -- such a delete is seen among them
  convict_seen : (delete : OpId) (start : ℕ) → Convicts history item.key stored issue delete start
      → (entry : Entry) × At between (start - stored) entry × (issued_delete item.key entry ≡ Some delete) × (list_any (is_acknowledged delete) between ≡ true)
  convict_seen delete start convicts =
      let ack = convicts.acknowledged in
      let later : start < convicts.done = answered_after formed ack.answered ack.issued in
      let behind = convicts.after in
      let before = convicts.before in (
        _,
        into start _ (omega arith) (omega arith) ack.issued.there,
        deleting_passes item.key delete ack.issued.proxy ack.noreply,
        place_any (is_acknowledged delete) between (convicts.done - stored) _ (into convicts.done _ (omega arith) before ack.answered) (acknowledged_passes delete ack.reply ack.acknowledges),
      )

  pub none_convicts : NoConvict between item.key (length between) → (delete : OpId) (start : ℕ) → Convicts history item.key stored issue delete start → ⊥
  none_convicts none delete start convicts =
      let (entry, there, issued, acknowledged) = convict_seen delete start convicts in
      let fails = none.fail (start - stored) entry delete (at_within there) there issued in
      cc

  -- the delete was issued before or behind what was stored, never there
  issued_apart : (delete : OpId) (start done : ℕ) → IsAcknowledged history delete item.key start done → (start < stored) ⊎ (stored < start)
  issued_apart delete start done ack = elim (cases_lt start stored) [
    | inl before ↦ inl before
    | inr behind ↦ elim (cases_lt stored start) [
      | inl this ↦ inr this
      | inr other ↦
          let same : start ≡ stored = omega arith in
          let both = at_one (subst (λ k. At history k (Issued delete ack.issued.proxy (Delete item.key ack.noreply))) same ack.issued.there) last.stored.there in
          cc
    ]
  ]

  pub fresh : ((delete : OpId) (start : ℕ) → Convicts history item.key stored issue delete start → ⊥) → IsFreshHit history item issue answer
  fresh none = record {
    place = stored;
    stored = last.stored;
    before = last.before;
    after = λ delete start done ack before. elim (issued_apart delete start done ack) [
      | inl this ↦ this
      | inr other ↦ absurd (none delete start (record { done = done; acknowledged = ack; before = before; after = other }))
    ];
  }

  pub fresh_behind : issue ≤ stored → IsFreshHit history item issue answer
  fresh_behind behind = fresh (λ delete start convicts.
      let ack = convicts.acknowledged in
      let later : start < convicts.done = answered_after formed ack.answered ack.issued in
      let after = convicts.after in
      let before = convicts.before in
      omega arith)

  pub first_convicts : (delete : OpId) → FirstConvict between item.key delete → IsFirstConvict history item.key stored issue delete
  first_convicts delete first =
      let (proxy, noreply, same) = deleting_entry item.key first.entry delete first.issued in
      let (below, there) = inside first.place first.entry first.there in
      let issued : IsIssued history delete (Delete item.key noreply) (stored + first.place) = record { proxy = proxy; there = subst (λ e. At history (stored + first.place) e) same there } in
      let (done, entry, seen, passes) = any_place (is_acknowledged delete) between first.acknowledged in
      let (reply, acknowledges, same') = acknowledged_entry delete entry passes in
      let (before, answered) = inside done entry seen in
      let ack : IsAcknowledged history delete item.key (stored + first.place) (stored + done) = record {
        noreply = noreply;
        reply = reply;
        issued = issued;
        answered = subst (λ e. At history (stored + done) e) same' answered;
        acknowledges = acknowledges;
      } in
      let behind : stored < stored + first.place = elim (issued_apart delete (stored + first.place) (stored + done) ack) [ inl other ↦ absurd (omega arith) | inr this ↦ this ] in
      record {
        start = stored + first.place;
        convicts = record { done = stored + done; acknowledged = ack; before = before; after = behind };
        first = λ delete' start' convicts. elim (cases_lt start' (stored + first.place)) [
          | inr other ↦ other
          | inl this ↦
              let (entry', there', issued', acknowledged') = convict_seen delete' start' convicts in
              let after = convicts.after in
              let fails = first.first.fail (start' - stored) entry' delete' (omega arith) there' issued' in
              cc
        ];
      }

  -- what was stored before a delete that convicts it isn't fresh
  pub outdated_is_bad : (delete : OpId) → IsFirstConvict history item.key stored issue delete → ¬ IsFreshHit history item issue answer
  outdated_is_bad delete convicted fresh' =
      let first = last.last fresh'.place fresh'.stored fresh'.before in
      let convicts = convicted.convicts in
      let after = fresh'.after delete convicted.start convicts.done convicts.acknowledged convicts.before in
      let behind = convicts.after in
      omega arith

pub unstored_is_bad : (history : List Entry) (item : Item) (issue answer : ℕ) → IsInvented history item answer → ¬ IsFreshHit history item issue answer
unstored_is_bad history item issue answer invented fresh' = invented fresh'.place fresh'.stored fresh'.before

-- what stands at the place of an answer that isn't a get's, or that isn't an answer, leaves the hits fresh
pub fresh_next : (history : List Entry) (place : ℕ) → AreFreshBefore history place
    → ((get : OpId) (items : List Item) → At history place (Answered get (Items items)) → (keys : List (List ℕ)) (issue : ℕ) → IsIssued history get (Get keys) issue
    → (index : ℕ) (item : Item) → At items index item → IsFreshHit history item issue place)
    → AreFreshBefore history (place + 1)
fresh_next history place before here = record {
  fresh = λ get item issue answer index hit below. elim (cases_lt answer place) [
    | inl this ↦ before.fresh get item issue answer index hit this
    | inr other ↦
        let same : answer ≡ place = omega arith in
        let answered = subst (λ k. At history k (Answered get (Items hit.items))) same hit.answered in
        subst (λ k. IsFreshHit history item issue k) (sym same) (here get hit.items answered hit.keys issue hit.issued index item hit.has)
  ];
}

-- a place that holds something else
pub fresh_beside : (history : List Entry) (place : ℕ) (entry : Entry) → AreFreshBefore history place → At history place entry
    → ((get : OpId) (items : List Item) → entry ≢ Answered get (Items items)) → AreFreshBefore history (place + 1)
fresh_beside history place entry before there apart =
    fresh_next history place before (λ get items answered keys issue issued index item has. absurd (apart get items (at_one there answered)))

module _ (history : List Entry) (formed : IsWellFormed history) (get : OpId) (items : List Item) (answer : ℕ)
    (before : AreFreshBefore history answer) (answered : At history answer (Answered get (Items items))) where
  -- an op that isn't a get has no hit
  pub fresh_without_get : position (is_issued_get get) history ≡ None → AreFreshBefore history (answer + 1)
  fresh_without_get none = fresh_next history answer before (λ get' items' answered' keys issue issued index item has.
      let same = at_one answered answered' in
      let op : get ≡ get' = cc in
      let fails = position_none (is_issued_get get) history issue _ none issued.there in
      let passes = subst (λ o. is_issued_get get (Issued o issued.proxy (Get keys)) ≡ true) op (same_op_true get) in
      cc)

  pub get_issued : (issue : ℕ) → position (is_issued_get get) history ≡ Some issue → (keys : List (List ℕ)) × IsIssued history get (Get keys) issue
  get_issued issue found =
      let here = position-Some (is_issued_get get) history issue (Answered get (Items items)) found in
      let (proxy, keys, same) = issued_get_entry get _ here.1 in
      (keys, record { proxy = proxy; there = record { gets = slice_get-get_or history issue (Answered get (Items items)) here.0 ∙ ap Some same } })

  module _ (issue : ℕ) (found : position (is_issued_get get) history ≡ Some issue) where
    pub issued_before : issue < answer
    issued_before = let (keys, issued) = get_issued issue found in answered_after formed answered issued

    pub answer_within : answer ≤ length history
    answer_within = let below = at_within answered in omega arith

    -- each hit of this answer is an item of it
    hit_here : (get' : OpId) (item' : Item) (issue' index' : ℕ) → IsHit history get' item' issue' answer index' → (issue' ≡ issue) × At items index' item'
    hit_here get' item' issue' index' hit =
        let (keys, issued) = get_issued issue found in
        let same = at_one hit.answered answered in
        let op : get' ≡ get = cc in
        let list : hit.items ≡ items = cc in
        (issued_once formed (subst (λ o. IsIssued history o (Get hit.keys) issue') op hit.issued) issued, subst (λ l. At l index' item') list hit.has)

    pub all_fresh : AreFreshUpTo history items issue answer (length items) → AreFreshBefore history (answer + 1)
    all_fresh here = fresh_next history answer before (λ get' items' answered' keys issue' issued index item has.
        let hit : IsHit history get' item issue' answer index = record { keys = keys; items = items'; issued = issued; answered = answered'; has = has } in
        let (same, there) = hit_here get' item issue' index hit in
        subst (λ k. IsFreshHit history item k answer) (sym same) (here.fresh index item (at_within there) there))

    pub one_more : (end : ℕ) (item : Item) → AreFreshUpTo history items issue answer end → At items end item → IsFreshHit history item issue answer
        → AreFreshUpTo history items issue answer (end + 1)
    one_more end item here there fresh' = record {
      fresh = λ index item' below at. elim (cases_lt index end) [
        | inl this ↦ here.fresh index item' this at
        | inr other ↦
            let same : index ≡ end = omega arith in
            let items' = at_one (subst (λ k. At items k item') same at) there in
            subst (λ i. IsFreshHit history i issue answer) (sym items') fresh'
      ];
    }

    pub first_bad : (index : ℕ) (item : Item) → AreFreshUpTo history items issue answer index → At items index item
        → (¬ IsFreshHit history item issue answer) → IsFirstBadHit history get item issue answer index
    first_bad index item here there bad =
        let (keys, issued) = get_issued issue found in
        record {
          hit = record { keys = keys; items = items; issued = issued; answered = answered; has = there };
          bad = bad;
          first = λ get' item' issue' answer' index' hit comes. elim comes [
            | inl earlier ↦ before.fresh get' item' issue' answer' index' hit earlier
            | inr both ↦
                let hit' = subst (λ k. IsHit history get' item' issue' k index') both.0 hit in
                let (same, there') = hit_here get' item' issue' index' hit' in
                subst (λ k. IsFreshHit history item' issue' k) (sym both.0) (subst (λ k. IsFreshHit history item' k answer) (sym same) (here.fresh index' item' both.1 there'))
          ];
        }

    pub shows_invented : (index : ℕ) (item : Item) → AreFreshUpTo history items issue answer index → At items index item
        → IsInvented history item answer → ShowsInvented history get item.key
    shows_invented index item here there invented = record {
      item = item;
      issue = issue;
      answer = answer;
      index = index;
      of_key = refl;
      first = first_bad index item here there (unstored_is_bad history item issue answer invented);
      invented = invented;
    }

    pub shows_stale : (index : ℕ) (item : Item) (delete : OpId) → AreFreshUpTo history items issue answer index → At items index item
        → (stored : ℕ) × IsLastStored history item answer stored × IsFirstConvict history item.key stored issue delete → ShowsStale history get item.key delete
    shows_stale index item delete here there found' = record {
      item = item;
      issue = issue;
      answer = answer;
      index = index;
      stored = found'.0;
      of_key = refl;
      first = first_bad index item here there (outdated_is_bad history item issue answer found'.0 formed found'.1 delete found'.2);
      last = found'.1;
      convicted = found'.2;
    }

pub nothing_before : (history : List Entry) → AreFreshBefore history 0
nothing_before history = record { fresh = λ get item issue answer index hit below. absurd (omega arith) }

pub all_safe : (history : List Entry) → AreFreshBefore history (length history) → IsSafe history
all_safe history fresh' get item issue answer index hit = fresh'.fresh get item issue answer index hit (at_within hit.answered)
