-- What is known of a key, and how one more note changes it.
use Rattle.std.proofs.Common.{◌≡◌, ◌≢◌, ◌∙◌, ℕ, zero, suc, ◌+◌, ◌<◌, ◌≤◌, ◌==◌, inl, inr, Bool, true, false, List, [], ◌∷◌, ◌++◌, length, map, slice_get, cond, Option, Some, None, refl, sym, ap, subst, arith, eqb-true, eq-eqb}
use Rattle.std.specs.List.{filter}
use Rattle.std.proofs.lemmas.Bool.{leb-true, leb-false, ltb-true, ltb-false, eqb-false}
use Rattle.std.proofs.lemmas.List.Sums.{length-filter, count_by-le-length}
use Rattle.std.proofs.lemmas.List.{length-map}
use Rattle.mr_history.specs.Places.{At}
use Rattle.mr_history.proofs.Lists.{any_place, at_last, at_left, at_one, at_within, none_passes}
use Rattle.mr_canary.specs.declared.note.Probe.{Probe}
use Rattle.mr_canary.specs.declared.note.Asked.TheVariants.{Set, Delete}
use Rattle.mr_canary.specs.declared.note.Answer.{Answer}
use Rattle.mr_canary.specs.declared.note.Answer.TheVariants.{Stored}
use Rattle.mr_canary.specs.declared.note.Note.{Note}
use Rattle.mr_canary.specs.declared.note.Note.TheVariants.{Issued, Answered}
use Rattle.mr_canary.specs.declared.watched.Kept.{Kept}
use Rattle.mr_canary.specs.Notes.{IsIssued, IsStored, IsAcknowledged, Acknowledges, sets_of, is_set_of}
use Rattle.mr_canary.specs.steps.Watched.{WatchedView, acknowledged, first_stored, fresh_watched, has_value, is_later, keeps, marked, outlives, with_set}
use Rattle.mr_canary.specs.steps.Knowing.{AreOrdered, IsForgotten, IsGone, IsLatest, IsNotAfter, IsStoredBefore, KnowsDelete, KnowsKey, KnowsStored}
use Rattle.mr_canary.proofs.NoteLemmas.{acknowledged_is, acknowledged_stays, acknowledged_was, issue_is, issued_before, sets_one_more, sets_same, stored_is, stored_stays, stored_was}

-- places in lists that were changed

got_mapped : {X : Type 0} (f : X → X) (xs : List X) (i : ℕ) (y : X) → slice_get (map f xs) i ≡ Some y → (x : X) × (slice_get xs i ≡ Some x) × (y ≡ f x)
got_mapped f [] i y there = cc
got_mapped f (x ∷ xs) zero y there = (x, refl, cc)
got_mapped f (x ∷ xs) (suc i) y there = got_mapped f xs i y there

pub at_mapped : {X : Type 0} (f : X → X) (xs : List X) {i : ℕ} {y : X} → At (map f xs) i y → (x : X) × At xs i x × (y ≡ f x)
at_mapped f xs {i = i} {y = y} there = let (x, was, is) = got_mapped f xs i y there.gets in (x, record { gets = was }, is)

pub got_map : {X Y : Type 0} (f : X → Y) (xs : List X) (i : ℕ) (x : X) → slice_get xs i ≡ Some x → slice_get (map f xs) i ≡ Some (f x)
got_map f [] i x there = cc
got_map f (y ∷ ys) zero x there = (let same : y ≡ x = cc in rw same refl)
got_map f (y ∷ ys) (suc i) x there = got_map f ys i x there

got_filtered : {X : Type 0} (test : X → Bool) (xs : List X) (i : ℕ) (x : X) → slice_get (filter test xs) i ≡ Some x → (j : ℕ) × (slice_get xs j ≡ Some x) × (test x ≡ true)
got_filtered test [] i x there = cc
got_filtered test (y ∷ ys) i x there = by_head (test y) refl (λ k got. got_filtered test ys k x got) i there
  where
    by_head : (b : Bool) → test y ≡ b → ((k : ℕ) → slice_get (filter test ys) k ≡ Some x → (j : ℕ) × (slice_get ys j ≡ Some x) × (test x ≡ true))
        → (i : ℕ) → slice_get (cond b (y ∷ filter test ys) (filter test ys)) i ≡ Some x → (j : ℕ) × (slice_get (y ∷ ys) j ≡ Some x) × (test x ≡ true)
    by_head true is others zero there = (0, there, (let same : y ≡ x = cc in subst (λ z. test z ≡ true) same is))
    by_head true is others (suc i) there = (let (j, was, passes) = others i there in (suc j, was, passes))
    by_head false is others i there = (let (j, was, passes) = others i there in (suc j, was, passes))

pub at_filtered : {X : Type 0} (test : X → Bool) (xs : List X) {i : ℕ} {x : X} → At (filter test xs) i x → (j : ℕ) × At xs j x × (test x ≡ true)
at_filtered test xs {i = i} {x = x} there = let (j, was, passes) = got_filtered test xs i x there.gets in (j, record { gets = was }, passes)

got_passing : {X : Type 0} (test : X → Bool) (xs : List X) (j : ℕ) (x : X) → slice_get xs j ≡ Some x → test x ≡ true → (i : ℕ) × (slice_get (filter test xs) i ≡ Some x)
got_passing test [] j x there passes = cc
got_passing test (y ∷ ys) zero x there passes = (let same : y ≡ x = cc in let is : test y ≡ true = subst (λ z. test z ≡ true) (sym same) passes in rw is (0, there))
got_passing test (y ∷ ys) (suc j) x there passes = by_head (test y) (got_passing test ys j x there passes)
  where
    by_head : (b : Bool) → (i : ℕ) × (slice_get (filter test ys) i ≡ Some x) → (i : ℕ) × (slice_get (cond b (y ∷ filter test ys) (filter test ys)) i ≡ Some x)
    by_head true (i, was) = (suc i, was)
    by_head false (i, was) = (i, was)

pub at_passing : {X : Type 0} (test : X → Bool) (xs : List X) {j : ℕ} {x : X} → At xs j x → test x ≡ true → (i : ℕ) × At (filter test xs) i x
at_passing test xs {j = j} {x = x} there passes = let (i, is) = got_passing test xs j x there.gets passes in (i, record { gets = is })

-- what is said of one value, or of the deletes, where notes that follow say nothing new of it

module _ (notes : List Note) (note : Note) (key : ℕ) where
  pub stored_known : (deleted : Option Probe) (value : ℕ) → ((set : Probe) (place : ℕ) → IsStored (notes ++ note ∷ []) set key value place → IsStored notes set key value place)
      → (stored : Option ℕ) → KnowsStored notes key deleted value stored → KnowsStored (notes ++ note ∷ []) key deleted value stored
  stored_known deleted value was None none = λ set place stored. none set place (was set place stored)
  stored_known deleted value was (Some place) (first, after) =
      (record { set = first.set; stored = stored_stays (note ∷ []) first.stored; first = λ set' place' stored. first.first set' place' (was set' place' stored) }, after)

  pub gone_known : (deleted : Option Probe) (value : ℕ) → IsGone notes key value deleted → IsGone (notes ++ note ∷ []) key value deleted
  gone_known None value gone = absurd gone
  gone_known (Some delete) value gone = record { set = gone.set; place = gone.place; stored = stored_stays (note ∷ []) gone.stored; before = gone.before }

  pub delete_known : ((delete : Probe) (place : ℕ) → IsAcknowledged (notes ++ note ∷ []) delete key place → IsAcknowledged notes delete key place)
      → (deleted : Option Probe) → KnowsDelete notes key deleted → KnowsDelete (notes ++ note ∷ []) key deleted
  delete_known was None none = λ delete place ack. none delete place (was delete place ack)
  delete_known was (Some delete) latest = record {
    place = latest.place;
    acknowledged = acknowledged_stays (note ∷ []) latest.acknowledged;
    last = λ delete' place' ack. latest.last delete' place' (was delete' place' ack);
  }

  pub sets_known : is_set_of key note ≡ false → (sets : ℕ) → sets ≡ sets_of notes key → sets ≡ sets_of (notes ++ note ∷ []) key
  sets_known other sets counted = counted ∙ sym (sets_same notes note key other)

  -- a note that says nothing of the key
  pub key_known : (room : ℕ) (watched : WatchedView) → KnowsKey notes room key watched → is_set_of key note ≡ false
      → ((set : Probe) (value : ℕ) → set.key ≡ key → IsIssued (notes ++ note ∷ []) set (Set value) → IsIssued notes set (Set value))
      → ((set : Probe) (value place : ℕ) → IsStored (notes ++ note ∷ []) set key value place → IsStored notes set key value place)
      → ((delete : Probe) (place : ℕ) → IsAcknowledged (notes ++ note ∷ []) delete key place → IsAcknowledged notes delete key place)
      → KnowsKey (notes ++ note ∷ []) room key watched
  key_known room watched known other issued stored acked = record {
    counted = sets_known other watched.sets known.counted;
    below = λ set value of_key there. known.below set value of_key (issued set value of_key there);
    kept = λ index kept there. stored_known watched.deleted kept.value (λ set place. stored set kept.value place) kept.stored (known.kept index kept there);
    gone = λ value below forgotten. gone_known watched.deleted value (known.gone value below forgotten);
    deleted = delete_known acked watched.deleted known.deleted;
    bounded = known.bounded;
  }

-- nothing is known before the first note
pub fresh_known : (room key : ℕ) → KnowsKey [] room key fresh_watched
fresh_known room key = record {
  counted = refl;
  below = λ set value of_key issued. (let e = issued.there.gets in cc);
  kept = λ index kept there. (let e = there.gets in cc);
  gone = λ value below forgotten. absurd (omega arith);
  deleted = λ delete place ack. (let e = ack.answered.there.gets in cc);
  bounded = omega arith;
}

-- a set of the key is issued
pub set_known : (notes : List Note) (room key : ℕ) (watched : WatchedView) (probe : Probe) → AreOrdered notes → KnowsKey notes room key watched → probe.key ≡ key
    → length watched.kept < room → KnowsKey (notes ++ Issued probe (Set watched.sets) ∷ []) room key (with_set watched)
set_known notes room key watched probe ordered known of_key fits = record {
  counted = counted;
  below = λ set value of set_issued. elim (issue_is notes probe (Set watched.sets) set (Set value) set_issued) [
    | inl old ↦ (let l = known.below set value of old in omega arith)
    | inr new ↦ (let same = new.1 in let e : value ≡ watched.sets = cc in omega arith)
  ];
  kept = λ index kept there. elim (at_last watched.kept _ there) [
    | inl old ↦ stored_known notes (Issued probe (Set watched.sets)) key watched.deleted kept.value (λ set place. was set kept.value place) kept.stored (known.kept index kept old)
    | inr new ↦ subst (λ (k : Kept). KnowsStored (notes ++ Issued probe (Set watched.sets) ∷ []) key watched.deleted k.value k.stored) (sym new.1)
        (λ set place stored. (let old = was set watched.sets place stored in let l = known.below set watched.sets old.of_key old.issued in omega arith))
  ];
  gone = λ value below forgotten.
      let apart : watched.sets ≢ value = forgotten (length watched.kept) _ (last_at watched.kept _) in
      gone_known notes (Issued probe (Set watched.sets)) key watched.deleted value
      (known.gone value (omega arith) (λ index kept there. forgotten index kept (at_left _ there)));
  deleted = delete_known notes (Issued probe (Set watched.sets)) key (λ delete place. acknowledged_was notes probe (Set watched.sets) ordered delete key place) watched.deleted known.deleted;
  bounded = (let long = length_pushed watched.kept (record { value = watched.sets; stored = None }) in omega arith);
}
  where
    was : (set : Probe) (value place : ℕ) → IsStored (notes ++ Issued probe (Set watched.sets) ∷ []) set key value place → IsStored notes set key value place
    was set value place = stored_was notes probe (Set watched.sets) ordered set key value place

    counted : watched.sets + 1 ≡ sets_of (notes ++ Issued probe (Set watched.sets) ∷ []) key
    counted = ap (λ n. n + 1) known.counted ∙ sym (sets_one_more notes (Issued probe (Set watched.sets)) key (eq-eqb probe.key key of_key))

    last_at : (xs : List Kept) (x : Kept) → At (xs ++ x ∷ []) (length xs) x
    last_at xs x = record { gets = got_pushed xs x }
      where
        got_pushed : (xs : List Kept) (x : Kept) → slice_get (xs ++ x ∷ []) (length xs) ≡ Some x
        got_pushed [] x = refl
        got_pushed (y ∷ ys) x = got_pushed ys x

    length_pushed : (xs : List Kept) (x : Kept) → length (xs ++ x ∷ []) ≡ length xs + 1
    length_pushed [] x = refl
    length_pushed (y ∷ ys) x = (let e = length_pushed ys x in omega arith)

-- a set of the key is answered with STORED
module _ (notes : List Note) (room key : ℕ) (watched : WatchedView) (probe : Probe) (value : ℕ)
    (ordered : AreOrdered notes) (known : KnowsKey notes room key watched) (of_key : probe.key ≡ key) (issued : IsIssued notes probe (Set value)) where
  -- what is stored now is this value
  others : (set : Probe) (value' place : ℕ) → value' ≢ value → IsStored (notes ++ Answered probe.number Stored ∷ []) set key value' place → IsStored notes set key value' place
  others set value' place apart stored = elim (stored_is notes probe.number Stored set key value' place stored) [
    | inl old ↦ old
    | inr new ↦
        let there = subst (λ n. At notes n (Issued set (Set value'))) new.1 new.4.there in
        let same = at_one there issued.there in
        absurd (apart cc)
  ]

  stored_now : IsStored (notes ++ Answered probe.number Stored ∷ []) probe key value (length notes)
  stored_now = record {
    of_key = of_key;
    issued = record { there = at_left _ issued.there };
    answered = record { there = record { gets = got_pushed notes } };
  }
    where
      got_pushed : (xs : List Note) → slice_get (xs ++ Answered probe.number Stored ∷ []) (length xs) ≡ Some (Answered probe.number Stored)
      got_pushed [] = refl
      got_pushed (y ∷ ys) = got_pushed ys

  not_after : (deleted : Option Probe) → KnowsDelete notes key deleted → IsNotAfter deleted (length notes)
  not_after None none = tt
  not_after (Some delete) latest = (let l = at_within latest.acknowledged.issued.there in omega arith)

  stored_marked : (stored : Option ℕ) → KnowsStored notes key watched.deleted value stored
      → KnowsStored (notes ++ Answered probe.number Stored ∷ []) key watched.deleted value (first_stored (length notes) stored)
  stored_marked None none = (
    record {
      set = probe;
      stored = stored_now;
      first = λ set place stored. elim (stored_is notes probe.number Stored set key value place stored) [
        | inl old ↦ absurd (none set place old)
        | inr new ↦ (let e = new.0 in omega arith)
      ];
    },
    not_after watched.deleted known.deleted,
  )
  stored_marked (Some earlier) (first, after) = (
    record {
      set = first.set;
      stored = stored_stays _ first.stored;
      first = λ set place stored. elim (stored_is notes probe.number Stored set key value place stored) [
        | inl old ↦ first.first set place old
        | inr new ↦ (let e = new.0 in let l = at_within first.stored.answered.there in omega arith)
      ];
    },
    after,
  )

  one_marked : (kept : Kept) (b : Bool) → (kept.value == value) ≡ b → KnowsStored notes key watched.deleted kept.value kept.stored
      → let new : Kept = cond b (record { value = kept.value; stored = first_stored (length notes) kept.stored }) kept in
      KnowsStored (notes ++ Answered probe.number Stored ∷ []) key watched.deleted new.value new.stored
  one_marked kept true is stored =
      let same : kept.value ≡ value = eqb-true kept.value value is in
      subst (λ v. KnowsStored (notes ++ Answered probe.number Stored ∷ []) key watched.deleted v (first_stored (length notes) kept.stored)) (sym same)
      (stored_marked kept.stored (subst (λ v. KnowsStored notes key watched.deleted v kept.stored) same stored))
  one_marked kept false is stored =
      stored_known notes (Answered probe.number Stored) key watched.deleted kept.value (λ set place. others set kept.value place (eqb-false kept.value value is)) kept.stored stored

  marked_value : (kept : Kept) (b : Bool) → (cond b (record { value = kept.value; stored = first_stored (length notes) kept.stored }) kept).value ≡ kept.value
  marked_value kept true = refl
  marked_value kept false = refl

  pub mark_known : KnowsKey (notes ++ Answered probe.number Stored ∷ []) room key (record watched { kept = map (marked value (length notes)) watched.kept })
  mark_known = record {
    counted = sets_known notes (Answered probe.number Stored) key refl watched.sets known.counted;
    below = λ set value' of set_issued. known.below set value' of (issued_before notes probe.number Stored set (Set value') set_issued);
    kept = λ index kept there.
        let (old, was, is) = at_mapped (marked value (length notes)) watched.kept there in
        subst (λ (k : Kept). KnowsStored (notes ++ Answered probe.number Stored ∷ []) key watched.deleted k.value k.stored) (sym is)
        (one_marked old (old.value == value) refl (known.kept index old was));
    gone = λ value' below forgotten. gone_known notes (Answered probe.number Stored) key watched.deleted value'
        (known.gone value' below (λ index kept there same.
        forgotten index (marked value (length notes) kept) (record { gets = got_map (marked value (length notes)) watched.kept index kept there.gets })
        (marked_value kept (kept.value == value) ∙ same)));
    deleted = delete_known notes (Answered probe.number Stored) key (λ delete place ack. elim (acknowledged_is notes probe.number Stored delete key place ack) [
      | inl old ↦ old
      | inr new ↦ absurd new.1
    ]) watched.deleted known.deleted;
    bounded = (let long = length-map watched.kept (marked value (length notes)) in let l = known.bounded in omega arith);
  }

-- a delete of the key is acknowledged
module _ (notes : List Note) (room key : ℕ) (watched : WatchedView) (probe : Probe) (answer : Answer)
    (ordered : AreOrdered notes) (known : KnowsKey notes room key watched) (of_key : probe.key ≡ key) (issued : IsIssued notes probe Delete) (acks : Acknowledges answer) where
  no_store : answer ≢ Stored
  no_store same = absurd (subst Acknowledges same acks)

  kept_stored : (set : Probe) (value place : ℕ) → IsStored (notes ++ Answered probe.number answer ∷ []) set key value place → IsStored notes set key value place
  kept_stored set value place stored = elim (stored_is notes probe.number answer set key value place stored) [
    | inl old ↦ old
    | inr new ↦ absurd (no_store new.2)
  ]

  acknowledged_now : IsAcknowledged (notes ++ Answered probe.number answer ∷ []) probe key (length notes)
  acknowledged_now = record {
    of_key = of_key;
    issued = record { there = at_left _ issued.there };
    answer = answer;
    answered = record { there = record { gets = got_pushed notes } };
    acknowledges = acks;
  }
    where
      got_pushed : (xs : List Note) → slice_get (xs ++ Answered probe.number answer ∷ []) (length xs) ≡ Some (Answered probe.number answer)
      got_pushed [] = refl
      got_pushed (y ∷ ys) = got_pushed ys

  -- it is the latest where it was issued after the one before
  latest_now : (deleted : Option Probe) → KnowsDelete notes key deleted → is_later deleted probe ≡ true → IsLatest (notes ++ Answered probe.number answer ∷ []) key probe
  latest_now deleted knows later = record {
    place = length notes;
    acknowledged = acknowledged_now;
    last = λ delete place ack. elim (acknowledged_is notes probe.number answer delete key place ack) [
      | inl old ↦ earlier deleted knows later delete place old
      | inr new ↦ (let e = new.0 in omega arith)
    ];
  }
    where
      earlier : (deleted : Option Probe) → KnowsDelete notes key deleted → is_later deleted probe ≡ true → (delete : Probe) (place : ℕ) → IsAcknowledged notes delete key place
          → delete.number ≤ probe.number
      earlier None none later delete place ack = absurd (none delete place ack)
      earlier (Some latest) knows later delete place ack = (let a = knows.last delete place ack in let b = ltb-true latest.number probe.number later in omega arith)

  outlives_known : (deleted : Option Probe) (value : ℕ) (stored : Option ℕ) → KnowsStored notes key deleted value stored → (kept : Kept) → kept.stored ≡ stored → outlives probe.number kept ≡ true
      → KnowsStored (notes ++ Answered probe.number answer ∷ []) key (Some probe) value stored
  outlives_known deleted value None none kept same passes = λ set place stored. none set place (kept_stored set value place stored)
  outlives_known deleted value (Some place) (first, after) kept same passes =
      let not_after : probe.number ≤ place = leb-true probe.number place (subst (λ o. outlives probe.number (record { value = value; stored = o }) ≡ true) same passes) in
      (record { set = first.set; stored = stored_stays _ first.stored; first = λ set' place' stored. first.first set' place' (kept_stored set' value place' stored) }, not_after)

  -- what the delete doesn't leave was stored before it was issued
  dropped : (deleted : Option Probe) (value : ℕ) (stored : Option ℕ) → KnowsStored notes key deleted value stored → (kept : Kept) → kept.stored ≡ stored → outlives probe.number kept ≡ false
      → IsStoredBefore (notes ++ Answered probe.number answer ∷ []) key value probe
  dropped deleted value None none kept same fails =
      (let bad : true ≡ false = subst (λ o. outlives probe.number (record { value = value; stored = o }) ≡ false) same fails in cc)
  dropped deleted value (Some place) (first, after) kept same fails = record {
    set = first.set;
    place = place;
    stored = stored_stays _ first.stored;
    before = leb-false probe.number place (subst (λ o. outlives probe.number (record { value = value; stored = o }) ≡ false) same fails);
  }

  gone_earlier : (deleted : Option Probe) (value : ℕ) → is_later deleted probe ≡ true → IsGone notes key value deleted → IsStoredBefore (notes ++ Answered probe.number answer ∷ []) key value probe
  gone_earlier None value later gone = absurd gone
  gone_earlier (Some latest) value later gone = record {
    set = gone.set;
    place = gone.place;
    stored = stored_stays _ gone.stored;
    before = (let a = gone.before in let b = ltb-true latest.number probe.number later in omega arith);
  }

  gone_now : is_later watched.deleted probe ≡ true → (value : ℕ) → value < watched.sets → IsForgotten (filter (outlives probe.number) watched.kept) value
      → IsStoredBefore (notes ++ Answered probe.number answer ∷ []) key value probe
  gone_now later value below forgotten = by_kept (keeps watched.kept value) refl
    where
      by_kept : (b : Bool) → keeps watched.kept value ≡ b → IsStoredBefore (notes ++ Answered probe.number answer ∷ []) key value probe
      by_kept true is =
          let (index, kept, there, has) = any_place (has_value value) watched.kept is in
          let same : kept.value ≡ value = eqb-true kept.value value has in
          by_life kept there same (outlives probe.number kept) refl
        where
          by_life : {index : ℕ} (kept : Kept) → At watched.kept index kept → kept.value ≡ value → (b : Bool) → outlives probe.number kept ≡ b
              → IsStoredBefore (notes ++ Answered probe.number answer ∷ []) key value probe
          by_life kept there same true lives = (let (at, still) = at_passing (outlives probe.number) watched.kept there lives in absurd (forgotten at kept still same))
          by_life {index = index} kept there same false dies = subst (λ v. IsStoredBefore (notes ++ Answered probe.number answer ∷ []) key v probe) same
              (dropped watched.deleted kept.value kept.stored (known.kept index kept there) kept refl dies)
      by_kept false is = gone_earlier watched.deleted value later (known.gone value below (λ index kept there same.
          (let no = none_passes (has_value value) watched.kept index kept is there.gets in let yes : (kept.value == value) ≡ true = eq-eqb kept.value value same in cc)))

  later_known : is_later watched.deleted probe ≡ true
      → KnowsKey (notes ++ Answered probe.number answer ∷ []) room key (record watched { deleted = Some probe; kept = filter (outlives probe.number) watched.kept })
  later_known later = record {
    counted = sets_known notes (Answered probe.number answer) key refl watched.sets known.counted;
    below = λ set value of set_issued. known.below set value of (issued_before notes probe.number answer set (Set value) set_issued);
    kept = λ index kept there.
        let (old, was, passes) = at_filtered (outlives probe.number) watched.kept there in
        outlives_known watched.deleted kept.value kept.stored (known.kept old kept was) kept refl passes;
    gone = gone_now later;
    deleted = latest_now watched.deleted known.deleted later;
    bounded = (let e = length-filter (outlives probe.number) watched.kept in let l = count_by-le-length (outlives probe.number) watched.kept in let b = known.bounded in omega arith);
  }

  earlier_known : is_later watched.deleted probe ≡ false → KnowsKey (notes ++ Answered probe.number answer ∷ []) room key watched
  earlier_known earlier = record {
    counted = sets_known notes (Answered probe.number answer) key refl watched.sets known.counted;
    below = λ set value of set_issued. known.below set value of (issued_before notes probe.number answer set (Set value) set_issued);
    kept = λ index kept there. stored_known notes (Answered probe.number answer) key watched.deleted kept.value (λ set place. kept_stored set kept.value place) kept.stored (known.kept index kept there);
    gone = λ value below forgotten. gone_known notes (Answered probe.number answer) key watched.deleted value (known.gone value below forgotten);
    deleted = latest_still watched.deleted known.deleted earlier;
    bounded = known.bounded;
  }
    where
      latest_still : (deleted : Option Probe) → KnowsDelete notes key deleted → is_later deleted probe ≡ false → KnowsDelete (notes ++ Answered probe.number answer ∷ []) key deleted
      latest_still None none earlier = cc
      latest_still (Some latest) knows earlier = record {
        place = knows.place;
        acknowledged = acknowledged_stays _ knows.acknowledged;
        last = λ delete place ack. elim (acknowledged_is notes probe.number answer delete key place ack) [
          | inl old ↦ knows.last delete place old
          | inr new ↦ (let e = new.0 in let l = ltb-false latest.number probe.number earlier in omega arith)
        ];
      }

  pub acknowledge_known : KnowsKey (notes ++ Answered probe.number answer ∷ []) room key (acknowledged watched probe)
  acknowledge_known = by_order (is_later watched.deleted probe) refl
    where
      by_order : (b : Bool) → is_later watched.deleted probe ≡ b
          → KnowsKey (notes ++ Answered probe.number answer ∷ []) room key (cond b (record watched { deleted = Some probe; kept = filter (outlives probe.number) watched.kept }) watched)
      by_order true later = later_known later
      by_order false earlier = earlier_known earlier
