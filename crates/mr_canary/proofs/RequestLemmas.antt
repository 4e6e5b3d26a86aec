-- What is known of the requests that wait, and what their answers say.
use Rattle.std.proofs.Common.{◌≡◌, ◌≢◌, ◌∙◌, ℕ, ◌+◌, ◌<◌, ◌≤◌, ◌==◌, ◌&&◌, inl, inr, Bool, true, false, not, List, [], ◌∷◌, ◌++◌, drop, length, replicate, take, slice_get, slice_set, cond, nat_eq, nat_lt, Option, Some, None, option_map, refl, sym, ap, subst, arith, eqb-true, eq-eqb}
use Rattle.std.specs.HashMap.{HashMap, Updates, get}
use Rattle.std.specs.Map.{lookup}
use Rattle.std.proofs.lemmas.Bool.{lt-ltb, ltb-true, eqb-false}
use Rattle.std.proofs.lemmas.List.{drop_all, take-append-le, take_all}
use Rattle.std.proofs.Math.Seq.{take-append_seam}
use Rattle.mr_history.specs.Places.{At}
use Rattle.mr_history.proofs.Lists.{any_place, at_before, at_left, at_one, at_within, none_passes}
use Rattle.mr_canary.specs.declared.note.Probe.{Probe}
use Rattle.mr_canary.specs.declared.note.Asked.{Asked}
use Rattle.mr_canary.specs.declared.note.Asked.TheVariants as asks
use Rattle.mr_canary.specs.declared.note.Answer.{Answer}
use Rattle.mr_canary.specs.declared.note.Answer.TheVariants.{Hit}
use Rattle.mr_canary.specs.declared.note.Note.{Note}
use Rattle.mr_canary.specs.declared.note.Note.TheVariants.{Issued, Answered}
use Rattle.mr_canary.specs.declared.note.Conviction.{Conviction}
use Rattle.mr_canary.specs.declared.waiting.Waiting.{Waiting}
use Rattle.mr_canary.specs.declared.waiting.Waiting.TheVariants.{Get, Set, Delete}
use Rattle.mr_canary.specs.Notes.{IsIssued, IsStored, IsAcknowledged, IsConvicted, IsHit, IsWaiting, Tells}
use Rattle.mr_canary.specs.JudgeView.{JudgesAnswer}
use Rattle.mr_canary.specs.steps.Watched.{WatchedView, convicting, fresh_watched, has_value, keeps, with_set}
use Rattle.mr_canary.specs.steps.Knowing.{AreOrdered, IsGone, IsNotAfter, IsNext, IsUnanswered, Knows, KnowsDelete, KnowsKey, KnowsKeys, KnowsRequest, KnowsStored, KnowsWaiting, StaysKnown, JudgesRequest}
use Rattle.mr_canary.proofs.NoteLemmas.{acknowledged_from_taken, acknowledged_stays, acknowledged_taken, answer_is, answer_was, issue_is, issued_before, issued_stays, ordered_after_answer, ordered_after_issue, stored_from_taken, stored_stays, stored_taken}
use Rattle.mr_canary.proofs.KeysLemmas.{at_set, delete_known, fresh_keys_known, get_known, long_more, sets_known}

-- a request is known to have been issued

pub number_of : (notes : List Note) (room number : ℕ) (request : Waiting) → KnowsRequest notes room number request → number < length notes
number_of notes room number (Get probe watched) (same, issued, known) = (let l = at_within issued.there in omega arith)
number_of notes room number (Set probe value) (same, issued) = (let l = at_within issued.there in omega arith)
number_of notes room number (Delete probe) (same, issued) = (let l = at_within issued.there in omega arith)

pub request_stays : (notes later : List Note) (room number : ℕ) (request : Waiting) → KnowsRequest notes room number request → KnowsRequest (notes ++ later) room number request
request_stays notes later room number (Get probe watched) (same, issued, known) =
    let within : number ≤ length notes = (let l = at_within issued.there in omega arith) in
    (same, issued_stays later issued, subst (λ n. KnowsKey n room probe.key watched) (sym (take-append-le number notes later within)) known)
request_stays notes later room number (Set probe value) (same, issued) = (same, issued_stays later issued)
request_stays notes later room number (Delete probe) (same, issued) = (same, issued_stays later issued)

-- one more request waits
module _ (notes : List Note) (room : ℕ) (ordered : AreOrdered notes) (probe : Probe) (asked : Asked) (numbered : probe.number ≡ length notes) where
  waiting_other : (number : ℕ) → number ≢ length notes → (request : Option Waiting) → KnowsWaiting notes room number request
      → KnowsWaiting (notes ++ Issued probe asked ∷ []) room number request
  waiting_other number apart None none = λ waits. elim (issue_is notes probe asked waits.probe waits.asked waits.issued) [
    | inl old ↦ none (record {
      probe = waits.probe;
      asked = waits.asked;
      numbered = waits.numbered;
      issued = old;
      unanswered = λ answer place there. waits.unanswered answer place (at_left _ there);
    })
    | inr new ↦ apart (sym waits.numbered ∙ new.0)
  ]
  waiting_other number apart (Some request) (known, unanswered) =
      (request_stays notes _ room number request known, λ answer place there. unanswered answer place (answer_was notes probe asked number answer place there))

  pub waiting_more : (request : Waiting) → KnowsRequest (notes ++ Issued probe asked ∷ []) room (length notes) request → (number : ℕ) (old new : Option Waiting)
      → KnowsWaiting notes room number old → new ≡ cond (nat_eq (length notes) number) (Some request) old → KnowsWaiting (notes ++ Issued probe asked ∷ []) room number new
  waiting_more request known number old new knows is = subst (λ o. KnowsWaiting (notes ++ Issued probe asked ∷ []) room number o) (sym is) (by_number (nat_eq (length notes) number) refl)
    where
      by_number : (b : Bool) → nat_eq (length notes) number ≡ b → KnowsWaiting (notes ++ Issued probe asked ∷ []) room number (cond b (Some request) old)
      by_number true same =
          let e : length notes ≡ number = eqb-true (length notes) number same in
          subst (λ n. KnowsWaiting (notes ++ Issued probe asked ∷ []) room n (Some request)) e (
            known,
            λ answer place there.
                let was = answer_was notes probe asked (length notes) answer place there in
                let a = ordered.later _ _ _ was in
                let b = at_within was in
                omega arith,
          )
      by_number false apart = waiting_other number (λ same. eqb-false (length notes) number apart (sym same)) old knows

-- a request waits no more
module _ (notes : List Note) (room number : ℕ) (answer : Answer) where
  waiting_still : (other : ℕ) → other ≢ number → (request : Option Waiting) → KnowsWaiting notes room other request
      → KnowsWaiting (notes ++ Answered number answer ∷ []) room other request
  waiting_still other apart None none = λ waits. none (record {
    probe = waits.probe;
    asked = waits.asked;
    numbered = waits.numbered;
    issued = issued_before notes number answer waits.probe waits.asked waits.issued;
    unanswered = λ answer' place there. waits.unanswered answer' place (at_left _ there);
  })
  waiting_still other apart (Some request) (known, unanswered) = (
    request_stays notes _ room other request known,
    λ answer' place there. elim (answer_is notes number answer other answer' place there) [
      | inl old ↦ unanswered answer' place old
      | inr new ↦ apart new.1
    ],
  )

  answered_here : At (notes ++ Answered number answer ∷ []) (length notes) (Answered number answer)
  answered_here = record { gets = got_pushed notes }
    where
      got_pushed : (xs : List Note) → slice_get (xs ++ Answered number answer ∷ []) (length xs) ≡ Some (Answered number answer)
      got_pushed [] = refl
      got_pushed (y ∷ ys) = got_pushed ys

  pub waiting_less : (other : ℕ) (old new : Option Waiting) → KnowsWaiting notes room other old → new ≡ cond (nat_eq number other) None old
      → KnowsWaiting (notes ++ Answered number answer ∷ []) room other new
  waiting_less other old new knows is = subst (λ o. KnowsWaiting (notes ++ Answered number answer ∷ []) room other o) (sym is) (by_number (nat_eq number other) refl)
    where
      by_number : (b : Bool) → nat_eq number other ≡ b → KnowsWaiting (notes ++ Answered number answer ∷ []) room other (cond b None old)
      by_number true same =
          let e : number ≡ other = eqb-true number other same in
          λ waits. waits.unanswered answer (length notes) (subst (λ n. At (notes ++ Answered number answer ∷ []) (length notes) (Answered n answer)) e answered_here)
      by_number false apart = waiting_still other (λ same. eqb-false number other apart (sym same)) old knows

-- the answer to a request that is no get convicts nothing, nor does one that is no hit
module _ (notes : List Note) (number : ℕ) (answer : Answer) (unanswered : IsUnanswered notes number) where
  -- the hit is this answer
  hit_here : (get : Probe) (value place : ℕ) → get.number ≡ number → IsHit (notes ++ Answered number answer ∷ []) get value place
      → (answer ≡ Hit value) × IsIssued notes get asks.Get × (place ≡ length notes)
  hit_here get value place same hit = elim (answer_is notes number answer get.number (Hit value) place hit.answered.there) [
    | inl old ↦ absurd (unanswered (Hit value) place (subst (λ n. At notes place (Answered n (Hit value))) same old))
    | inr new ↦ (sym new.2, issued_before notes number answer get asks.Get hit.issued, new.0)
  ]

  pub no_hit : ((value : ℕ) → answer ≢ Hit value) → JudgesAnswer (notes ++ Answered number answer ∷ []) number None
  no_hit none = λ get same convicted. none _ (hit_here get convicted.value convicted.convicts.hit same convicted.convicts.is_hit).0

  pub no_get : (probe : Probe) (asked : Asked) → probe.number ≡ number → IsIssued notes probe asked → asked ≢ asks.Get → JudgesAnswer (notes ++ Answered number answer ∷ []) number None
  no_get probe asked numbered issued apart = λ get same convicted.
      let got = (hit_here get convicted.value convicted.convicts.hit same convicted.convicts.is_hit).1 in
      let there : At notes probe.number (Issued get asks.Get) = subst (λ n. At notes n (Issued get asks.Get)) (same ∙ sym numbered) got.there in
      let e = at_one there issued.there in
      apart cc

-- a hit is judged by what was known of its key when its get was issued
module _ (notes : List Note) (room number : ℕ) (probe : Probe) (watched : WatchedView) (value : ℕ) (ordered : AreOrdered notes) (unanswered : IsUnanswered notes number)
    (numbered : probe.number ≡ number) (issued : IsIssued notes probe asks.Get) (known : KnowsKey (take number notes) room probe.key watched) where
  is_told : (delete : Probe) → IsGone (take number notes) probe.key value (Some delete) → KnowsDelete (take number notes) probe.key (Some delete)
      → Tells (notes ++ Answered number (Hit value) ∷ []) (record { value = value; delete = delete; get = probe })
  is_told delete gone latest =
      let (before, ack) = acknowledged_from_taken number latest.acknowledged in
      record {
        set = gone.set;
        convicts = record {
          stored = gone.place;
          acknowledged = latest.place;
          hit = length notes;
          is_stored = stored_stays _ (stored_from_taken number gone.stored);
          is_acknowledged = acknowledged_stays _ ack;
          is_hit = record {
            issued = issued_stays _ issued;
            answered = record { there = subst (λ n. At (notes ++ Answered number (Hit value) ∷ []) (length notes) (Answered n (Hit value))) (sym numbered) (answered_here notes room number (Hit value)) };
          };
          answered_before = gone.before;
          acknowledged_before = omega arith;
        };
      }

  -- a set and a delete that convict are known of
  still_kept : (stored : Option ℕ) → KnowsStored (take number notes) probe.key watched.deleted value stored → (set delete : Probe) (place done : ℕ)
      → IsStored (take number notes) set probe.key value place → IsAcknowledged (take number notes) delete probe.key done → place < delete.number → ⊥
  still_kept None none set delete place done stored ack before = none set place stored
  still_kept (Some earlier) (first, after) set delete place done stored ack before = by_delete watched.deleted known.deleted after
    where
      by_delete : (deleted : Option Probe) → KnowsDelete (take number notes) probe.key deleted → IsNotAfter deleted earlier → ⊥
      by_delete None none after = none delete done ack
      by_delete (Some latest) knows after = (let a = knows.last delete done ack in let b = first.first set place stored in omega arith)

  not_convicted : convicting watched value ≡ None → (set delete : Probe) (place done : ℕ)
      → IsStored (take number notes) set probe.key value place → IsAcknowledged (take number notes) delete probe.key done → place < delete.number → ⊥
  not_convicted none set delete place done stored ack before =
      let below : value < watched.sets = known.below set value stored.of_key stored.issued in
      by_kept below (keeps watched.kept value) refl
    where
      by_delete : (deleted : Option Probe) → deleted ≡ None → KnowsDelete (take number notes) probe.key deleted → ⊥
      by_delete None same knows = knows delete done ack
      by_delete (Some latest) same knows = cc

      by_kept : value < watched.sets → (b : Bool) → keeps watched.kept value ≡ b → ⊥
      by_kept below true is =
          let (index, kept, there, has) = any_place (has_value value) watched.kept is in
          let same : kept.value ≡ value = eqb-true kept.value value has in
          still_kept kept.stored (subst (λ v. KnowsStored (take number notes) probe.key watched.deleted v kept.stored) same (known.kept index kept there)) set delete place done stored ack before
      by_kept below false is =
          let counted : nat_lt value watched.sets ≡ true = lt-ltb value watched.sets below in
          let same : watched.deleted ≡ None = (rw (counted, is) at none) in
          by_delete watched.deleted same known.deleted

  pub hit_judged : (deleted : Option Probe) → deleted ≡ convicting watched value
      → JudgesAnswer (notes ++ Answered number (Hit value) ∷ []) number (option_map (λ delete. record { value = value; delete = delete; get = probe }) deleted)
  hit_judged None same = λ get numbered' convicted.
      let c = convicted.convicts in
      let (answer_same, got, place_same) = hit_here notes number (Hit value) unanswered get convicted.value c.hit numbered' c.is_hit in
      let value_same : convicted.value ≡ value = cc in
      let there : At notes probe.number (Issued get asks.Get) = subst (λ n. At notes n (Issued get asks.Get)) (numbered' ∙ sym numbered) got.there in
      let note_same = at_one there issued.there in
      let get_same : get ≡ probe = cc in
      let key_same : get.key ≡ probe.key = ap (λ (p : Probe). p.key) get_same in
      let within : number < length notes = (let l = at_within issued.there in omega arith) in
      let longer = ordered_after_answer notes number (Hit value) ordered within in
      let seam : take number (notes ++ Answered number (Hit value) ∷ []) ≡ take number notes = take-append-le number notes _ (omega arith) in
      let early : c.acknowledged < number = (let l = c.acknowledged_before in omega arith) in
      let issue_first : convicted.delete.number < c.acknowledged = longer.later _ _ _ c.is_acknowledged.answered.there in
      let ack : IsAcknowledged (take number notes) convicted.delete probe.key c.acknowledged =
      subst (λ n. IsAcknowledged n convicted.delete probe.key c.acknowledged) seam
      (acknowledged_taken number longer early (subst (λ k. IsAcknowledged (notes ++ Answered number (Hit value) ∷ []) convicted.delete k c.acknowledged) key_same c.is_acknowledged)) in
      let stored : IsStored (take number notes) convicted.set probe.key value c.stored =
      subst (λ n. IsStored n convicted.set probe.key value c.stored) seam
      (stored_taken number longer (let l = c.answered_before in omega arith)
      (subst (λ v. IsStored (notes ++ Answered number (Hit value) ∷ []) convicted.set probe.key v c.stored) value_same
      (subst (λ k. IsStored (notes ++ Answered number (Hit value) ∷ []) convicted.set k convicted.value c.stored) key_same c.is_stored))) in
      not_convicted (sym same) convicted.set convicted.delete c.stored c.acknowledged stored ack c.answered_before
  hit_judged (Some delete) same = (numbered, by_parts (nat_lt value watched.sets) (keeps watched.kept value) refl refl same)
    where
      by_delete : (deleted : Option Probe) → Some delete ≡ deleted → IsGone (take number notes) probe.key value deleted → KnowsDelete (take number notes) probe.key deleted
          → Tells (notes ++ Answered number (Hit value) ∷ []) (record { value = value; delete = delete; get = probe })
      by_delete None same gone knows = cc
      by_delete (Some latest) same gone knows =
          let e : latest ≡ delete = cc in
          is_told delete (subst (λ d. IsGone (take number notes) probe.key value (Some d)) e gone) (subst (λ d. KnowsDelete (take number notes) probe.key (Some d)) e knows)

      by_parts : (counted kept : Bool) → nat_lt value watched.sets ≡ counted → keeps watched.kept value ≡ kept → Some delete ≡ cond (counted && not kept) watched.deleted None
          → Tells (notes ++ Answered number (Hit value) ∷ []) (record { value = value; delete = delete; get = probe })
      by_parts false kept counted_is kept_is same = cc
      by_parts true true counted_is kept_is same = cc
      by_parts true false counted_is kept_is same =
          by_delete watched.deleted same
          (known.gone value (ltb-true value watched.sets counted_is) (λ index kept there same'.
          (let no = none_passes (has_value value) watched.kept index kept kept_is there.gets in let yes : (kept.value == value) ≡ true = eq-eqb kept.value value same' in cc)))
          known.deleted

-- verdicts stay as they are

verdict_stands : (notes : List Note) (note : Note) → AreOrdered (notes ++ note ∷ []) → (get : Probe)
    → ((value place : ℕ) → IsHit (notes ++ note ∷ []) get value place → place < length notes) → IsConvicted (notes ++ note ∷ []) get → IsConvicted notes get
verdict_stands notes note ordered get within convicted =
    let c = convicted.convicts in
    let early : c.hit < length notes = within convicted.value c.hit c.is_hit in
    let asked : get.number < c.hit = ordered.later _ _ _ c.is_hit.answered.there in
    let first : c.acknowledged < get.number = c.acknowledged_before in
    let issued : convicted.delete.number < c.acknowledged = ordered.later _ _ _ c.is_acknowledged.answered.there in
    let before : c.stored < convicted.delete.number = c.answered_before in
    let seam : take (length notes) (notes ++ note ∷ []) ≡ notes = take-append_seam notes (note ∷ []) in
    record {
      set = convicted.set;
      delete = convicted.delete;
      value = convicted.value;
      convicts = record {
        stored = c.stored;
        acknowledged = c.acknowledged;
        hit = c.hit;
        is_stored = subst (λ n. IsStored n convicted.set get.key convicted.value c.stored) seam (stored_taken (length notes) ordered (omega arith) c.is_stored);
        is_acknowledged = subst (λ n. IsAcknowledged n convicted.delete get.key c.acknowledged) seam (acknowledged_taken (length notes) ordered (omega arith) c.is_acknowledged);
        is_hit = record {
          issued = record { there = at_before notes (note ∷ []) c.is_hit.issued.there (omega arith) };
          answered = record { there = at_before notes (note ∷ []) c.is_hit.answered.there early };
        };
        answered_before = before;
        acknowledged_before = first;
      };
    }

-- one more note is taken

last_place : {X : Type 0} (xs : List X) (x : X) → At (xs ++ x ∷ []) (length xs) x
last_place xs x = record { gets = got xs }
  where
    got : (ys : List _) → slice_get (ys ++ x ∷ []) (length ys) ≡ Some x
    got [] = refl
    got (y ∷ ys) = got ys

module _ {S : Type 0} (notes : List Note) (keys : List WatchedView) (waiting waiting' : HashMap ℕ Waiting S) (count room : ℕ) (knows : Knows notes keys waiting count room) where
  issued_knows : (client time key many next : ℕ) (kept : List ℕ) (probe : Probe) (asked : Asked) (request : Waiting) (keys' : List WatchedView)
      → IsNext (record { notes = notes; keys = many; kept = kept; room = room }) client time key probe next
      → (IsIssued (notes ++ Issued probe asked ∷ []) probe asked → probe.number ≡ length notes → KnowsRequest (notes ++ Issued probe asked ∷ []) room (length notes) request)
      → KnowsKeys (notes ++ Issued probe asked ∷ []) room keys' → Updates nat_eq waiting waiting' probe.number (Some request)
      → Knows (notes ++ Issued probe asked ∷ []) keys' waiting' next room
  issued_knows client time key many next kept probe asked request keys' is_next known keys_known updates =
      let numbered : probe.number ≡ length notes = ap (λ (p : Probe). p.number) is_next.probe_is in
      let here : IsIssued (notes ++ Issued probe asked ∷ []) probe asked =
      record { there = subst (λ n. At (notes ++ Issued probe asked ∷ []) n (Issued probe asked)) (sym numbered) (last_place notes (Issued probe asked)) } in
      record {
        counted = long_more notes (Issued probe asked) ∙ sym is_next.next_is;
        ordered = ordered_after_issue notes probe asked knows.ordered;
        keys_known = keys_known;
        waiting_known = λ number. waiting_more notes room knows.ordered probe asked numbered request (known here numbered) number (get nat_eq waiting number) (get nat_eq waiting' number)
            (knows.waiting_known number) (subst (λ n. get nat_eq waiting' number ≡ cond (nat_eq n number) (Some request) (get nat_eq waiting number)) numbered (updates.0 number));
      }

  pub get_issued : (client time key many next : ℕ) (kept : List ℕ) (probe : Probe) (watched : WatchedView) → IsNext (record { notes = notes; keys = many; kept = kept; room = room }) client time key probe next
      → At keys key watched → Updates nat_eq waiting waiting' probe.number (Some (Get probe watched)) → Knows (notes ++ Issued probe asks.Get ∷ []) keys waiting' next room
  get_issued client time key many next kept probe watched is_next there updates =
      let same : key ≡ probe.key = sym (ap (λ (p : Probe). p.key) is_next.probe_is) in
      issued_knows client time key many next kept probe asks.Get (Get probe watched) keys is_next
      (λ issued numbered. (
        numbered,
        issued,
        subst (λ n. KnowsKey n room probe.key watched) (sym (take-append_seam notes (Issued probe asks.Get ∷ [])))
            (subst (λ k. KnowsKey notes room k watched) same (knows.keys_known key watched there)),
      ))
      (get_known notes room keys probe knows.ordered knows.keys_known) updates

  pub delete_issued : (client time key many next : ℕ) (kept : List ℕ) (probe : Probe) → IsNext (record { notes = notes; keys = many; kept = kept; room = room }) client time key probe next
      → Updates nat_eq waiting waiting' probe.number (Some (Delete probe)) → Knows (notes ++ Issued probe asks.Delete ∷ []) keys waiting' next room
  delete_issued client time key many next kept probe is_next updates =
      issued_knows client time key many next kept probe asks.Delete (Delete probe) keys is_next (λ issued numbered. (numbered, issued))
      (delete_known notes room keys probe knows.ordered knows.keys_known) updates

  pub set_issued : (client time key many next : ℕ) (kept : List ℕ) (probe : Probe) (watched : WatchedView) → IsNext (record { notes = notes; keys = many; kept = kept; room = room }) client time key probe next
      → At keys key watched → length watched.kept < room → Updates nat_eq waiting waiting' probe.number (Some (Set probe watched.sets))
      → Knows (notes ++ Issued probe (asks.Set watched.sets) ∷ []) (slice_set keys key (with_set watched)) waiting' next room
  set_issued client time key many next kept probe watched is_next there fits updates =
      let same : key ≡ probe.key = sym (ap (λ (p : Probe). p.key) is_next.probe_is) in
      issued_knows client time key many next kept probe (asks.Set watched.sets) (Set probe watched.sets) (slice_set keys key (with_set watched)) is_next (λ issued numbered. (numbered, issued))
      (subst (λ k. KnowsKeys (notes ++ Issued probe (asks.Set watched.sets) ∷ []) room (slice_set keys k (with_set watched))) (sym same)
      (sets_known notes room keys probe watched knows.ordered knows.keys_known (subst (λ k. At keys k watched) same there) fits)) updates

  pub answer_noted : (number next : ℕ) (answer : Answer) (request : Waiting) (keys' : List WatchedView) → next ≡ count + 1 → get nat_eq waiting number ≡ Some request
      → StaysKnown request answer count keys keys' → Updates nat_eq waiting waiting' number None → Knows (notes ++ Answered number answer ∷ []) keys' waiting' next room
  answer_noted number next answer request keys' next_is was stays updates =
      let known = subst (λ o. KnowsWaiting notes room number o) was (knows.waiting_known number) in
      record {
        counted = long_more notes (Answered number answer) ∙ ap (λ n. n + 1) knows.counted ∙ sym next_is;
        ordered = ordered_after_answer notes number answer knows.ordered (number_of notes room number request known.0);
        keys_known = stays notes number room knows.ordered knows.counted known.0 knows.keys_known;
        waiting_known = λ other. waiting_less notes room number answer other (get nat_eq waiting other) (get nat_eq waiting' other) (knows.waiting_known other) (updates.0 other);
      }

  pub answer_judged : (number : ℕ) (answer : Answer) (request : Waiting) (found : Option Conviction) → get nat_eq waiting number ≡ Some request → JudgesRequest request answer found
      → JudgesAnswer (notes ++ Answered number answer ∷ []) number found
  answer_judged number answer request found was judges =
      let known = subst (λ o. KnowsWaiting notes room number o) was (knows.waiting_known number) in
      judges notes number room knows.ordered known.0 known.1

  -- what the notes before say of verdicts

  pub issue_verdicts : (probe : Probe) (asked : Asked) (get : Probe) → IsConvicted (notes ++ Issued probe asked ∷ []) get → IsConvicted notes get
  issue_verdicts probe asked get convicted = verdict_stands notes (Issued probe asked) (ordered_after_issue notes probe asked knows.ordered) get
      (λ value place hit. at_within (answer_was notes probe asked get.number (Hit value) place hit.answered.there)) convicted

  pub answer_verdicts : (number : ℕ) (answer : Answer) (request : Waiting) → get nat_eq waiting number ≡ Some request → (other : Probe) → other.number ≢ number
      → IsConvicted (notes ++ Answered number answer ∷ []) other → IsConvicted notes other
  answer_verdicts number answer request was other apart convicted =
      let known = subst (λ o. KnowsWaiting notes room number o) was (knows.waiting_known number) in
      verdict_stands notes (Answered number answer) (ordered_after_answer notes number answer knows.ordered (number_of notes room number request known.0)) other
      (λ value place hit. elim (answer_is notes number answer other.number (Hit value) place hit.answered.there) [
        | inl old ↦ at_within old
        | inr new ↦ absurd (apart new.1)
      ]) convicted

  pub waits_known : (number : ℕ) (request : Waiting) → get nat_eq waiting number ≡ Some request → IsWaiting notes number
  waits_known number request was = by_request request (subst (λ o. KnowsWaiting notes room number o) was (knows.waiting_known number))
    where
      by_request : (request : Waiting) → KnowsWaiting notes room number (Some request) → IsWaiting notes number
      by_request (Get probe watched) (known, unanswered) = record { probe = probe; asked = asks.Get; numbered = known.0; issued = known.1; unanswered = unanswered }
      by_request (Set probe value) (known, unanswered) = record { probe = probe; asked = asks.Set value; numbered = known.0; issued = known.1; unanswered = unanswered }
      by_request (Delete probe) (known, unanswered) = record { probe = probe; asked = asks.Delete; numbered = known.0; issued = known.1; unanswered = unanswered }

  -- with the same requests, whatever their order
  pub still_knows : ((number : ℕ) → get nat_eq waiting' number ≡ get nat_eq waiting number) → Knows notes keys waiting' count room
  still_knows same = record {
    counted = knows.counted;
    ordered = knows.ordered;
    keys_known = knows.keys_known;
    waiting_known = λ number. subst (λ o. KnowsWaiting notes room number o) (sym (same number)) (knows.waiting_known number);
  }

  -- a request that was not issued after all
  pub undone : (number : ℕ) (request : Waiting) (waiting'' : HashMap ℕ Waiting S) → number ≡ length notes → Updates nat_eq waiting waiting' number (Some request)
      → Updates nat_eq waiting' waiting'' number None → (other : ℕ) → get nat_eq waiting'' other ≡ get nat_eq waiting other
  undone number request waiting'' new put taken other = taken.0 other ∙ by_number (nat_eq number other) refl
    where
      never : (found : Option Waiting) → KnowsWaiting notes room other found → other ≡ length notes → None ≡ found
      never None known same = refl
      never (Some request') known same = (let l = number_of notes room other request' known.0 in absurd (omega arith))

      by_number : (b : Bool) → nat_eq number other ≡ b → cond b None (get nat_eq waiting' other) ≡ get nat_eq waiting other
      by_number true same = never (get nat_eq waiting other) (knows.waiting_known other) (sym (eqb-true number other same) ∙ new)
      by_number false apart = put.0 other ∙ ap (λ (b : Bool). cond b (Some request) (get nat_eq waiting other)) apart

-- what a slice of a whole list wrote back
pub written : {X : Type 0} (new old : List X) (many : ℕ) → length new ≡ length old → many ≡ length old → take many (new ++ drop (length new) old) ≡ new
written new old many long all =
    ap (λ l. take many (new ++ l)) (drop_all (length new) old (omega arith)) ∙ take-append-le many new [] (omega arith) ∙ take_all many new (omega arith)

-- nothing waits at first
pub nothing_known : {S : Type 0} (waiting : HashMap ℕ Waiting S) (room keys : ℕ) → waiting.entries ≡ [] → Knows [] (replicate keys fresh_watched) waiting 0 room
nothing_known waiting room keys empty = record {
  counted = refl;
  ordered = record { later = λ number answer place there. (let e = there.gets in cc) };
  keys_known = fresh_keys_known room keys;
  waiting_known = λ number. subst (λ o. KnowsWaiting [] room number o) (sym (ap (λ es. lookup (nat_eq number) es) empty)) (λ waits. (let e = waits.issued.there.gets in cc));
}

-- a key that is as it was
pub same_known : (notes : List Note) (room key : ℕ) (keys : List WatchedView) (old : WatchedView) → At keys key old → KnowsKeys notes room keys → KnowsKeys notes room (slice_set keys key old)
same_known notes room key keys old was known = λ other watched there. elim (at_set keys key old there) [
  | inl here ↦ subst (KnowsKey notes room other) (sym here.1) (subst (λ k. KnowsKey notes room k old) (sym here.0) (known key old was))
  | inr apart ↦ known other watched apart.1
]
