-- What one more note changes of what notes say.
use Rattle.std.proofs.Common.{◌≡◌, ◌∙◌, ℕ, ◌+◌, ◌<◌, ◌≤◌, ◌⊎◌, inl, inr, Bool, true, false, List, [], ◌∷◌, ◌++◌, length, take, cond, sym, ap, subst, arith}
use Rattle.std.proofs.lemmas.List.Sums.{count_by-le-length, sum_by-append}
use Rattle.mr_history.specs.Places.{At}
use Rattle.mr_history.proofs.Lists.{at_within, at_taken, at_take, at_left, at_last, at_before}
use Rattle.mr_canary.specs.declared.note.Probe.{Probe}
use Rattle.mr_canary.specs.declared.note.Asked.{Asked}
use Rattle.mr_canary.specs.declared.note.Asked.TheVariants.{Set, Delete}
use Rattle.mr_canary.specs.declared.note.Answer.{Answer}
use Rattle.mr_canary.specs.declared.note.Answer.TheVariants.{Stored}
use Rattle.mr_canary.specs.declared.note.Note.{Note}
use Rattle.mr_canary.specs.declared.note.Note.TheVariants.{Issued, Answered}
use Rattle.mr_canary.specs.Notes.{IsIssued, IsStored, IsAcknowledged, Acknowledges, sets_of, is_set_of}
use Rattle.mr_canary.specs.steps.Knowing.{AreOrdered}

-- what was so stays so

pub issued_stays : {notes : List Note} {probe : Probe} {asked : Asked} (later : List Note) → IsIssued notes probe asked → IsIssued (notes ++ later) probe asked
issued_stays later issued = record { there = at_left later issued.there }

pub stored_stays : {notes : List Note} {set : Probe} {key value place : ℕ} (later : List Note) → IsStored notes set key value place → IsStored (notes ++ later) set key value place
stored_stays later stored = record {
  of_key = stored.of_key;
  issued = issued_stays later stored.issued;
  answered = record { there = at_left later stored.answered.there };
}

pub acknowledged_stays : {notes : List Note} {delete : Probe} {key place : ℕ} (later : List Note) → IsAcknowledged notes delete key place
    → IsAcknowledged (notes ++ later) delete key place
acknowledged_stays later ack = record {
  of_key = ack.of_key;
  issued = issued_stays later ack.issued;
  answer = ack.answer;
  answered = record { there = at_left later ack.answered.there };
  acknowledges = ack.acknowledges;
}

-- what an answer says among the first notes was said there

pub stored_taken : {notes : List Note} {set : Probe} {key value place : ℕ} (end : ℕ) → AreOrdered notes → place < end → IsStored notes set key value place
    → IsStored (take end notes) set key value place
stored_taken {notes = notes} {set = set} {place = place} end ordered within stored = record {
  of_key = stored.of_key;
  issued = record { there = at_take end notes (let before = ordered.later _ _ place stored.answered.there in omega arith) stored.issued.there };
  answered = record { there = at_take end notes within stored.answered.there };
}

pub acknowledged_taken : {notes : List Note} {delete : Probe} {key place : ℕ} (end : ℕ) → AreOrdered notes → place < end → IsAcknowledged notes delete key place
    → IsAcknowledged (take end notes) delete key place
acknowledged_taken {notes = notes} {place = place} end ordered within ack = record {
  of_key = ack.of_key;
  issued = record { there = at_take end notes (let before = ordered.later _ _ place ack.answered.there in omega arith) ack.issued.there };
  answer = ack.answer;
  answered = record { there = at_take end notes within ack.answered.there };
  acknowledges = ack.acknowledges;
}

pub stored_from_taken : {notes : List Note} {set : Probe} {key value place : ℕ} (end : ℕ) → IsStored (take end notes) set key value place → IsStored notes set key value place
stored_from_taken {notes = notes} end stored = record {
  of_key = stored.of_key;
  issued = record { there = (at_taken end notes stored.issued.there).1 };
  answered = record { there = (at_taken end notes stored.answered.there).1 };
}

pub acknowledged_from_taken : {notes : List Note} {delete : Probe} {key place : ℕ} (end : ℕ) → IsAcknowledged (take end notes) delete key place
    → (place < end) × IsAcknowledged notes delete key place
acknowledged_from_taken {notes = notes} end ack = (
  (at_taken end notes ack.answered.there).0,
  record {
    of_key = ack.of_key;
    issued = record { there = (at_taken end notes ack.issued.there).1 };
    answer = ack.answer;
    answered = record { there = (at_taken end notes ack.answered.there).1 };
    acknowledges = ack.acknowledges;
  },
)

-- a request that is issued

module _ (notes : List Note) (probe : Probe) (asked : Asked) where
  pub answer_was : (number : ℕ) (answer : Answer) (place : ℕ) → At (notes ++ Issued probe asked ∷ []) place (Answered number answer) → At notes place (Answered number answer)
  answer_was number answer place there = elim (at_last notes (Issued probe asked) there) [ inl old ↦ old | inr new ↦ (let e = new.1 in cc) ]

  pub issue_was : (other : Probe) (asked' : Asked) → other.number < length notes → IsIssued (notes ++ Issued probe asked ∷ []) other asked' → IsIssued notes other asked'
  issue_was other asked' before issued = record { there = at_before notes (Issued probe asked ∷ []) issued.there before }

  pub issue_is : (other : Probe) (asked' : Asked) → IsIssued (notes ++ Issued probe asked ∷ []) other asked' → IsIssued notes other asked' ⊎ ((other.number ≡ length notes) × (Issued other asked' ≡ Issued probe asked))
  issue_is other asked' issued = elim (at_last notes (Issued probe asked) issued.there) [ inl old ↦ inl (record { there = old }) | inr new ↦ inr new ]

  pub ordered_after_issue : AreOrdered notes → AreOrdered (notes ++ Issued probe asked ∷ [])
  ordered_after_issue ordered = record { later = λ number answer place there. ordered.later number answer place (answer_was number answer place there) }

  pub stored_was : AreOrdered notes → (set : Probe) (key value place : ℕ) → IsStored (notes ++ Issued probe asked ∷ []) set key value place → IsStored notes set key value place
  stored_was ordered set key value place stored =
      let there = answer_was _ _ _ stored.answered.there in
      let first : set.number < place = ordered.later _ _ _ there in
      let within = at_within there in
      record { of_key = stored.of_key; issued = issue_was set (Set value) (omega arith) stored.issued; answered = record { there = there } }

  pub acknowledged_was : AreOrdered notes → (delete : Probe) (key place : ℕ) → IsAcknowledged (notes ++ Issued probe asked ∷ []) delete key place → IsAcknowledged notes delete key place
  acknowledged_was ordered delete key place ack =
      let there = answer_was _ _ _ ack.answered.there in
      let first : delete.number < place = ordered.later _ _ _ there in
      let within = at_within there in
      record {
        of_key = ack.of_key;
        issued = issue_was delete Delete (omega arith) ack.issued;
        answer = ack.answer;
        answered = record { there = there };
        acknowledges = ack.acknowledges;
      }

-- an answer that comes

module _ (notes : List Note) (number : ℕ) (answer : Answer) where
  pub issued_before : (probe : Probe) (asked : Asked) → IsIssued (notes ++ Answered number answer ∷ []) probe asked → IsIssued notes probe asked
  issued_before probe asked issued = elim (at_last notes (Answered number answer) issued.there) [ inl old ↦ record { there = old } | inr new ↦ (let e = new.1 in cc) ]

  pub answer_is : (number' : ℕ) (answer' : Answer) (place : ℕ) → At (notes ++ Answered number answer ∷ []) place (Answered number' answer')
      → At notes place (Answered number' answer') ⊎ ((place ≡ length notes) × (number' ≡ number) × (answer' ≡ answer))
  answer_is number' answer' place there = elim (at_last notes (Answered number answer) there) [
    | inl old ↦ inl old
    | inr new ↦ (let e = new.1 in inr (new.0, cc, cc))
  ]

  pub ordered_after_answer : AreOrdered notes → number < length notes → AreOrdered (notes ++ Answered number answer ∷ [])
  ordered_after_answer ordered before = record {
    later = λ number' answer' place there. elim (answer_is number' answer' place there) [
      | inl old ↦ ordered.later number' answer' place old
      | inr new ↦ (let a = new.0 in let b = new.1 in omega arith)
    ];
  }

  pub stored_is : (set : Probe) (key value place : ℕ) → IsStored (notes ++ Answered number answer ∷ []) set key value place
      → IsStored notes set key value place ⊎ ((place ≡ length notes) × (set.number ≡ number) × (answer ≡ Stored) × (set.key ≡ key) × IsIssued notes set (Set value))
  stored_is set key value place stored =
      let issued = issued_before set (Set value) stored.issued in
      elim (answer_is _ _ _ stored.answered.there) [
        | inl old ↦ inl (record { of_key = stored.of_key; issued = issued; answered = record { there = old } })
        | inr new ↦ inr (new.0, new.1, sym new.2, stored.of_key, issued)
      ]

  pub acknowledged_is : (delete : Probe) (key place : ℕ) → IsAcknowledged (notes ++ Answered number answer ∷ []) delete key place
      → IsAcknowledged notes delete key place ⊎ ((delete.number ≡ number) × Acknowledges answer × (delete.key ≡ key) × IsIssued notes delete Delete)
  acknowledged_is delete key place ack =
      let issued = issued_before delete Delete ack.issued in
      elim (answer_is _ _ _ ack.answered.there) [
        | inl old ↦ inl (record { of_key = ack.of_key; issued = issued; answer = ack.answer; answered = record { there = old }; acknowledges = ack.acknowledges })
        | inr new ↦ inr (new.1, subst Acknowledges new.2 ack.acknowledges, ack.of_key, issued)
      ]

-- how many sets there are with one more note
sets_more : (notes : List Note) (note : Note) (key : ℕ) → sets_of (notes ++ note ∷ []) key ≡ sets_of notes key + cond (is_set_of key note) 1 0
sets_more notes note key = sum_by-append (λ n. cond (is_set_of key n) 1 0) notes (note ∷ []) ∙ (let z : 0 + cond (is_set_of key note) 1 0 ≡ cond (is_set_of key note) 1 0 = omega arith in ap (λ n. sets_of notes key + n) z)

pub sets_same : (notes : List Note) (note : Note) (key : ℕ) → is_set_of key note ≡ false → sets_of (notes ++ note ∷ []) key ≡ sets_of notes key
sets_same notes note key other =
    let none : sets_of notes key + 0 ≡ sets_of notes key = omega arith in
    sets_more notes note key ∙ ap (λ (b : Bool). sets_of notes key + cond b 1 0) other ∙ none

pub sets_one_more : (notes : List Note) (note : Note) (key : ℕ) → is_set_of key note ≡ true → sets_of (notes ++ note ∷ []) key ≡ sets_of notes key + 1
sets_one_more notes note key is = sets_more notes note key ∙ ap (λ (b : Bool). sets_of notes key + cond b 1 0) is

pub sets_few : (notes : List Note) (key : ℕ) → sets_of notes key ≤ length notes
sets_few notes key = count_by-le-length (is_set_of key) notes
