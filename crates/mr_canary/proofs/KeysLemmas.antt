-- What is known of all keys, and how one more note changes it.
use Rattle.std.proofs.Common.{◌≡◌, ◌≢◌, ◌∙◌, ℕ, zero, suc, ◌+◌, ◌<◌, ◌≤◌, add-one, get_or, ◌⊎◌, inl, inr, false, List, [], ◌∷◌, ◌++◌, length, map, replicate, slice_get, slice_set, Some, refl, sym, ap, subst, arith}
use Rattle.std.proofs.lemmas.Bool.{ne_eqb}
use Rattle.mr_history.specs.Places.{At}
use Rattle.mr_history.proofs.Lists.{at_one}
use Rattle.mr_canary.specs.declared.note.Probe.{Probe}
use Rattle.mr_canary.specs.declared.note.Asked.{Asked}
use Rattle.mr_canary.specs.declared.note.Asked.TheVariants.{Get, Set, Delete}
use Rattle.mr_canary.specs.declared.note.Answer.{Answer}
use Rattle.mr_canary.specs.declared.note.Answer.TheVariants.{Stored}
use Rattle.mr_canary.specs.declared.note.Note.{Note}
use Rattle.mr_canary.specs.declared.note.Note.TheVariants.{Issued, Answered}
use Rattle.mr_canary.specs.Notes.{Acknowledges, IsIssued, is_set_of}
use Rattle.mr_canary.specs.JudgeView.{JudgeView}
use Rattle.std.proofs.lemmas.List.{get_or_past, length-map}
use Rattle.std.proofs.lemmas.Option.{get_or_from_slice_get}
use Rattle.mr_canary.specs.steps.Watched.{WatchedView, acknowledged, fresh_watched, kept_of, marked, with_set}
use Rattle.mr_canary.specs.steps.Knowing.{AreOrdered, KnowsKey, KnowsKeys}
use Rattle.mr_canary.proofs.NoteLemmas.{acknowledged_is, acknowledged_was, issue_is, issued_before, stored_is, stored_was}
use Rattle.mr_canary.proofs.KeyLemmas.{acknowledge_known, fresh_known, got_map, key_known, mark_known, set_known}

got_set : {X : Type 0} (xs : List X) (k : ℕ) (v : X) (i : ℕ) (x : X) → slice_get (slice_set xs k v) i ≡ Some x → ((i ≡ k) × (x ≡ v)) ⊎ ((i ≢ k) × (slice_get xs i ≡ Some x))
got_set [] k v i x there = cc
got_set (y ∷ ys) zero v zero x there = inl (refl, cc)
got_set (y ∷ ys) zero v (suc i) x there = inr ((λ same. omega arith), there)
got_set (y ∷ ys) (suc k) v zero x there = inr ((λ same. omega arith), there)
got_set (y ∷ ys) (suc k) v (suc i) x there = elim (got_set ys k v i x there) [
  | inl here ↦ inl (ap suc here.0, here.1)
  | inr other ↦ inr ((λ same. other.0 (omega arith)), other.1)
]

pub at_set : {X : Type 0} (xs : List X) (k : ℕ) (v : X) {i : ℕ} {x : X} → At (slice_set xs k v) i x → ((i ≡ k) × (x ≡ v)) ⊎ ((i ≢ k) × At xs i x)
at_set xs k v {i = i} {x = x} there = elim (got_set xs k v i x there.gets) [ inl here ↦ inl here | inr other ↦ inr (other.0, record { gets = other.1 }) ]

got_replicated : {X : Type 0} (n : ℕ) (v : X) (i : ℕ) (x : X) → slice_get (replicate n v) i ≡ Some x → x ≡ v
got_replicated zero v i x there = cc
got_replicated (suc n) v zero x there = cc
got_replicated (suc n) v (suc i) x there = got_replicated n v i x there

one_more : {X : Type 0} (n : ℕ) (v : X) → replicate n v ++ v ∷ [] ≡ v ∷ replicate n v
one_more zero v = refl
one_more (suc n) v = ap (λ l. v ∷ l) (one_more n v)

pub replicate_more : {X : Type 0} (n : ℕ) (v : X) → replicate n v ++ v ∷ [] ≡ replicate (n + 1) v
replicate_more n v = rw add-one (one_more n v)

pub long_more : {X : Type 0} (xs : List X) (x : X) → length (xs ++ x ∷ []) ≡ length xs + 1
long_more [] x = refl
long_more (y ∷ ys) x = (let e = long_more ys x in omega arith)

abbrev pub judge_of : List Note → ℕ → ℕ → List ℕ → JudgeView
judge_of notes keys room kept = record { notes = notes; keys = keys; kept = kept; room = room }

pub fresh_keys_known : (room keys : ℕ) → KnowsKeys [] room (replicate keys fresh_watched)
fresh_keys_known room keys = λ key watched there. subst (KnowsKey [] room key) (sym (got_replicated keys fresh_watched key watched there.gets)) (fresh_known room key)

-- a request that is no set of the key is issued
issue_known : (notes : List Note) (room key : ℕ) (watched : WatchedView) (probe : Probe) (asked : Asked) → AreOrdered notes → KnowsKey notes room key watched
    → is_set_of key (Issued probe asked) ≡ false → ((value : ℕ) → probe.key ≡ key → asked ≢ Set value)
    → KnowsKey (notes ++ Issued probe asked ∷ []) room key watched
issue_known notes room key watched probe asked ordered known other apart =
    key_known notes (Issued probe asked) key room watched known other
    (λ set value of_key issued. elim (issue_is notes probe asked set (Set value) issued) [
      | inl old ↦ old
      | inr new ↦ (let e = new.1 in let same : set ≡ probe = cc in let asked_same : asked ≡ Set value = cc in absurd (apart value (subst (λ (p : Probe). p.key ≡ key) same of_key) asked_same))
    ])
    (λ set value place stored. stored_was notes probe asked ordered set key value place stored)
    (λ delete place ack. acknowledged_was notes probe asked ordered delete key place ack)

pub get_known : (notes : List Note) (room : ℕ) (keys : List WatchedView) (probe : Probe) → AreOrdered notes → KnowsKeys notes room keys → KnowsKeys (notes ++ Issued probe Get ∷ []) room keys
get_known notes room keys probe ordered known = λ key watched there. issue_known notes room key watched probe Get ordered (known key watched there) refl (λ value of_key same. cc)

pub delete_known : (notes : List Note) (room : ℕ) (keys : List WatchedView) (probe : Probe) → AreOrdered notes → KnowsKeys notes room keys → KnowsKeys (notes ++ Issued probe Delete ∷ []) room keys
delete_known notes room keys probe ordered known = λ key watched there. issue_known notes room key watched probe Delete ordered (known key watched there) refl (λ value of_key same. cc)

pub sets_known : (notes : List Note) (room : ℕ) (keys : List WatchedView) (probe : Probe) (old : WatchedView) → AreOrdered notes → KnowsKeys notes room keys
    → At keys probe.key old → length old.kept < room → KnowsKeys (notes ++ Issued probe (Set old.sets) ∷ []) room (slice_set keys probe.key (with_set old))
sets_known notes room keys probe old ordered known was fits = λ key watched there. elim (at_set keys probe.key (with_set old) there) [
  | inl here ↦ subst (KnowsKey (notes ++ Issued probe (Set old.sets) ∷ []) room key) (sym here.1)
      (set_known notes room key old probe ordered (subst (λ k. KnowsKey notes room k old) (sym here.0) (known probe.key old was)) (sym here.0) fits)
  | inr other ↦ issue_known notes room key watched probe (Set old.sets) ordered (known key watched other.1) (ne_eqb probe.key key (λ same. other.0 (sym same)))
      (λ value of_key same. other.0 (sym of_key))
]

-- an answer that says nothing of the key
answer_known : (notes : List Note) (room key : ℕ) (watched : WatchedView) (number : ℕ) (answer : Answer) → KnowsKey notes room key watched
    → ((set : Probe) (value : ℕ) → set.key ≡ key → set.number ≡ number → answer ≡ Stored → IsIssued notes set (Set value) → ⊥)
    → ((delete : Probe) → delete.key ≡ key → delete.number ≡ number → Acknowledges answer → IsIssued notes delete Delete → ⊥)
    → KnowsKey (notes ++ Answered number answer ∷ []) room key watched
answer_known notes room key watched number answer known no_set no_delete =
    key_known notes (Answered number answer) key room watched known refl
    (λ set value of_key issued. issued_before notes number answer set (Set value) issued)
    (λ set value place stored. elim (stored_is notes number answer set key value place stored) [
      | inl old ↦ old
      | inr new ↦ absurd (no_set set value new.3 new.1 new.2 new.4)
    ])
    (λ delete place ack. elim (acknowledged_is notes number answer delete key place ack) [
      | inl old ↦ old
      | inr new ↦ absurd (no_delete delete new.2 new.0 new.1 new.3)
    ])

-- a request has one number
one_request : (notes : List Note) (number : ℕ) (probe other : Probe) (asked asked' : Asked) → probe.number ≡ number → IsIssued notes probe asked → other.number ≡ number
    → IsIssued notes other asked' → Issued probe asked ≡ Issued other asked'
one_request notes number probe other asked asked' same issued same' issued' =
    at_one (subst (λ n. At notes n (Issued probe asked)) same issued.there) (subst (λ n. At notes n (Issued other asked')) same' issued'.there)

-- an answer to a get
pub got_known : (notes : List Note) (room : ℕ) (keys : List WatchedView) (number : ℕ) (answer : Answer) (probe : Probe) → probe.number ≡ number → IsIssued notes probe Get
    → KnowsKeys notes room keys → KnowsKeys (notes ++ Answered number answer ∷ []) room keys
got_known notes room keys number answer probe same issued known = λ key watched there. answer_known notes room key watched number answer (known key watched there)
    (λ set value of_key same' is issued'. (let e = one_request notes number probe set Get (Set value) same issued same' issued' in cc))
    (λ delete of_key same' acks issued'. (let e = one_request notes number probe delete Get Delete same issued same' issued' in cc))

-- an answer to a set, of which keys but its own say nothing, nor does its own where it isn't STORED
pub set_quiet : (notes : List Note) (room key : ℕ) (watched : WatchedView) (number : ℕ) (answer : Answer) (probe : Probe) (value : ℕ) → probe.number ≡ number → IsIssued notes probe (Set value)
    → (answer ≡ Stored → probe.key ≢ key) → KnowsKey notes room key watched → KnowsKey (notes ++ Answered number answer ∷ []) room key watched
set_quiet notes room key watched number answer probe value same issued apart known = answer_known notes room key watched number answer known
    (λ set value' of_key same' is issued'.
    (let e = one_request notes number probe set (Set value) (Set value') same issued same' issued' in let probes : probe ≡ set = cc in apart is (ap (λ (p : Probe). p.key) probes ∙ of_key)))
    (λ delete of_key same' acks issued'. (let e = one_request notes number probe delete (Set value) Delete same issued same' issued' in cc))

-- an answer to a delete, likewise
pub delete_quiet : (notes : List Note) (room key : ℕ) (watched : WatchedView) (number : ℕ) (answer : Answer) (probe : Probe) → probe.number ≡ number → IsIssued notes probe Delete
    → (Acknowledges answer → probe.key ≢ key) → KnowsKey notes room key watched → KnowsKey (notes ++ Answered number answer ∷ []) room key watched
delete_quiet notes room key watched number answer probe same issued apart known = answer_known notes room key watched number answer known
    (λ set value of_key same' is issued'. (let e = one_request notes number probe set Delete (Set value) same issued same' issued' in cc))
    (λ delete of_key same' acks issued'.
    (let e = one_request notes number probe delete Delete Delete same issued same' issued' in let probes : probe ≡ delete = cc in apart acks (ap (λ (p : Probe). p.key) probes ∙ of_key)))

-- STORED for a set
pub stored_known : (notes : List Note) (room : ℕ) (keys : List WatchedView) (number : ℕ) (probe : Probe) (value : ℕ) (old : WatchedView) → AreOrdered notes → probe.number ≡ number
    → IsIssued notes probe (Set value) → At keys probe.key old → KnowsKeys notes room keys
    → KnowsKeys (notes ++ Answered number Stored ∷ []) room (slice_set keys probe.key (record old { kept = map (marked value (length notes)) old.kept }))
stored_known notes room keys number probe value old ordered same issued was known = λ key watched there. elim (at_set keys probe.key _ there) [
  | inl here ↦ subst (KnowsKey (notes ++ Answered number Stored ∷ []) room key) (sym here.1)
      (subst (λ n. KnowsKey (notes ++ Answered n Stored ∷ []) room key (record old { kept = map (marked value (length notes)) old.kept })) same
      (mark_known notes room key old probe value ordered (subst (λ k. KnowsKey notes room k old) (sym here.0) (known probe.key old was)) (sym here.0) issued))
  | inr other ↦ set_quiet notes room key watched number Stored probe value same issued (λ is of_key. other.0 (sym of_key)) (known key watched other.1)
]

-- an acknowledgement of a delete
pub acknowledged_known : (notes : List Note) (room : ℕ) (keys : List WatchedView) (number : ℕ) (answer : Answer) (probe : Probe) (old : WatchedView) → AreOrdered notes → Acknowledges answer
    → probe.number ≡ number → IsIssued notes probe Delete → At keys probe.key old → KnowsKeys notes room keys
    → KnowsKeys (notes ++ Answered number answer ∷ []) room (slice_set keys probe.key (acknowledged old probe))
acknowledged_known notes room keys number answer probe old ordered acks same issued was known = λ key watched there. elim (at_set keys probe.key _ there) [
  | inl here ↦ subst (KnowsKey (notes ++ Answered number answer ∷ []) room key) (sym here.1)
      (subst (λ n. KnowsKey (notes ++ Answered n answer ∷ []) room key (acknowledged old probe)) same
      (acknowledge_known notes room key old probe answer ordered (subst (λ k. KnowsKey notes room k old) (sym here.0) (known probe.key old was)) (sym here.0) issued acks))
  | inr other ↦ delete_quiet notes room key watched number answer probe same issued (λ is of_key. other.0 (sym of_key)) (known key watched other.1)
]

-- how many values are kept

pub kept_at : (keys : List WatchedView) (key : ℕ) (watched : WatchedView) → At keys key watched → get_or (kept_of keys) key 0 ≡ length watched.kept
kept_at keys key watched there = get_or_from_slice_get (kept_of keys) key (length watched.kept) 0 (got_map (λ (w : WatchedView). length w.kept) keys key watched there.gets)

pub kept_past : (keys : List WatchedView) (key : ℕ) → length keys ≤ key → get_or (kept_of keys) key 0 ≡ 0
kept_past keys key past = get_or_past (kept_of keys) key 0 (let long = length-map keys (λ (w : WatchedView). length w.kept) in omega arith)

pub kept_set : (keys : List WatchedView) (key : ℕ) (watched : WatchedView) → kept_of (slice_set keys key watched) ≡ slice_set (kept_of keys) key (length watched.kept)
kept_set [] key watched = refl
kept_set (w ∷ ws) zero watched = refl
kept_set (w ∷ ws) (suc key) watched = ap (λ (l : List ℕ). length w.kept ∷ l) (kept_set ws key watched)

pub kept_more : (keys : List WatchedView) (key : ℕ) (old : WatchedView) → At keys key old → kept_of (slice_set keys key (with_set old)) ≡ slice_set (kept_of keys) key (get_or (kept_of keys) key 0 + 1)
kept_more keys key old there =
    let more : length (with_set old).kept ≡ get_or (kept_of keys) key 0 + 1 = long_more old.kept _ ∙ ap (λ n. n + 1) (sym (kept_at keys key old there)) in
    kept_set keys key (with_set old) ∙ ap (λ n. slice_set (kept_of keys) key n) more

pub fresh_kept : (keys : ℕ) → kept_of (replicate keys fresh_watched) ≡ replicate keys 0
fresh_kept zero = refl
fresh_kept (suc keys) = ap (λ (l : List ℕ). 0 ∷ l) (fresh_kept keys)

pub judge_with : (notes : List Note) (keys room : ℕ) (a b : List ℕ) → a ≡ b → judge_of notes keys room a ≡ judge_of notes keys room b
judge_with notes keys room a b same = ap (λ (k : List ℕ). judge_of notes keys room k) same

pub judge_is : (notes notes' : List Note) (keys keys' room : ℕ) (kept kept' : List ℕ) → notes ≡ notes' → keys ≡ keys' → kept ≡ kept'
    → judge_of notes keys room kept ≡ judge_of notes' keys' room kept'
judge_is notes notes' keys keys' room kept kept' a b c =
    ap (λ (n : List Note). judge_of n keys room kept) a ∙ ap (λ (k : ℕ). judge_of notes' k room kept) b ∙ judge_with notes' keys' room kept kept' c
