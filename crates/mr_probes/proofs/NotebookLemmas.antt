-- What a notebook keeps of its notes.
use Rattle.std.proofs.Common.{◌≡◌, ◌∙◌, ℕ, Bool, zero, suc, ◌+◌, ◌<◌, inl, inr, true, false, List, [], ◌∷◌, ◌++◌, length, Option, Some, None, refl, sym, ap, subst, arith, ◌⊎◌}
use Rattle.std.specs.Prelude.{Vec, vec_len, get_or, slice_get, slice_index, slice_set, ◌==◌}
use Rattle.std.proofs.lemmas.Bool.{cases_eq}
use Rattle.mr_counting.specs.Counting.{one_more}
use Rattle.mr_canary.specs.declared.note.Probe.{Probe}
use Rattle.mr_canary.specs.declared.note.Asked.{Asked}
use Rattle.mr_canary.specs.declared.note.Asked.TheVariants as asks
use Rattle.mr_canary.specs.declared.note.Note.{Note}
use Rattle.mr_canary.specs.declared.note.Conviction.{Conviction}
use Rattle.mr_canary.specs.JudgeView.{VerdictsStand, OtherVerdictsStand, JudgesAnswer}
use Rattle.mr_canary.specs.Notes.{IsConvicted, Convicts, Tells}
use Rattle.mr_canary.specs.declared.error.CanaryError.{CanaryError}
use Rattle.mr_canary.specs.declared.note.Answer.{Answer}
use Rattle.mr_canary.specs.declared.note.Note.TheVariants.{Issued, Answered}
use Rattle.mr_canary.specs.JudgeView.{JudgeView, Issues, RefusesIssue, with_note}
use Rattle.mr_canary.specs.Notes.{is_set, is_set_of, sets_of}
use Rattle.mr_canary.proofs.NoteLemmas.{issued_stays, stored_stays, acknowledged_stays, sets_one_more, sets_same}
use Rattle.std.specs.Vec.{with_item}
use Rattle.std.specs.List.{range_with_len}
use Rattle.std.specs.Prelude.{MatchOption, MatchResult, Result, Ok, Err, map}
use Rattle.std.proofs.Common.{eq-eqb, ne_eqb}
use Rattle.std.proofs.lemmas.Bool.{and_left}
use Rattle.std.proofs.lemmas.List.{get_or-set_same, get_or-set_other}
use Rattle.std.proofs.lemmas.List.FromFn.{fill_by_all}
use Rattle.std.specs.Prelude.{if◌then◌else◌, nat_lt, drop}
use Rattle.mr_probes.specs.declared.answering.Said.{Said}
use Rattle.mr_probes.specs.declared.answering.Said.TheVariants.{Hit, Miss, Stored, Deleted, NotFound, Failed}
use Rattle.mr_probes.specs.declared.notebook.Found.{Found}
use Rattle.mr_probes.specs.NotebookView.{found_after, IsFirstSet, NeverSetBetween, came_back_after}
use Rattle.mr_probes.specs.steps.Judging.{AreTold, AreZero, Counts, IsFirstPositive, IsOfSame}
use Rattle.mr_probes.specs.steps.Notebook.{IsNotebook}
use Rattle.mr_probes.specs.declared.notebook.Notebook.TheInside.{Inside}

get_left : (list : List Note) (place : ℕ) (note : Note) (later : List Note) → slice_get list place ≡ Some note → slice_get (list ++ later) place ≡ Some note
get_left [] place note later e = absurd (cc)
get_left (first ∷ list) zero note later e = e
get_left (first ∷ list) (suc place) note later e = get_left list place note later e

-- what convicts does so by more notes
convicts_stays : {notes : List Note} {set' delete get : Probe} {value : ℕ} (later : List Note) → Convicts notes set' delete get value
    → Convicts (notes ++ later) set' delete get value
convicts_stays {notes = notes} later c = record {
  stored = c.stored;
  acknowledged = c.acknowledged;
  hit = c.hit;
  is_stored = stored_stays later c.is_stored;
  is_acknowledged = acknowledged_stays later c.is_acknowledged;
  is_hit = record { issued = issued_stays later c.is_hit.issued; answered = record { there = record { gets = get_left notes _ _ later c.is_hit.answered.there.gets } } };
  answered_before = c.answered_before;
  acknowledged_before = c.acknowledged_before;
}

tells_more : (notes later : List Note) (conviction : Conviction) → Tells notes conviction → Tells (notes ++ later) conviction
tells_more notes later conviction t = record { set = t.set; convicts = convicts_stays later t.convicts }

-- what the notes tell they tell with one more
pub told_stays : (old : List Note) (note : Note) (new : List Note) → new ≡ old ++ note ∷ [] → (found : List Found) → AreTold old found → AreTold new found
told_stays old note new is found told place one there =
    subst (λ (n : List Note). Tells n one.conviction) (sym is) (tells_more old (note ∷ []) one.conviction (told place one there))

there_or_last : (found : List Found) (last : Found) (place : ℕ) (one : Found) → slice_get (found ++ last ∷ []) place ≡ Some one → (slice_get found place ≡ Some one) ⊎ (last ≡ one)
there_or_last [] last zero one e = inr (cc)
there_or_last [] last (suc place) one e = absurd (cc)
there_or_last (first ∷ found) last zero one e = inl e
there_or_last (first ∷ found) last (suc place) one e = there_or_last found last place one e

-- and one more that they tell
told_with : (notes : List Note) (last : Found) (found : List Found) → Tells notes last.conviction → AreTold notes found → (few : Bool) → AreTold notes (if few then found ++ last ∷ [] else found)
told_with notes last found tells told true place one there = elim (there_or_last found last place one there) [
  | inl old ↦ told place one old
  | inr new ↦ subst (λ (f : Found). Tells notes f.conviction) new tells
]
told_with notes last found tells told false place one there = told place one there

found_told : (notes : List Note) (convicted : Option Conviction) (said : Said) (found : List Found) → ((conviction : Conviction) → convicted ≡ Some conviction → Tells notes conviction)
    → AreTold notes found → AreTold notes (found_after convicted said found)
found_told notes None said found tells told = told
found_told notes (Some conviction) (Hit stamp) found tells told =
    told_with notes (record { conviction = conviction; stamp = stamp }) found (tells conviction refl) told (nat_lt (length found) 64)
found_told notes (Some conviction) Miss found tells told = told
found_told notes (Some conviction) Stored found tells told = told
found_told notes (Some conviction) Deleted found tells told = told
found_told notes (Some conviction) NotFound found tells told = told
found_told notes (Some conviction) (Failed trouble) found tells told = told

-- without the first
pub told_behind : (notes : List Note) (found : List Found) → AreTold notes found → AreTold notes (drop 1 found)
told_behind notes [] told place one there = absurd (cc)
told_behind notes (first ∷ found) told place one there = told (suc place) one there

pub convicted_stays : (notes later : List Note) (get : Probe) → IsConvicted notes get → IsConvicted (notes ++ later) get
convicted_stays notes later get c = record { set = c.set; delete = c.delete; value = c.value; convicts = convicts_stays later c.convicts }

-- so it is where no verdict changes
pub counts_same : (count : ℕ) (old : List Note) (note : Note) (new : List Note) → new ≡ old ++ note ∷ [] → VerdictsStand old new → Counts count old → Counts count new
counts_same count old note new is stands counts = (
  λ none get convicted. counts.0 none get (stands get convicted),
  λ none. counts.1 (λ get convicted. none get (subst (λ (n : List Note). IsConvicted n get) (sym is) (convicted_stays old (note ∷ []) get convicted))),
)

-- where an answer convicts nothing
pub counts_silent : (count : ℕ) (old : List Note) (note : Note) (new : List Note) (number : ℕ) → new ≡ old ++ note ∷ [] → OtherVerdictsStand old number new
    → JudgesAnswer new number None → Counts count old → Counts count new
counts_silent count old note new number is stands judged counts = (
  λ none get convicted. elim (cases_eq get.number number) [
    | inl same ↦ judged get same convicted
    | inr other ↦ counts.0 none get (stands get other convicted)
  ],
  λ none. counts.1 (λ get convicted. none get (subst (λ (n : List Note). IsConvicted n get) (sym is) (convicted_stays old (note ∷ []) get convicted))),
)

-- and where one does
pub counts_more : (count : ℕ) (new : List Note) (number : ℕ) (conviction : Conviction) → JudgesAnswer new number (Some conviction) → Counts (one_more count) new
counts_more count new number conviction judged = (
  λ none. absurd (omega arith),
  λ none. absurd (none conviction.get (record {
    set = judged.1.set;
    delete = conviction.delete;
    value = conviction.value;
    convicts = judged.1.convicts;
  })),
)

-- a notebook whose judge is another

pub kept_by : (n : Inside) (judge : JudgeView) → judge ≡ n.judge → IsNotebook n → IsNotebook (record n { judge = judge })
kept_by n judge same i = subst (λ (j : JudgeView). IsNotebook (record n { judge = j })) (sym same) i

module _ (n : Inside) (judge : JudgeView) (client time key : ℕ) (asked : Asked) (probe : Probe) (issues : Issues n.judge client time key asked probe judge) (i : IsNotebook n) where
  room_by : judge.room ≡ 64
  room_by = ap (λ (j : JudgeView). j.room) issues.new_is ∙ i.room

  keys_by : judge.keys ≡ n.judge.keys
  keys_by = ap (λ (j : JudgeView). j.keys) issues.new_is

  notes_by : judge.notes ≡ n.judge.notes ++ Issued probe asked ∷ []
  notes_by = ap (λ (j : JudgeView). j.notes) issues.new_is

  -- behind a request that is no set
  pub issued_other : VerdictsStand n.judge.notes judge.notes → is_set asked ≡ false → IsNotebook (record n { judge = judge })
  issued_other stands none = record {
    room = room_by;
    many = i.many ∙ sym keys_by;
    all = i.all ∙ sym keys_by;
    counted = λ k. i.counted k ∙ sym (ap (λ (l : List Note). sets_of l k) notes_by ∙ sets_same n.judge.notes (Issued probe asked) k (and_left (is_set asked) (probe.key == k) none));
    kept = i.kept;
    tells = told_stays n.judge.notes (Issued probe asked) judge.notes notes_by n.found.items i.tells;
    told = counts_same n.came_back n.judge.notes (Issued probe asked) judge.notes notes_by stands i.told;
  }

-- behind a set

set_counted : (n : Inside) (judge : JudgeView) (client time key value more : ℕ) (probe : Probe) → Issues n.judge client time key (asks.Set value) probe judge → IsNotebook n
    → key < length n.sets.items → more ≡ slice_index n.sets.items key + 1 → (k : ℕ) → slice_index (slice_set n.sets.items key more) k ≡ sets_of judge.notes k
set_counted n judge client time key value more probe issues i within is k =
    let notes = notes_by n judge client time key (asks.Set value) probe issues i in
    let of : probe.key ≡ key = ap (λ (p : Probe). p.key) issues.probe_is in
    elim (cases_eq k key) [
      | inl same ↦
          let set' : is_set_of k (Issued probe (asks.Set value)) ≡ true = eq-eqb probe.key k (of ∙ sym same) in
          ap (λ (m : ℕ). slice_index (slice_set n.sets.items key more) m) same ∙ get_or-set_same n.sets.items key more 0 within ∙ is
          ∙ ap (λ (m : ℕ). m + 1) (ap (λ (m : ℕ). slice_index n.sets.items m) (sym same) ∙ i.counted k)
          ∙ sym (ap (λ (l : List Note). sets_of l k) notes ∙ sets_one_more n.judge.notes (Issued probe (asks.Set value)) k set')
      | inr other ↦
          let no : is_set_of k (Issued probe (asks.Set value)) ≡ false = ne_eqb probe.key k (λ e. other (sym e ∙ of)) in
          get_or-set_other n.sets.items key k more 0 other ∙ i.counted k
          ∙ sym (ap (λ (l : List Note). sets_of l k) notes ∙ sets_same n.judge.notes (Issued probe (asks.Set value)) k no)
    ]

pub issued_set : (n : Inside) (judge : JudgeView) (client time key value more : ℕ) (probe : Probe) → Issues n.judge client time key (asks.Set value) probe judge
    → VerdictsStand n.judge.notes judge.notes → IsNotebook n → key < length n.sets.items → more ≡ slice_index n.sets.items key + 1
    → IsNotebook (record n { judge = judge; sets = with_item n.sets key more })
issued_set n judge client time key value more probe issues stands i within is = record {
  room = room_by n judge client time key (asks.Set value) probe issues i;
  many = i.many ∙ sym (keys_by n judge client time key (asks.Set value) probe issues i);
  all = i.all ∙ sym (keys_by n judge client time key (asks.Set value) probe issues i);
  counted = set_counted n judge client time key value more probe issues i within is;
  kept = i.kept;
  tells = told_stays n.judge.notes (Issued probe (asks.Set value)) judge.notes (notes_by n judge client time key (asks.Set value) probe issues i) n.found.items i.tells;
  told = counts_same n.came_back n.judge.notes (Issued probe (asks.Set value)) judge.notes (notes_by n judge client time key (asks.Set value) probe issues i) stands i.told;
}

-- behind a get or a delete that was noted or not
pub issued_or_not : (n : Inside) (judge : JudgeView) (client time key : ℕ) (asked : Asked) (result : Result Probe CanaryError)
    → MatchResult result (λ probe. Issues n.judge client time key asked probe judge) (λ e. RefusesIssue n.judge key e × (judge ≡ n.judge))
    → VerdictsStand n.judge.notes judge.notes → is_set asked ≡ false → IsNotebook n → IsNotebook (record n { judge = judge })
issued_or_not n judge client time key asked (Ok probe) m stands none i = issued_other n judge client time key asked probe m i stands none
issued_or_not n judge client time key asked (Err e) m stands none i = kept_by n judge m.1 i

-- how often each key was set, as a list
pub sets_listed : (n : Inside) → IsNotebook n → n.sets.items ≡ map (sets_of n.judge.notes) (range_with_len 0 n.judge.keys)
sets_listed n i = fill_by_all (sets_of n.judge.notes) n.sets.items n.judge.keys 0 (let ok = n.sets.ok.0 in let all = i.all in omega arith) (λ k within. i.counted k)

one_inside : (a b : Conviction) → Some a ≡ Some b → a ≡ b
one_inside a b e = cc

-- what an answer does to a judge

module _ (old new : JudgeView) (number : ℕ) (answer : Answer) (noted : new ≡ record (with_note old (Answered number answer)) { kept = new.kept }) where
  answer_notes : new.notes ≡ old.notes ++ Answered number answer ∷ []
  answer_notes = ap (λ (j : JudgeView). j.notes) noted

  pub same_by_answer : IsOfSame old new
  same_by_answer = record {
    keys = ap (λ (j : JudgeView). j.keys) noted;
    room = ap (λ (j : JudgeView). j.room) noted;
    sets = λ key. ap (λ (l : List Note). sets_of l key) answer_notes ∙ sets_same old.notes (Answered number answer) key refl;
  }

  pub counts_by_answer : (convicted : Option Conviction) → JudgesAnswer new.notes number convicted → OtherVerdictsStand old.notes number new.notes
      → (count : ℕ) → Counts count old.notes → Counts (came_back_after convicted count) new.notes
  counts_by_answer None judged stands count counts = counts_silent count old.notes (Answered number answer) new.notes number answer_notes stands judged counts
  counts_by_answer (Some conviction) judged stands count counts = counts_more count new.notes number conviction judged

  tells_now : (convicted : Option Conviction) → JudgesAnswer new.notes number convicted → (conviction : Conviction) → convicted ≡ Some conviction → Tells new.notes conviction
  tells_now None judged conviction e = absurd (cc)
  tells_now (Some found) judged conviction e = subst (λ (c : Conviction). Tells new.notes c) (one_inside found conviction e) judged.1

  pub told_by_answer : (convicted : Option Conviction) → JudgesAnswer new.notes number convicted → (said : Said) (found : List Found) → AreTold old.notes found
      → AreTold new.notes (found_after convicted said found)
  told_by_answer convicted judged said found told =
      found_told new.notes convicted said found (tells_now convicted judged) (told_stays old.notes (Answered number answer) new.notes answer_notes found told)

pub same_by_none : (old new : JudgeView) → new ≡ old → IsOfSame old new
same_by_none old new e = record {
  keys = ap (λ (j : JudgeView). j.keys) e;
  room = ap (λ (j : JudgeView). j.room) e;
  sets = λ key. ap (λ (j : JudgeView). sets_of j.notes key) e;
}

-- the first key that was set, by the counts
pub first_by : (n : Inside) → IsNotebook n → (from : ℕ) (result : Option ℕ) → MatchOption result (AreZero n.sets.items from (length n.sets.items)) (IsFirstPositive n.sets.items from)
    → MatchOption result (NeverSetBetween n.judge.notes from n.judge.keys) (IsFirstSet n.judge from)
first_by n i from None none =
    let long : length n.sets.items ≡ n.judge.keys = (let ok = n.sets.ok.0 in let all = i.all in omega arith) in
    λ key behind within. sym (i.counted key) ∙ none key behind (omega arith)
first_by n i from (Some key) is =
    let long : length n.sets.items ≡ n.judge.keys = (let ok = n.sets.ok.0 in let all = i.all in omega arith) in
    let some = is.positive in
    let count = i.counted key in
    let there = is.there in
    record {
      behind = is.behind;
      there = omega arith;
      was_set = omega arith;
      first = λ k behind before. sym (i.counted k) ∙ is.first k behind before;
    }

pub told_none : (notes : List Note) (found : List Found) → found ≡ [] → AreTold notes found
told_none notes [] is place one there = absurd (cc)
told_none notes (first ∷ found) is place one there = absurd (cc)

pub first_told : (notes : List Note) (found : List Found) (one : Found) → AreTold notes found → 0 < length found → one ≡ get_or found 0 one → Tells notes one.conviction
first_told notes [] one told some is = absurd (omega arith)
first_told notes (first ∷ found) one told some is = subst (λ (f : Found). Tells notes f.conviction) (sym is) (told 0 first refl)

-- what isn't empty has a first
pub some_found : {Z : Type 0} (found : Vec Found Z) → (vec_len found == 0) ≡ false → 0 < length found.items
some_found found some = elim (cases_eq (vec_len found) 0) [
  | inl none ↦ absurd (let e = eq-eqb (vec_len found) 0 none in cc)
  | inr more ↦ (let ok = found.ok.0 in omega arith)
]
