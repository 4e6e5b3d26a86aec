-- What taking the convictions of a canary one by one comes to.
use Rattle.std.proofs.Common.{arith, ◌≡◌, ◌+◌, ◌<◌, ◌≤◌, ◌∙◌, slice_index_or, ℕ, zero, suc, List, [], ◌∷◌, ◌++◌, length, take, drop, Some, None, refl, ap, sym, subst}
use Rattle.std.proofs.lemmas.List.{append-nil, append_assoc, length-append, take_more}
use Rattle.std.proofs.lemmas.List.Elements.{All-push}
use Rattle.mr_canary.specs.Notes.{Tells}
use Rattle.mr_flights.specs.Scene.{SceneView}
use Rattle.mr_flights.specs.Seeing.{AreConvicted, AreTold, IsTold}
use Rattle.mr_probes.specs.CanaryView.{CanaryView}
use Rattle.mr_probes.specs.NotebookView.{first_of}
use Rattle.mr_probes.specs.declared.notebook.Found.{Found}
use Rattle.mr_sightings.specs.declared.came_back.CameBack.{CameBack}

-- a canary of these convictions that weren't taken yet
abbrev pub with_found : List Found → CanaryView → CanaryView
with_found found canary = record canary { notebook = record canary.notebook { found = found } }

-- so many were taken, and these are left
pub record AreSplit (all taken left : List Found) (number : ℕ) : Type 0 where
  pub whole : taken ++ left ≡ all
  pub count : length taken ≡ number

pub none_taken : (all : List Found) → AreSplit all [] all 0
none_taken all = record { whole = refl; count = refl }

-- one more was taken
one_more_taken : (taken left more rest : List Found) (one : Found) → Some one ≡ first_of left → rest ≡ drop 1 left → more ≡ taken ++ one ∷ []
    → more ++ rest ≡ taken ++ left
one_more_taken taken [] more rest one first dropped pushed = cc
one_more_taken taken (l ∷ ls) more rest one first dropped pushed =
    let is : one ≡ l = cc in
    let tail : rest ≡ ls = dropped in
    rw (pushed, tail, is) (append_assoc taken (l ∷ []) ls)

pub taken_more : (all taken left more rest : List Found) (one : Found) (number : ℕ) → AreSplit all taken left number → Some one ≡ first_of left
    → rest ≡ drop 1 left → more ≡ taken ++ one ∷ [] → AreSplit all more rest (number + 1)
taken_more all taken left more rest one number split first dropped pushed =
    let before : length taken ≡ number = split.count in
    let count : length more ≡ length taken + 1 = ap (λ (l : List Found). length l) pushed ∙ length-append taken (one ∷ []) in
    record { whole = one_more_taken taken left more rest one first dropped pushed ∙ split.whole; count = omega arith }

-- one more came back by the notes
pub convicted_more : (canary : CanaryView) (found more : List Found) (one : Found) → AreConvicted canary found
    → Tells canary.notebook.judge.notes one.conviction → more ≡ found ++ one ∷ [] → AreConvicted canary more
convicted_more canary found more one so_far tells pushed =
    subst (AreConvicted canary) (sym pushed) (All-push (λ (f : Found). Tells canary.notebook.judge.notes f.conviction) found one so_far tells)

nothing_left : (left : List Found) → None ≡ first_of left → left ≡ []
nothing_left [] none = refl
nothing_left (l ∷ ls) none = cc

take_append : (taken left : List Found) → take (length taken) (taken ++ left) ≡ taken
take_append [] left = refl
take_append (t ∷ ts) left = ap (λ (l : List Found). t ∷ l) (take_append ts left)

drop_append : (taken left : List Found) → drop (length taken) (taken ++ left) ≡ left
drop_append [] left = refl
drop_append (t ∷ ts) left = drop_append ts left

take_fits : (xs : List Found) (n : ℕ) → length xs ≤ n → take n xs ≡ xs
take_fits [] zero fits = refl
take_fits [] (suc n) fits = refl
take_fits (x ∷ xs) zero fits = absurd (omega arith)
take_fits (x ∷ xs) (suc n) fits = ap (λ (l : List Found). x ∷ l) (take_fits xs n (omega arith))

drop_fits : (xs : List Found) (n : ℕ) → length xs ≤ n → drop n xs ≡ []
drop_fits [] zero fits = refl
drop_fits [] (suc n) fits = refl
drop_fits (x ∷ xs) zero fits = absurd (omega arith)
drop_fits (x ∷ xs) (suc n) fits = drop_fits xs n (omega arith)

-- as many as may be taken at a time were
pub record IsTaken (all taken left : List Found) (most : ℕ) : Type 0 where
  pub taken_is : taken ≡ take most all
  pub left_is : left ≡ drop most all

pub taken_all : (all taken left rest : List Found) (number most : ℕ) → AreSplit all taken left number → None ≡ first_of left → rest ≡ drop 1 left
    → number ≤ most → IsTaken all taken rest most
taken_all all taken left rest number most split none dropped fits =
    let empty : left ≡ [] = nothing_left left none in
    let is : taken ≡ all = sym (append-nil taken) ∙ (ap (λ (l : List Found). taken ++ l) (sym empty) ∙ split.whole) in
    let few : length all ≤ most = let count : length taken ≡ number = split.count in let same : length taken ≡ length all = ap (λ (l : List Found). length l) is in omega arith in
    let nothing : rest ≡ [] = rw empty at dropped in
    record { taken_is = is ∙ sym (take_fits all most few); left_is = nothing ∙ sym (drop_fits all most few) }

pub taken_most : (all taken left : List Found) (number most : ℕ) → AreSplit all taken left number → number ≡ most → IsTaken all taken left most
taken_most all taken left number most split count =
    let as_many : length taken ≡ most = split.count ∙ count in
    record {
      taken_is = sym (take_append taken left) ∙ (ap (λ (l : List Found). take (length taken) l) split.whole ∙ ap (λ (n : ℕ). take n all) as_many);
      left_is = sym (drop_append taken left) ∙ (ap (λ (l : List Found). drop (length taken) l) split.whole ∙ ap (λ (n : ℕ). drop n all) as_many);
    }

told_pushed : (scene : SceneView) (keys : List (List ℕ)) (found : List Found) (told : List CameBack) (one : Found) (said : CameBack)
    → AreTold scene keys found told → IsTold scene keys one said → AreTold scene keys (found ++ one ∷ []) (told ++ said ∷ [])
told_pushed scene keys [] [] one said so_far is = (is, tt)
told_pushed scene keys [] (t ∷ ts) one said so_far is = absurd so_far
told_pushed scene keys (f ∷ fs) [] one said so_far is = absurd so_far
told_pushed scene keys (f ∷ fs) (t ∷ ts) one said so_far is = (so_far.0, told_pushed scene keys fs ts one said so_far.1 is)

-- one more is told
pub told_more : (scene : SceneView) (keys : List (List ℕ)) (found : List Found) (told more : List CameBack) (i : ℕ) (d : Found) (said : CameBack)
    → i < length found → AreTold scene keys (take i found) told → IsTold scene keys (slice_index_or found i d) said → more ≡ told ++ said ∷ []
    → AreTold scene keys (take (i + 1) found) more
told_more scene keys found told more i d said inside so_far is pushed =
    rw (pushed, take_more found i d inside) (told_pushed scene keys (take i found) told (slice_index_or found i d) said so_far is)
