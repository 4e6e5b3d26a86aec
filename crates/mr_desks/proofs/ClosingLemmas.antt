-- What holds of each value so far, and of one more.
use Rattle.std.proofs.Common.{◌≡◌, ℕ, suc, ◌+◌, ◌<◌, List, ◌∷◌, All, map, drop, length, slice_index_or, arith, sym, ◌∙◌, ap, subst, inl, inr}
use Rattle.std.proofs.Math.Seq.{drop-cons}
use Rattle.std.proofs.lemmas.List.{get_or_default}
use Rattle.std.specs.Prelude.{Contains, Vec}
use Rattle.std.specs.declared.alloc.Global.{Global}
use Rattle.mr_proxy.specs.Answer.{AnswerView}
use Rattle.mr_desks.specs.Closing.{AreAmong}
use Rattle.std.proofs.lemmas.Bool.{cases_lt}

-- it holds of all so far, and of the next one
pub one_more : {X : Type 0} (P : X → Type 0) (xs : List X) (i : ℕ) (x : X) → i < length xs → x ≡ slice_index_or xs i x → P x
    → ((k : ℕ) (d : X) → k < i → P (slice_index_or xs k d))
    → (k : ℕ) (d : X) → k < i + 1 → P (slice_index_or xs k d)
one_more P xs i x in_range is here below k d within =
    elim (cases_lt k i) [
      | inl before ↦ below k d before
      | inr after ↦
          let at : k ≡ i = omega arith in
          subst P (is ∙ get_or_default xs i x d in_range ∙ ap (λ m. slice_index_or xs m d) (sym at)) here
    ]

-- it doesn't hold of all where it doesn't of one of them
pub not_all : {X : Type 0} (P : X → Type 0) (xs : List X) (i : ℕ) (x : X) → i < length xs → x ≡ slice_index_or xs i x → (P x → ⊥) → All P xs → ⊥
not_all P xs i x in_range is none all = none (subst P (sym is) (all i x in_range))

-- what is left begins with the next one
pub rest_is : {X : Type 0} (xs : List X) (i : ℕ) (x : X) → i < length xs → x ≡ slice_index_or xs i x → drop i xs ≡ x ∷ drop (i + 1) xs
rest_is xs i x in_range is =
    let more : suc i ≡ i + 1 = omega arith in
    drop-cons xs i x in_range ∙ ap (λ y. y ∷ drop (suc i) xs) (sym is) ∙ ap (λ n. x ∷ drop n xs) more

abbrev answers_of_sessions : List (Vec AnswerView Global) → List (List AnswerView)
answers_of_sessions sessions = map (λ (session : Vec AnswerView Global). session.items) sessions

-- those of the next session are among them, and those of the sessions after it
pub among_next : (all : List AnswerView) (sessions : List (Vec AnswerView Global)) (i : ℕ) (session : Vec AnswerView Global) → i < length sessions
    → session ≡ slice_index_or sessions i session → AreAmong all (answers_of_sessions (drop i sessions))
    → All (Contains all) session.items × AreAmong all (answers_of_sessions (drop (i + 1) sessions))
among_next all sessions i session in_range is among =
    subst (λ l. AreAmong all (answers_of_sessions l)) (rest_is sessions i session in_range is) among

pub among_before : (all : List AnswerView) (sessions : List (Vec AnswerView Global)) (i : ℕ) (session : Vec AnswerView Global) → i < length sessions
    → session ≡ slice_index_or sessions i session → All (Contains all) session.items → AreAmong all (answers_of_sessions (drop (i + 1) sessions))
    → AreAmong all (answers_of_sessions (drop i sessions))
among_before all sessions i session in_range is here after =
    subst (λ l. AreAmong all (answers_of_sessions l)) (sym (rest_is sessions i session in_range is)) (here, after)
