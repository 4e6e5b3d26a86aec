-- Values that are looked at one after another, until one is refused.
use Rattle.std.proofs.Common.{◌≡◌, ℕ, ◌+◌, ◌<◌, List, [], ◌∷◌, ◌++◌, length, get_or, map, drop, Ok, Err, Some, Result, refl, sym, ap, ◌∙◌, append_assoc}
use Rattle.std.proofs.lemmas.List.{drop_more}
use Rattle.std.specs.Result.{result_err}
use Rattle.std.specs.Prelude.{IsOk}
use Rattle.mr_configs.specs.Checking.{◌>>=◌}

-- what comes before a refusal doesn't change it
pub refusal_kept : {X E : Type 0} (first : X) (rest : Result (List X) E) → result_err (rest >>= λ items. Ok (first ∷ items)) ≡ result_err rest
refusal_kept first (Ok items) = refl
refusal_kept first (Err refusal) = refl

-- the items that were made, and those that are yet to come
pub one_more : {X E : Type 0} (made : List X) (next : X) (rest : Result (List X) E) →
    ((rest >>= λ items. Ok (next ∷ items)) >>= λ items. Ok (made ++ items)) ≡ (rest >>= λ items. Ok ((made ++ next ∷ []) ++ items))
one_more made next (Ok items) = ap Ok (sym (append_assoc made (next ∷ []) items))
one_more made next (Err refusal) = refl

pub refused : {X E : Type 0} (outcome : Result X E) (refusal : E) → result_err outcome ≡ Some refusal → outcome ≡ Err refusal
refused (Ok value) refusal e = cc
refused (Err other) refusal e = cc

pub rest_ok : {X Y E : Type 0} (first : X → Y) (rest : Result X E) → IsOk (rest >>= λ items. Ok (first items)) → IsOk rest
rest_ok first (Ok items) is = refl
rest_ok first (Err refusal) is = is

-- the item at an index, and those after it
pub turn : {X Y : Type 0} (seen : X → Y) (items : List X) (index : ℕ) (x : X) → index < length items → x ≡ get_or items index x →
    map seen (drop index items) ≡ seen x ∷ map seen (drop (index + 1) items)
turn seen items index x within is = ap (map seen) (drop_more items index x within) ∙ ap (λ item. seen item ∷ map seen (drop (index + 1) items)) (sym is)
