-- How many values a list and an object hold.
use Rattle.std.proofs.Common.{◌≡◌, ◌≢◌, suc, ◌&&◌, Bool, true, false, List, [], ◌∷◌, length, refl, ap}
use Rattle.std.specs.Prelude.{String}
use Rattle.std.specs.declared.alloc.Global.{Global}
use Rattle.serde_json.specs.View.{view, items_view, members_view}
use Rattle.serde_json.specs.declared.value.Value.{Value}
use Rattle.mr_scripts.specs.Values.{is_same, are_same, count_members}

and_false : (b : Bool) → (b && false) ≡ false
and_false true = refl
and_false false = refl

pub differ_in_length : (values others : List Value) → length values ≢ length others → are_same (items_view values) (items_view others) ≡ false
differ_in_length [] [] e = absurd (e refl)
differ_in_length [] (other ∷ others) e = refl
differ_in_length (value ∷ values) [] e = refl
differ_in_length (value ∷ values) (other ∷ others) e =
    rw (differ_in_length values others (λ same. e (ap suc same))) (and_false (is_same (view value) (view other)))

pub members_counted : (entries : List (String Global × Value)) → count_members (members_view entries) ≡ length entries
members_counted [] = refl
members_counted (entry ∷ entries) = ap suc (members_counted entries)
