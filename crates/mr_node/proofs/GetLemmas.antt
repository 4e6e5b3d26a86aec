-- Gets that stop at a key.
use Rattle.std.proofs.Common.{◌≡◌, ◌∙◌, ℕ, List, [], ◌∷◌, ◌++◌, Option, Some, None, refl, sym, ap, subst, arith, inl, inr}
use Rattle.std.specs.Option.{option_to_list}
use Rattle.std.proofs.lemmas.List.{append-nil}
use Rattle.mr_text.specs.Key.{HasKey}
use Rattle.mr_text.specs.declared.cause.Cause.TheVariants.{OutOfMemory}
use Rattle.mr_text.specs.declared.item.Item.{Item}
use Rattle.mr_node.specs.Outcome.{Did, Refused, Gets, LooksUp, StopsAtKey}

-- nothing is performed where memory is lacking from the start
pub stops_at_once : {P : Type 0} (did : Did P) (refused : Refused P)
    (old : P) (now : ℕ) (keys : List (List ℕ)) → HasKey keys → StopsAtKey did refused old now keys OutOfMemory old
stops_at_once did refused old now [] some = absurd (omega arith)
stops_at_once did refused old now (key ∷ later) some = record {
  done = [];
  key = key;
  later = later;
  found = [];
  between = old;
  splits = refl;
  gets = Gets.begins;
  fails = inr (refl, inl refl);
}

pub gets_nothing : {P : Type 0} (did : Did P) (now : ℕ) (old : P) (items : List Item)
    → items ≡ [] → Gets did now old [] items old
gets_nothing did now old items none = subst (λ i. Gets did now old [] i old) (sym none) Gets.begins

-- one more key was looked up
pub gets_found : {P : Type 0} (did : Did P) (now : ℕ) (old between new : P) (keys : List (List ℕ))
    (items more : List Item) (key : List ℕ) (found : Option Item) (item : Item) → Gets did now old keys items between
    → LooksUp did between now key found new → found ≡ Some item → more ≡ items ++ item ∷ [] → Gets did now old (keys ++ key ∷ []) more new
gets_found did now old between new keys items more key found item gets looks is grows =
    let all : items ++ option_to_list found ≡ more = ap (λ f. items ++ option_to_list f) is ∙ sym grows in
    subst (λ i. Gets did now old (keys ++ key ∷ []) i new) all (Gets.looks key found gets looks)

pub gets_missed : {P : Type 0} (did : Did P) (now : ℕ) (old between new : P) (keys : List (List ℕ))
    (items : List Item) (key : List ℕ) (found : Option Item) → Gets did now old keys items between
    → LooksUp did between now key found new → found ≡ None → Gets did now old (keys ++ key ∷ []) items new
gets_missed did now old between new keys items key found gets looks is =
    let all : items ++ option_to_list found ≡ items = ap (λ f. items ++ option_to_list f) is ∙ append-nil items in
    subst (λ i. Gets did now old (keys ++ key ∷ []) i new) all (Gets.looks key found gets looks)
