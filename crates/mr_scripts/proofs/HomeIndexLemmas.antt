-- An index over the names of a setup's nodes has those of the pools that were added, and what it has decides of the items.
use Rattle.std.proofs.Common.{◌≡◌, ◌||◌, ◌&&◌, Bool, true, false, cond, List, [], ◌∷◌, refl, sym, ap, ◌∙◌}
use Rattle.std.proofs.lemmas.Map.Text.{is_eq-slice_cmp}
use Rattle.std.specs.Ordering.{nat_cmp}
use Rattle.std.specs.Cmp.Lexicographic.{slice_cmp}
use Rattle.std.specs.BTreeSet.{BTreeSet, UpdatesBy}
use Rattle.std.specs.List.{list_all}
use Rattle.std.specs.Str.{bytes_eq}
use denote.Ref.{Bor}
use Rattle.serde_json.specs.Data.{Data}
use Rattle.mr_configs.specs.Fields.{Text, is_one_of}
use Rattle.mr_scripts.specs.Homes.{values_name, node_at, are_housed}
use Rattle.mr_scripts.specs.steps.HomeIndex.{has_name, IsIndexOf}

-- what an index has after a name was added
pub name_added : (first : Text) (old new : BTreeSet (Bor Text)) →
    UpdatesBy (λ a b. slice_cmp nat_cmp a.now b.now) (λ known. slice_cmp nat_cmp first known.now) old new true →
    (name : Text) → has_name new name ≡ cond (bytes_eq first name) true (has_name old name)
name_added first old new updates name =
    updates.0 (record { ref_ptr = (0, 0); now = name }) ∙ ap (λ is. cond is true (has_name old name)) (is_eq-slice_cmp first name)

-- a name that was added is no longer among those that are left
pub name_moved : (first : Text) (rest : List Text) (name : Text) (old new : Bool) → new ≡ cond (bytes_eq first name) true old →
    (is_one_of (first ∷ rest) name || old) ≡ (is_one_of rest name || new)
name_moved first rest name old new e = go (bytes_eq first name) (is_one_of rest name) e
  where
    go : (is among : Bool) → new ≡ cond is true old → ((is || among) || old) ≡ (among || new)
    go true true e = refl
    go true false e = sym e
    go false among e = ap (among ||◌) (sym e)

-- the names of a proxy's nodes move to the index
pub proxy_moved : (here rest old new : Bool) → new ≡ (here || old) → ((here || rest) || old) ≡ (rest || new)
proxy_moved true true old new e = refl
proxy_moved true false old new e = sym e
proxy_moved false rest old new e = ap (rest ||◌) (sym e)

-- names that are added a second time change nothing
pub twice : (here old new : Bool) → new ≡ (here || old) → (here || new) ≡ new
twice true old new e = sym e
twice false old new e = refl

-- what was added before is still there
pub kept : (common here old new : Bool) → (common || old) ≡ old → new ≡ (here || old) → (common || new) ≡ new
kept true true old new is e = sym e
kept true false old new is e = is ∙ sym e
kept false here old new is e = refl

-- whether the index has the nodes of one item more
pub one_indexed : (index : BTreeSet (Bor Text)) (item : Data) (items : List Data) (is : Bool) → has_name index (node_at item) ≡ is →
    list_all (λ item. has_name index (node_at item)) (item ∷ items) ≡ (is && list_all (λ item. has_name index (node_at item)) items)
one_indexed index item items is e = ap (λ is. is && list_all (λ item. has_name index (node_at item)) items) e

-- the items are housed where the index has their nodes
pub items_found : (common : Data) (proxies : List Data) (index : BTreeSet (Bor Text)) → IsIndexOf common proxies index → (items : List Data) →
    list_all (λ item. has_name index (node_at item)) items ≡ are_housed common proxies items
items_found common proxies index is [] = refl
items_found common proxies index is (item ∷ items) = rw (is (node_at item)) (ap (values_name common proxies (node_at item) &&◌) (items_found common proxies index is items))
