-- The entries of the kit's cache, in the words of a node's items.
use Rattle.std.proofs.Common.{◌≡◌, ◌∙◌, ℕ, ◌-◌, List, [], ◌∷◌, take, true, false, cond, not, Option, Some, None, IsSome, Result, Err, refl, sym, ap, subst}
use Rattle.std.proofs.lemmas.Bool.{false_from_ne_true}
use Rattle.std.proofs.lemmas.Slice.Eq.{bytes_eq-Decides}
use Rattle.std.specs.Map.{lookup, lookup_entry, remove_entry}
use Rattle.std.specs.Option.{option_map, option_map_or}
use Rattle.std.specs.Result.{IsOk}
use Rattle.std.specs.Str.{bytes_eq}
use Rattle.lru.proofs.Pairs.{lookup-lookup_entry}
use Rattle.lru.specs.LruCache.{lru_cache, promoted, put_entries}
use Rattle.mr_node.specs.declared.cached_item.CachedItem.{CachedItem}
use Rattle.mr_node.specs.Items.{NamedItem, is_named, named_item_of, item_of, without, HasDistinctKeys, IsCacheContent}
use Rattle.mr_node.specs.Recency.{put_in_front}
use Rattle.mr_node.proofs.ItemLemmas.{named_key, named_apart, none_named, found_key, without_absent}
use Rattle.mr_node.proofs.KeptLemmas.{put_found}

-- a key is compared with an entry's in the one order or in the other
either_way : (key : List ℕ) (item : NamedItem) → bytes_eq key item.0 ≡ is_named key item
either_way key item =
    elim (is_named key item) as (λ b. is_named key item ≡ b → bytes_eq key item.0 ≡ b) [
      | true ↦ λ is. (bytes_eq-Decides key item.0).1 (sym (named_key key item is))
      | false ↦ λ is.
          false_from_ne_true (bytes_eq key item.0) (λ same. named_apart key item is (sym ((bytes_eq-Decides key item.0).0 same)))
    ] refl

entry_is : (key : List ℕ) (items : List NamedItem) → lookup_entry (bytes_eq key) items ≡ named_item_of key items
entry_is key [] = refl
entry_is key (x ∷ xs) = rw (either_way key x, entry_is key xs) refl

-- what a look-up finds
pub item_is : (key : List ℕ) (items : List NamedItem) → lookup (bytes_eq key) items ≡ item_of key items
item_is key items =
    sym (lookup-lookup_entry (bytes_eq key) items) ∙ ap (option_map (λ (named : NamedItem). named.1)) (entry_is key items)

pub found_is : (key : List ℕ) (items : List NamedItem) (item : CachedItem) → lookup (bytes_eq key) items ≡ Some item
    → named_item_of key items ≡ Some (key, item)
found_is key items item found = named (named_item_of key items) refl (sym (item_is key items) ∙ found)
  where
    named : (there : Option NamedItem) → named_item_of key items ≡ there → option_map (λ (i : NamedItem). i.1) there ≡ Some item
        → named_item_of key items ≡ Some (key, item)
    named None is value = cc
    named (Some i) is value =
        let same : i.1 ≡ item = cc in
        is ∙ ap (λ k. Some (k, i.1)) (found_key key items i is) ∙ ap (λ v. Some (key, v)) same

pub absent_is : (key : List ℕ) (items : List NamedItem) → lookup (bytes_eq key) items ≡ None → named_item_of key items ≡ None
absent_is key items none = none_named (named_item_of key items) (sym (item_is key items) ∙ none)

-- what is left where the key's entry is taken out
pub rest_is : (key : List ℕ) (items : List NamedItem) → HasDistinctKeys items → remove_entry (bytes_eq key) items ≡ without key items
rest_is key [] distinct = refl
rest_is key (x ∷ xs) distinct =
    rw (either_way key x) ((elim (is_named key x) as (λ b. is_named key x ≡ b
    → cond b xs (x ∷ remove_entry (bytes_eq key) xs) ≡ cond (not b) (x ∷ without key xs) (without key xs)) [
      | true ↦ λ is.
          let others : named_item_of key xs ≡ None = ap (λ k. named_item_of k xs) (sym (named_key key x is)) ∙ distinct.0 in
          sym (without_absent key xs others)
      | false ↦ λ is. ap (λ (l : List NamedItem). x ∷ l) (rest_is key xs distinct.1)
    ]) refl)

-- what stands in order where the key's entry is promoted
pub front_is : (key : List ℕ) (items : List NamedItem) (item : CachedItem) → HasDistinctKeys items → lookup (bytes_eq key) items ≡ Some item
    → promoted (bytes_eq key) items ≡ (key, item) ∷ without key items
front_is key items item distinct found =
    ap (λ there. option_map_or (λ (i : NamedItem). i ∷ remove_entry (bytes_eq key) items) there items) (entry_is key items ∙ found_is key items item found)
    ∙ ap (λ (l : List NamedItem). (key, item) ∷ l) (rest_is key items distinct)

-- what stands in order after a put
pub put_is : (capacity : ℕ) (key : List ℕ) (items : List NamedItem) (item : CachedItem) → IsCacheContent capacity items
    → put_entries bytes_eq (lru_cache items capacity) key item ≡ put_in_front capacity (key, item) (without key items)
put_is capacity key items item kept = by_entry (named_item_of key items) refl
  where
    after : Option NamedItem → List NamedItem
    after there = option_map_or (λ (i : NamedItem). (i.0, item) ∷ remove_entry (bytes_eq key) items) there ((key, item) ∷ take (capacity - 1) items)

    by_entry : (there : Option NamedItem) → named_item_of key items ≡ there
        → put_entries bytes_eq (lru_cache items capacity) key item ≡ put_in_front capacity (key, item) (without key items)
    by_entry None is =
        ap after (entry_is key items ∙ is) ∙ ap (put_in_front capacity (key, item)) (sym (without_absent key items is))
    by_entry (Some i) is =
        ap after (entry_is key items ∙ is) ∙ ap (λ k. (k, item) ∷ remove_entry (bytes_eq key) items) (found_key key items i is)
        ∙ ap (λ (l : List NamedItem). (key, item) ∷ l) (rest_is key items kept.distinct)
        ∙ sym (put_found capacity key items item (i, is) kept)

-- a put that is refused is one of a new key
pub refused_is_new : {X E : Type 0} (key : List ℕ) (items : List NamedItem) (result : Result X E) (refusal : E) → result ≡ Err refusal
    → (IsSome (lookup (bytes_eq key) items) → IsOk result) → item_of key items ≡ None
refused_is_new {X = X} {E = E} key items result refusal refused succeeds = sym (item_is key items) ∙ absent (lookup (bytes_eq key) items) refl
  where
    absent : (there : Option CachedItem) → lookup (bytes_eq key) items ≡ there → there ≡ None
    absent None is = refl
    absent (Some item) is =
        let well : IsOk {T = X} {E = E} (Err refusal) = subst (IsOk {T = X} {E = E}) refused (succeeds (subst IsSome (sym is) refl)) in
        let both : false ≡ true = well in cc
