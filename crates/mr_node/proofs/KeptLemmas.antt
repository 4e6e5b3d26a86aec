-- Each command leaves a list of items that a cache may keep.
use Rattle.std.proofs.Common.{◌≡◌, ℕ, ◌-◌, ◌≤◌, List, ◌∷◌, length, Some, ap, subst, arith}
use Rattle.std.proofs.lemmas.List.{length-take, take_all}
use Rattle.mr_node.specs.declared.cached_item.CachedItem.{CachedItem}
use Rattle.mr_node.specs.Items.{NamedItem, named_item_of, without, IsCacheContent}
use Rattle.mr_node.specs.Recency.{put_in_front}
use Rattle.mr_node.proofs.ItemLemmas.{distinct-without, length-without, length-without_found, distinct_in_front}

pub kept-without : (capacity : ℕ) (key : List ℕ) (items : List NamedItem) → IsCacheContent capacity items → IsCacheContent capacity (without key items)
kept-without capacity key items kept = record {
  not_zero = kept.not_zero;
  within = (let less = length-without key items in let most = kept.within in omega arith);
  distinct = distinct-without key items kept.distinct;
}

pub kept-put_in_front : (capacity : ℕ) (item : NamedItem) (items : List NamedItem) → IsCacheContent capacity items
    → IsCacheContent capacity (put_in_front capacity item (without item.0 items))
kept-put_in_front capacity item items kept = record {
  not_zero = kept.not_zero;
  within = (let some = kept.not_zero in omega (arith, length-take (capacity - 1) (without item.0 items)));
  distinct = distinct_in_front item (capacity - 1) items kept.distinct;
}

-- there is room behind an item that is put in front in place of its key's
pub put_found : (capacity : ℕ) (key : List ℕ) (items : List NamedItem) (item : CachedItem) → (found : NamedItem) × (named_item_of key items ≡ Some found)
    → IsCacheContent capacity items → put_in_front capacity (key, item) (without key items) ≡ (key, item) ∷ without key items
put_found capacity key items item found kept =
    let less : length (without key items) ≤ capacity - 1 =
    (let fewer = length-without_found key items found.0 found.1 in let most = kept.within in omega arith) in
    ap (λ (l : List NamedItem). (key, item) ∷ l) (take_all (capacity - 1) (without key items) less)

pub kept-in_front : (capacity : ℕ) (key : List ℕ) (items : List NamedItem) (item : CachedItem) → named_item_of key items ≡ Some (key, item)
    → IsCacheContent capacity items → IsCacheContent capacity ((key, item) ∷ without key items)
kept-in_front capacity key items item found kept =
    subst (IsCacheContent capacity) (put_found capacity key items item ((key, item), found) kept) (kept-put_in_front capacity (key, item) items kept)
