-- A step on the list of items is one on its map.
use Rattle.std.proofs.Common.{◌≡◌, ◌≢◌, ◌∙◌, ◌⊎◌, ℕ, ◌-◌, List, ◌∷◌, ◌++◌, take, true, false, cond, Option, Some, None, IsSome, is_some, refl, sym, ap, subst, inl, inr}
use Rattle.std.specs.Option.{option_to_list, option_map}
use Rattle.mr_join.specs.declared.leg_reply.LegReply.{LegReply}
use Rattle.mr_join.specs.declared.leg_reply.LegReply.TheVariants.{Deleted, NotFound}
use Rattle.mr_node.specs.declared.command.NodeCommand.{NodeCommand}
use Rattle.mr_node.specs.declared.command.NodeCommand.TheVariants.{Get, Set, Delete}
use Rattle.mr_node.specs.Expiry.{expiry_of, is_alive}
use Rattle.mr_node.specs.Items.{NamedItem, is_named, named_item_of, without}
use Rattle.mr_node.specs.Recency.{CacheView, RecencyStep, unless_expired, items_after, after_set, put_in_front, hit_or_miss, reply_to}
use Rattle.mr_node.specs.CacheStep.{Datum, Holds, OnlyLoses, LosesKey, Puts, CacheStep, contents_of}
use Rattle.mr_node.proofs.ItemLemmas.{named_key, found_key, item_of-without, item_of-without_other, item_of-take}

datum_of : NamedItem → Datum
datum_of item = record { flags = item.1.flags; block = item.1.block }

-- what a map holds is an item of the list
holder : (found : Option NamedItem) (datum : Datum) → option_map (λ item. record { flags = item.1.flags; block = item.1.block }) found ≡ Some datum
    → (item : NamedItem) × (found ≡ Some item) × (record { flags = item.1.flags; block = item.1.block } ≡ datum)
holder None datum h = cc
holder (Some item) datum h = (item, refl, (let same = h in cc))

-- what the map of a list holds under a key is in the list
held : (key : List ℕ) (items : List NamedItem) (datum : Datum) → Holds (contents_of items) key datum
    → (item : NamedItem) × (named_item_of key items ≡ Some item) × (datum_of item ≡ datum)
unfolding datum_of
held key items datum h = holder (named_item_of key items) datum h

-- the map without a key
loses_key : (key : List ℕ) (items : List NamedItem) → LosesKey key (contents_of items) (contents_of (without key items))
loses_key key items other datum h =
    let apart : other ≢ key = (λ same.
    let none : named_item_of other (without key items) ≡ None = rw same (item_of-without key items) in
    let some = held other (without key items) datum h in
    let found : named_item_of other (without key items) ≡ Some some.0 = some.1 in cc) in
    (apart, ap (option_map (λ item. record { flags = item.1.flags; block = item.1.block })) (sym (item_of-without_other other key items apart)) ∙ h)

-- an item of the key in front of some of the others
puts_in_front : (n : ℕ) (item : NamedItem) (items : List NamedItem)
    → Puts item.0 (record { flags = item.1.flags; block = item.1.block }) (contents_of items) (contents_of (item ∷ take n (without item.0 items)))
puts_in_front n item items other datum h =
    elim (is_named other item) as (λ b. is_named other item ≡ b
    → option_map (λ i. record { flags = i.1.flags; block = i.1.block }) (cond b (Some item) (named_item_of other (take n (without item.0 items)))) ≡ Some datum
    → ((other ≡ item.0) × (datum ≡ record { flags = item.1.flags; block = item.1.block })) ⊎ ((other ≢ item.0) × Holds (contents_of items) other datum)) [
      | true ↦ λ e f. inl (sym (named_key other item e), (let same = f in cc))
      | false ↦ λ e f.
          let some = holder (named_item_of other (take n (without item.0 items))) datum f in
          let found = item_of-take n other (without item.0 items) some.0 some.1 in
          let same : contents_of (without item.0 items) other ≡ Some datum = rw found (ap Some some.2) in
          inr (loses_key item.0 items other datum same)
    ] refl h

-- the map with the key's item moved or dropped has nothing new
used_again : (key : List ℕ) (items : List NamedItem) (item : NamedItem) → named_item_of key items ≡ Some item
    → OnlyLoses (contents_of items) (contents_of (item ∷ without key items))
used_again key items item found other datum h =
    elim (is_named other item) as (λ b. is_named other item ≡ b
    → option_map (λ i. record { flags = i.1.flags; block = i.1.block }) (cond b (Some item) (named_item_of other (without key items))) ≡ Some datum
    → Holds (contents_of items) other datum) [
      | true ↦ λ e f.
          let same : other ≡ key = sym (named_key other item e) ∙ found_key key items item found in
          let here : named_item_of other items ≡ Some item = rw same found in
          rw here f
      | false ↦ λ e f. (loses_key key items other datum f).1
    ] refl h

get_step : (now : ℕ) (key : List ℕ) (items : List NamedItem) (found : Option NamedItem) → named_item_of key items ≡ found
    → CacheStep (contents_of items) (Get key) (hit_or_miss (unless_expired now found))
    (contents_of (option_to_list (unless_expired now found) ++ without key items))
get_step now key items None e = loses_key key items
get_step now key items (Some item) e =
    elim (is_alive now item.1.expires_at) as (λ b. CacheStep (contents_of items) (Get key) (hit_or_miss (cond b (Some item) None))
    (contents_of (option_to_list (cond b (Some item) None) ++ without key items))) [
      | true ↦ (ap (option_map (λ i. record { flags = i.1.flags; block = i.1.block })) e, used_again key items item e)
      | false ↦ loses_key key items
    ]

delete_step : (now : ℕ) (key : List ℕ) (items : List NamedItem) (found : Option NamedItem) → named_item_of key items ≡ found
    → CacheStep (contents_of items) (Delete key) (cond (is_some (unless_expired now found)) Deleted NotFound) (contents_of (without key items))
delete_step now key items None e = loses_key key items
delete_step now key items (Some item) e =
    elim (is_alive now item.1.expires_at) as (λ b. CacheStep (contents_of items) (Delete key) (cond (is_some (cond b (Some item) None)) Deleted NotFound)
    (contents_of (without key items))) [
      | true ↦ (let kept : IsSome (contents_of items key) = rw e refl in (kept, loses_key key items))
      | false ↦ loses_key key items
    ]

set_step : (capacity now : ℕ) (item : NamedItem) (items : List NamedItem)
    → Puts item.0 (record { flags = item.1.flags; block = item.1.block }) (contents_of items) (contents_of (after_set capacity now item items))
set_step capacity now item items =
    elim (is_alive now item.1.expires_at) as (λ b. Puts item.0 (record { flags = item.1.flags; block = item.1.block }) (contents_of items)
    (contents_of (cond b (put_in_front capacity item (without item.0 items)) (without item.0 items)))) [
      | true ↦ puts_in_front (capacity - 1) item items
      | false ↦ λ other datum h. inr (loses_key item.0 items other datum h)
    ]

step_of : (capacity now : ℕ) (command : NodeCommand) (items : List NamedItem)
    → CacheStep (contents_of items) command (reply_to now command items) (contents_of (items_after capacity now command items))
step_of capacity now (Get key) items = get_step now key items (named_item_of key items) refl
step_of capacity now (Set key flags exptime block) items =
    set_step capacity now (key, record { flags = flags; block = block; expires_at = expiry_of now exptime }) items
step_of capacity now (Delete key) items = delete_step now key items (named_item_of key items) refl

pub cache_step_of : (old new : CacheView) (now : ℕ) (command : NodeCommand) (reply : LegReply) → RecencyStep old now command reply new
    → CacheStep (contents_of old.items) command reply (contents_of new.items)
cache_step_of old new now command reply step =
    let replies : (r : LegReply) → r ≡ reply_to now command old.items
    → CacheStep (contents_of old.items) command r (contents_of (items_after old.capacity now command old.items)) =
    (λ r e. subst (λ x. CacheStep (contents_of old.items) command x (contents_of (items_after old.capacity now command old.items))) (sym e)
    (step_of old.capacity now command old.items)) in
    subst (λ (view : CacheView). CacheStep (contents_of old.items) command reply (contents_of view.items)) (sym step.leaves) (replies reply step.answers)
