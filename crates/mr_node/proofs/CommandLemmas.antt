-- What each command comes to, by what its key is found to have.
use Rattle.std.proofs.Common.{◌≡◌, ◌∙◌, ℕ, List, ◌∷◌, ◌++◌, true, false, cond, Option, Some, None, IsSome, is_some, refl, sym, ap}
use Rattle.std.specs.Option.{option_to_list}
use Rattle.mr_join.specs.declared.leg_reply.LegReply.{LegReply}
use Rattle.mr_join.specs.declared.leg_reply.LegReply.TheVariants.{Hit, Miss, Deleted, NotFound}
use Rattle.mr_node.specs.declared.cached_item.CachedItem.{CachedItem}
use Rattle.mr_node.specs.declared.command.NodeCommand.TheVariants.{Get, Delete}
use Rattle.mr_node.specs.Expiry.{is_alive}
use Rattle.mr_node.specs.Items.{NamedItem, named_item_of, without}
use Rattle.mr_node.specs.Recency.{CacheView, RecencyStep, live_item, unless_expired, hit_or_miss}
use Rattle.mr_node.proofs.ItemLemmas.{without_absent}

module _ (capacity now : ℕ) (key : List ℕ) (items : List NamedItem) where
  abbrev cache : List NamedItem → CacheView
  cache kept = record { capacity = capacity; items = kept }

  get_with : (found : Option NamedItem) (reply : LegReply) (kept : List NamedItem) → named_item_of key items ≡ found
      → reply ≡ hit_or_miss (unless_expired now found) → kept ≡ option_to_list (unless_expired now found) ++ without key items
      → RecencyStep (cache items) now (Get key) reply (cache kept)
  get_with found reply kept is answers leaves = record {
    answers = answers ∙ ap (λ f. hit_or_miss (unless_expired now f)) (sym is);
    leaves = ap cache (leaves ∙ ap (λ f. option_to_list (unless_expired now f) ++ without key items) (sym is));
  }

  delete_with : (found : Option NamedItem) (reply : LegReply) → named_item_of key items ≡ found
      → reply ≡ cond (is_some (unless_expired now found)) Deleted NotFound
      → RecencyStep (cache items) now (Delete key) reply (cache (without key items))
  delete_with found reply is answers = record {
    answers = answers ∙ ap (λ f. cond (is_some (unless_expired now f)) Deleted NotFound) (sym is);
    leaves = refl;
  }

  pub get_misses : named_item_of key items ≡ None → RecencyStep (cache items) now (Get key) Miss (cache items)
  get_misses none = get_with None Miss items none refl (sym (without_absent key items none))

  pub delete_misses : named_item_of key items ≡ None → RecencyStep (cache items) now (Delete key) NotFound (cache (without key items))
  delete_misses none = delete_with None NotFound none refl

  module _ (item : CachedItem) (found : named_item_of key items ≡ Some (key, item)) where
    pub get_drops : is_alive now item.expires_at ≡ false → RecencyStep (cache items) now (Get key) Miss (cache (without key items))
    get_drops expired =
        let gone : unless_expired now (Some (key, item)) ≡ None = ap (λ b. cond b (Some (key, item)) None) expired in
        get_with (Some (key, item)) Miss (without key items) found (ap hit_or_miss (sym gone)) (ap (λ f. option_to_list f ++ without key items) (sym gone))

    pub delete_drops : is_alive now item.expires_at ≡ false → RecencyStep (cache items) now (Delete key) NotFound (cache (without key items))
    delete_drops expired = delete_with (Some (key, item)) NotFound found (rw expired refl)

    pub deletes : is_alive now item.expires_at ≡ true → RecencyStep (cache items) now (Delete key) Deleted (cache (without key items))
    deletes alive = delete_with (Some (key, item)) Deleted found (rw alive refl)

    pub get_hits : is_alive now item.expires_at ≡ true
        → RecencyStep (cache items) now (Get key) (Hit item.flags item.block) (cache ((key, item) ∷ without key items))
    get_hits alive =
        let here : unless_expired now (Some (key, item)) ≡ Some (key, item) = ap (λ b. cond b (Some (key, item)) None) alive in
        get_with (Some (key, item)) (Hit item.flags item.block) ((key, item) ∷ without key items) found
        (ap hit_or_miss (sym here)) (ap (λ f. option_to_list f ++ without key items) (sym here))

    -- only a hit takes memory
    pub may_lack : is_alive now item.expires_at ≡ true → IsSome (live_item now key items)
    may_lack alive = rw (found, alive) refl
