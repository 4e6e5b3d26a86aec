-- What a cache holds stays such as a text can tell of.
use Rattle.std.proofs.Common.{◌≡◌, ℕ, ◌-◌, zero, suc, Bool, true, false, cond, List, [], ◌∷◌, ◌++◌, take, Option, Some, None, refl, sym, ap, subst}
use Rattle.std.specs.Prelude.{ℤ}
use Rattle.std.specs.List.{find, filter}
use Rattle.std.specs.Option.{option_to_list}
use Rattle.mr_text.specs.Valid.{IsValidRequest, IsFlags}
use Rattle.mr_text.specs.Block.{IsBlock}
use Rattle.mr_join.specs.declared.leg_reply.LegReply.{LegReply}
use Rattle.mr_node.specs.Expiry.{expiry_of, is_alive}
use Rattle.mr_node.specs.Items.{NamedItem, is_named, named_item_of, without}
use Rattle.mr_node.specs.Recency.{CacheView, RecencyStep, unless_expired, live_item, put_in_front, items_after}
use Rattle.mr_node.specs.declared.command.NodeCommand.{NodeCommand}
use Rattle.mr_node.specs.declared.command.NodeCommand.TheVariants.{Get, Set, Delete}
use Rattle.mr_proxy.specs.NodeRequests.{request_for}
use Rattle.mr_streams.specs.Kept.{IsTellable, AreTellable}

kept_if : (b : Bool) (x : NamedItem) (xs : List NamedItem) → IsTellable x → AreTellable xs → AreTellable (cond b (x ∷ xs) xs)
kept_if true x xs one all = (one, all)
kept_if false x xs one all = all

kept_filter : (test : NamedItem → Bool) (xs : List NamedItem) → AreTellable xs → AreTellable (filter test xs)
kept_filter test [] all = all
kept_filter test (x ∷ xs) all = kept_if (test x) x (filter test xs) all.0 (kept_filter test xs all.1)

kept_take : (n : ℕ) (xs : List NamedItem) → AreTellable xs → AreTellable (take n xs)
kept_take zero xs all = tt
kept_take (suc n) [] all = all
kept_take (suc n) (x ∷ xs) all = (all.0, kept_take n xs all.1)

kept_both : (xs ys : List NamedItem) → AreTellable xs → AreTellable ys → AreTellable (xs ++ ys)
kept_both [] ys h k = k
kept_both (x ∷ xs) ys h k = (h.0, kept_both xs ys h.1 k)

found_if : (b : Bool) (x named : NamedItem) (rest : Option NamedItem) → IsTellable x → (rest ≡ Some named → IsTellable named)
    → cond b (Some x) rest ≡ Some named → IsTellable named
found_if true x named rest one others e = let same : x ≡ named = cc in subst IsTellable same one
found_if false x named rest one others e = others e

found_kept : (test : NamedItem → Bool) (xs : List NamedItem) (named : NamedItem) → AreTellable xs → find test xs ≡ Some named → IsTellable named
found_kept test [] named all e = cc
found_kept test (x ∷ xs) named all e = found_if (test x) x named (find test xs) all.0 (λ h. found_kept test xs named all.1 h) e

alive_if : (b : Bool) (x named : NamedItem) → cond b (Some x) None ≡ Some named → x ≡ named
alive_if true x named e = cc
alive_if false x named e = cc

alive_found : (now : ℕ) (o : Option NamedItem) (named : NamedItem) → unless_expired now o ≡ Some named → o ≡ Some named
alive_found now None named e = cc
alive_found now (Some x) named e = ap (λ y. Some y) (alive_if (is_alive now x.1.expires_at) x named e)

-- what is found is such
pub live_kept : (now : ℕ) (key : List ℕ) (items : List NamedItem) (named : NamedItem) → AreTellable items → live_item now key items ≡ Some named → IsTellable named
live_kept now key items named all e = found_kept (is_named key) items named all (alive_found now (named_item_of key items) named e)

front_kept : (now : ℕ) (key : List ℕ) (items : List NamedItem) (o : Option NamedItem) → AreTellable items → live_item now key items ≡ o → AreTellable (option_to_list o)
front_kept now key items None all e = tt
front_kept now key items (Some named) all e = (live_kept now key items named all e, tt)

without_kept : (key : List ℕ) (items : List NamedItem) → AreTellable items → AreTellable (without key items)
without_kept key items all = kept_filter _ items all

set_kept : (b : Bool) (capacity : ℕ) (named : NamedItem) (others : List NamedItem) → IsTellable named → AreTellable others
    → AreTellable (cond b (put_in_front capacity named others) others)
set_kept true capacity named others one all = (one, kept_take (capacity - 1) others all)
set_kept false capacity named others one all = all

-- so it is after a set of what can be told of
pub put_kept : (capacity now : ℕ) (key : List ℕ) (flags : ℕ) (exptime : ℤ) (block : List ℕ) (items : List NamedItem) → IsFlags flags → IsBlock block → AreTellable items
    → AreTellable (items_after capacity now (Set key flags exptime block) items)
put_kept capacity now key flags exptime block items fit is all =
    set_kept (is_alive now (expiry_of now exptime)) capacity (key, record { flags = flags; block = block; expires_at = expiry_of now exptime }) (without key items)
    (fit, is) (without_kept key items all)

-- a command keeps it so
items_kept : (capacity now : ℕ) (command : NodeCommand) (items : List NamedItem) → IsValidRequest (request_for command) → AreTellable items
    → AreTellable (items_after capacity now command items)
items_kept capacity now (Get key) items valid all =
    kept_both (option_to_list (live_item now key items)) (without key items) (front_kept now key items (live_item now key items) all refl) (without_kept key items all)
items_kept capacity now (Set key flags exptime block) items valid all =
    set_kept (is_alive now (expiry_of now exptime)) capacity (key, record { flags = flags; block = block; expires_at = expiry_of now exptime }) (without key items)
    (valid.flags_fit, valid.is_block) (without_kept key items all)
items_kept capacity now (Delete key) items valid all = without_kept key items all

pub step_kept : (old new : CacheView) (now : ℕ) (command : NodeCommand) (reply : LegReply) → IsValidRequest (request_for command) → AreTellable old.items
    → RecencyStep old now command reply new → AreTellable new.items
step_kept old new now command reply valid all step =
    subst (λ c. AreTellable c.items) (sym step.leaves) (items_kept old.capacity now command old.items valid all)
