-- What the joined reply says of the replies that went into it.
use Rattle.std.proofs.Common.{◌≡◌, ℕ, zero, suc, ◌+◌, ◌<◌, ◌≤◌, Bool, true, false, List, [], ◌∷◌, ◌++◌, length, take, get_or, fold, slice_get, All, Option, Some, None, nat_lt, if◌then◌else◌, refl, sym, ap, subst, ◌∙◌, arith, ltb-true, ltb-false, append_assoc}
use Rattle.std.proofs.lemmas.List.Elements.{All-append, All-take}
use Rattle.mr_text.specs.declared.item.Item.{Item}
use Rattle.mr_text.specs.declared.cause.Cause.{Cause}
use Rattle.mr_text.specs.declared.request.Request.{Request}
use Rattle.mr_text.specs.declared.request.Request.TheVariants.{Get, Set, Delete, Quit}
use Rattle.mr_text.specs.declared.reply.Reply.{Reply}
use Rattle.mr_text.specs.declared.reply.Reply.TheVariants as reply
use Rattle.mr_join.specs.declared.leg_reply.LegReply.{LegReply}
use Rattle.mr_join.specs.declared.leg_reply.LegReply.TheVariants.{Hit, Miss, Stored, Deleted, NotFound, Failed}
use Rattle.mr_join.specs.Join.{badness_of, worse_of, worst_of, first_cause, with_hit, hits_of, items_unless, reply_by, reply_by_worst, joined_reply, IsWorst, IsHitOf, AreHits, Acknowledges, HasSucceeded}

-- what holds of the first element and of the others holds of all
pub all_cons : {X : Type 0} (P : X → Type 0) (x : X) (xs : List X) → P x → All P xs → All P (x ∷ xs)
all_cons P x xs here there zero d below = here
all_cons P x xs here there (suc k) d below = there k d (omega arith)

all_none : {X : Type 0} (P : X → Type 0) → All P []
all_none P k d below = absurd (omega arith)

all_weaker : {X : Type 0} (P Q : X → Type 0) (xs : List X) → ((x : X) → P x → Q x) → All P xs → All Q xs
all_weaker P Q xs weaker all k d below = weaker (get_or xs k d) (all k d below)

pub get_left : {X : Type 0} (xs ys : List X) (i : ℕ) (x : X) → slice_get xs i ≡ Some x → slice_get (xs ++ ys) i ≡ Some x
get_left [] ys i x e = cc
get_left (z ∷ xs) ys zero x e = e
get_left (z ∷ xs) ys (suc i) x e = get_left xs ys i x e

get_next : {X : Type 0} (xs : List X) (y : X) → slice_get (xs ++ y ∷ []) (length xs) ≡ Some y
get_next [] y = refl
get_next (x ∷ xs) y = get_next xs y

take_left : {X : Type 0} (xs ys : List X) (i : ℕ) (x : X) → slice_get xs i ≡ Some x → take i (xs ++ ys) ≡ take i xs
take_left [] ys i x e = cc
take_left (z ∷ xs) ys zero x e = refl
take_left (z ∷ xs) ys (suc i) x e = ap (λ l. z ∷ l) (take_left xs ys i x e)

take_next : {X : Type 0} (xs ys : List X) → take (length xs) (xs ++ ys) ≡ xs
take_next [] [] = refl
take_next [] (y ∷ ys) = refl
take_next (x ∷ xs) ys = ap (λ l. x ∷ l) (take_next xs ys)

-- one more reply
worst_with_next : (before : List LegReply) (worst next : LegReply) (t : Bool) → nat_lt (badness_of worst) (badness_of next) ≡ t
    → IsWorst before worst → IsWorst (before ++ next ∷ []) (if t then next else worst)
worst_with_next before worst next true e w =
    let above = ltb-true _ _ e in
    let lower : (r : LegReply) → badness_of r ≤ badness_of worst → badness_of r < badness_of next = λ r h. omega arith in
    let less : All (λ r. badness_of r < badness_of next) before = all_weaker _ _ before lower w.greatest in
    let weaker : (r : LegReply) → badness_of r < badness_of next → badness_of r ≤ badness_of next = λ r h. omega arith in
    let most : All (λ r. badness_of r ≤ badness_of next) before = all_weaker _ _ before weaker less in
    record {
      place = length before;
      there = get_next before next;
      greatest = All-append (λ (r : LegReply). badness_of r ≤ badness_of next) before (next ∷ []) most (all_cons (λ r. badness_of r ≤ badness_of next) next [] (omega arith) (all_none (λ (r : LegReply). badness_of r ≤ badness_of next)));
      first = subst (All (λ r. badness_of r < badness_of next)) (sym (take_next before (next ∷ []))) less;
    }
worst_with_next before worst next false e w =
    let below = ltb-false _ _ e in
    record {
      place = w.place;
      there = get_left before (next ∷ []) w.place worst w.there;
      greatest = All-append (λ (r : LegReply). badness_of r ≤ badness_of worst) before (next ∷ []) w.greatest (all_cons (λ r. badness_of r ≤ badness_of worst) next [] (omega arith) (all_none (λ (r : LegReply). badness_of r ≤ badness_of worst)));
      first = subst (All (λ r. badness_of r < badness_of worst)) (sym (take_left before (next ∷ []) w.place worst w.there)) w.first;
    }

worst_with_rest : (before : List LegReply) (worst : LegReply) (rest : List LegReply) → IsWorst before worst
    → IsWorst (before ++ rest) (fold worse_of worst rest)
worst_with_rest before worst [] w = subst (λ l. IsWorst l worst) (sym (append_nil before)) w
  where
    append_nil : {X : Type 0} (xs : List X) → xs ++ [] ≡ xs
    append_nil [] = refl
    append_nil (x ∷ xs) = ap (λ l. x ∷ l) (append_nil xs)
worst_with_rest before worst (next ∷ rest) w =
    subst (λ l. IsWorst l (fold worse_of (worse_of worst next) rest)) (append_assoc before (next ∷ []) rest)
    (worst_with_rest (before ++ next ∷ []) (worse_of worst next) rest
    (worst_with_next before worst next (nat_lt (badness_of worst) (badness_of next)) refl w))

pub worst_is_first_of_greatest_lem : (replies : List LegReply) (worst : LegReply) → worst_of replies ≡ Some worst → IsWorst replies worst
worst_is_first_of_greatest_lem [] worst e = cc
worst_is_first_of_greatest_lem (first ∷ rest) worst e =
    let same : fold worse_of first rest ≡ worst = cc in
    subst (IsWorst (first ∷ rest)) same (worst_with_rest (first ∷ []) first rest
    (record {
      place = 0;
      there = refl;
      greatest = all_cons (λ r. badness_of r ≤ badness_of first) first [] (omega arith) (all_none (λ (r : LegReply). badness_of r ≤ badness_of first));
      first = all_none (λ (r : LegReply). badness_of r < badness_of first);
    }))

-- a hit of the others is one of all
hit_later : (key : List ℕ) (keys : List (List ℕ)) (reply : LegReply) (replies : List LegReply) (item : Item)
    → IsHitOf keys replies item → IsHitOf (key ∷ keys) (reply ∷ replies) item
hit_later key keys reply replies item h = record { place = suc h.place; key = h.key; hit = h.hit }

hits_with : (key : List ℕ) (keys : List (List ℕ)) (reply : LegReply) (replies : List LegReply) (items : List Item)
    → All (IsHitOf keys replies) items → All (IsHitOf (key ∷ keys) (reply ∷ replies)) (with_hit key reply items)
hits_with key keys (Hit flags block) replies items all =
    all_cons (IsHitOf (key ∷ keys) (Hit flags block ∷ replies)) (record { key = key; flags = flags; block = block }) items
    (record { place = 0; key = refl; hit = refl })
    (all_weaker _ _ items (hit_later key keys (Hit flags block) replies) all)
hits_with key keys Miss replies items all = all_weaker _ _ items (hit_later key keys Miss replies) all
hits_with key keys Stored replies items all = all_weaker _ _ items (hit_later key keys Stored replies) all
hits_with key keys Deleted replies items all = all_weaker _ _ items (hit_later key keys Deleted replies) all
hits_with key keys NotFound replies items all = all_weaker _ _ items (hit_later key keys NotFound replies) all
hits_with key keys (Failed cause) replies items all = all_weaker _ _ items (hit_later key keys (Failed cause) replies) all

hits_found : (keys : List (List ℕ)) (replies : List LegReply) → All (IsHitOf keys replies) (hits_of keys replies)
hits_found [] replies = all_none (IsHitOf [] replies)
hits_found (key ∷ keys) [] = all_none (IsHitOf (key ∷ keys) [])
hits_found (key ∷ keys) (reply ∷ replies) = hits_with key keys reply replies (hits_of keys replies) (hits_found keys replies)

never_items : (r : LegReply) (items : List Item) → reply_by r ≡ reply.Items items → ⊥
never_items (Hit flags block) items e = cc
never_items Miss items e = cc
never_items Stored items e = cc
never_items Deleted items e = cc
never_items NotFound items e = cc
never_items (Failed cause) items e = cc

worst_never_items : (worst : Option LegReply) (items : List Item) → reply_by_worst worst ≡ reply.Items items → ⊥
worst_never_items None items e = cc
worst_never_items (Some r) items e = never_items r items e

items_of_get : (keys : List (List ℕ)) (cause : Option Cause) (found items : List Item) → items_unless cause found ≡ reply.Items items → found ≡ items
items_of_get keys None found items e = cc
items_of_get keys (Some cause) found items e = cc

pub items_are_hits_lem : (request : Request) (replies : List LegReply) (items : List Item) → joined_reply request replies ≡ reply.Items items
    → AreHits request replies items
items_are_hits_lem (Get keys) replies items e =
    let same = items_of_get keys (first_cause replies) (hits_of keys replies) items e in
    record { keys = keys; asked = refl; found = subst (All (IsHitOf keys replies)) same (hits_found keys replies) }
items_are_hits_lem (Set key flags exptime block noreply) replies items e = absurd (worst_never_items (worst_of replies) items e)
items_are_hits_lem (Delete key noreply) replies items e = absurd (worst_never_items (worst_of replies) items e)
items_are_hits_lem Quit replies items e = absurd (worst_never_items (worst_of replies) items e)

mild : (r : LegReply) → Acknowledges (reply_by r) → HasSucceeded r
mild (Hit flags block) a = absurd a
mild Miss a = absurd a
mild Stored a = absurd a
mild Deleted a = omega arith
mild NotFound a = omega arith
mild (Failed cause) a = absurd a

no_failure : (replies : List LegReply) (worst : Option LegReply) → worst_of replies ≡ worst → Acknowledges (reply_by_worst worst) → All HasSucceeded replies
no_failure replies None e a = absurd a
no_failure replies (Some r) e a =
    let w = worst_is_first_of_greatest_lem replies r e in
    let below = mild r a in
    let weaker : (q : LegReply) → badness_of q ≤ badness_of r → HasSucceeded q = λ q h. omega arith in
    all_weaker _ _ replies weaker w.greatest

gets_acknowledge_nothing : (cause : Option Cause) (items : List Item) → Acknowledges (items_unless cause items) → ⊥
gets_acknowledge_nothing None items a = a
gets_acknowledge_nothing (Some cause) items a = a

pub acknowledged_by_all_lem : (request : Request) (replies : List LegReply) → Acknowledges (joined_reply request replies) → All HasSucceeded replies
acknowledged_by_all_lem (Get keys) replies a = absurd (gets_acknowledge_nothing (first_cause replies) (hits_of keys replies) a)
acknowledged_by_all_lem (Set key flags exptime block noreply) replies a = no_failure replies (worst_of replies) refl a
acknowledged_by_all_lem (Delete key noreply) replies a = no_failure replies (worst_of replies) refl a
acknowledged_by_all_lem Quit replies a = no_failure replies (worst_of replies) refl a
