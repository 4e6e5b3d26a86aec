-- Names that pass the tests of a pool are a pool.
use Rattle.std.proofs.Common.{rules, ◌≡◌, ◌≢◌, ℕ, zero, suc, ◌<◌, ◌&&◌, Bool, true, false, not, List, [], ◌∷◌, ◌++◌, length, map, drop, slice_index_or, All, refl, sym, ◌∙◌, ap, subst, arith, Ok}
use Rattle.std.proofs.Math.Seq.{drop-cons}
use Rattle.std.proofs.lemmas.Slice.Eq.{bytes_eq-Decides}
use Rattle.mr_pools.specs.Limits.{most_pools}
use Rattle.mr_pools.specs.NodeName.{IsNodeName, IsNameByte}
use Rattle.mr_pools.specs.Pool.{IsPool, AreDistinct, AreApart}
use Rattle.mr_pools.specs.Routing.{RoutingView, StandsApart, RefusesPool}
use Rattle.mr_pools.specs.declared.error.PoolError.{PoolError}
use Rattle.mr_pools.specs.declared.error.PoolError.TheVariants.{EmptyPool, TooManyNodes, BadName, RepeatedName, SharedName, OutOfMemory, TooManyPools}
use Rattle.mr_configs.specs.Chain.{pools_after, is_apart_from, are_all_apart}
use Rattle.mr_configs.specs.Fields.{Text, is_one_of}
use Rattle.mr_configs.specs.MigrationDraft.{migration_drafted}
use Rattle.mr_configs.specs.declared.migration.MigrationDraft.{MigrationDraft}
use Rattle.mr_configs.specs.Pools.{is_name_byte, are_name_bytes, is_node_name, are_node_names, have_no_repeat, stand_apart, pool_of_names}

-- both of two tests
left_true : (a b : Bool) → (a && b) ≡ true → a ≡ true
left_true true b e = refl
left_true false b e = e

right_true : (a b : Bool) → (a && b) ≡ true → b ≡ true
right_true true b e = e
right_true false true e = refl
right_true false false e = e

-- the first of two tests that are to fail and to hold
left_false : (a b : Bool) → (not a && b) ≡ true → a ≡ false
left_false true b e = sym e
left_false false b e = refl

byte_made : (byte : ℕ) → is_name_byte byte ≡ true → IsNameByte byte
byte_made byte e = search (rules, e)

bytes_made : (bytes : List ℕ) → are_name_bytes bytes ≡ true → All IsNameByte bytes
bytes_made [] e k d within = absurd (omega arith)
bytes_made (byte ∷ bytes) e zero d within = byte_made byte (left_true (is_name_byte byte) (are_name_bytes bytes) e)
bytes_made (byte ∷ bytes) e (suc k) d within = bytes_made bytes (right_true (is_name_byte byte) (are_name_bytes bytes) e) k d (omega arith)

named : (name : Text) → is_node_name name ≡ true → IsNodeName name
named name e = search (rules, left_true, right_true, bytes_made, e)

pub name_made : (name : Text) → are_node_names (name ∷ []) ≡ true → IsNodeName name
name_made name e = named name (left_true (is_node_name name) true e)

pub names_made : (names : List Text) → pool_of_names names ≡ Ok names → are_node_names names ≡ true
names_made names e = search (rules, e)

-- a text that is none of these is not at any place
not_there : (names : List Text) (name : Text) → is_one_of names name ≡ false → (k : ℕ) (d : Text) → k < length names → slice_index_or names k d ≢ name
not_there [] name e k d within is = omega arith
not_there (first ∷ names) name e zero d within is = search (rules, bytes_eq-Decides first name, e, is)
not_there (first ∷ names) name e (suc k) d within is = not_there names name (search (rules, e)) k d (omega arith) is

distinct_made : (names : List Text) → have_no_repeat names ≡ true → AreDistinct names
distinct_made [] e i j d before within is = omega arith
distinct_made (name ∷ names) e zero zero d before within is = omega arith
distinct_made (name ∷ names) e zero (suc j) d before within is =
    not_there names name (left_false (is_one_of names name) (have_no_repeat names) e) j d (omega arith) (sym is)
distinct_made (name ∷ names) e (suc i) zero d before within is = omega arith
distinct_made (name ∷ names) e (suc i) (suc j) d before within is =
    distinct_made names (right_true (not (is_one_of names name)) (have_no_repeat names) e) i j d (omega arith) (omega arith) is

pub pool_made : (names : List Text) → pool_of_names names ≡ Ok names → IsPool names
pool_made names e = search (rules, distinct_made, e)

pub apart_made : (old new : List Text) → stand_apart old new ≡ true → AreApart old new
apart_made [] new e k d within there = omega arith
apart_made (name ∷ old) new e zero d within (j, short, is) = not_there new name (left_false (is_one_of new name) (stand_apart old new) e) j name short is
apart_made (name ∷ old) new e (suc k) d within there = apart_made old new (right_true (not (is_one_of new name)) (stand_apart old new) e) k d (omega arith) there

-- no name of the pool stands in the one that has others on both sides
pub is_apart_within : (pool : List Text) (before : List (List Text)) (next : List Text) (after : List (List Text)) →
    is_apart_from pool (before ++ next ∷ after) ≡ true → stand_apart pool next ≡ true
is_apart_within pool [] next after e = left_true (stand_apart pool next) (is_apart_from pool after) e
is_apart_within pool (other ∷ before) next after e =
    is_apart_within pool before next after (right_true (stand_apart pool other) (is_apart_from pool (before ++ next ∷ after)) e)

-- no name of the earlier pools stands in the next one
pub next_apart : (before : List (List Text)) (next : List Text) (after : List (List Text)) →
    are_all_apart (before ++ next ∷ after) ≡ true → All (λ earlier. AreApart earlier next) before
next_apart [] next after e k d within = absurd (omega arith)
next_apart (pool ∷ before) next after e zero d within =
    apart_made pool next (is_apart_within pool before next after (left_true (is_apart_from pool (before ++ next ∷ after)) (are_all_apart (before ++ next ∷ after)) e))
next_apart (pool ∷ before) next after e (suc k) d within =
    next_apart before next after (right_true (is_apart_from pool (before ++ next ∷ after)) (are_all_apart (before ++ next ∷ after)) e) k d (omega arith)

-- the same of the pools that a routing has so far, and of the migration that comes next
pub next_stands_apart : (pools : List (List Text)) (items : List MigrationDraft) (index : ℕ) (next : MigrationDraft) (all : List (List Text)) →
    pools ++ pools_after (map migration_drafted (drop index items)) ≡ all → are_all_apart all ≡ true →
    index < length items → next ≡ slice_index_or items index next → All (λ earlier. AreApart earlier (migration_drafted next).new) pools
next_stands_apart pools items index next all is apart within there =
    let split : drop index items ≡ next ∷ drop (suc index) items = drop-cons items index next within ∙ ap (λ (m : MigrationDraft). m ∷ drop (suc index) items) (sym there) in
    next_apart pools (migration_drafted next).new (pools_after (map migration_drafted (drop (suc index) items)))
    (subst (λ (left : List MigrationDraft). are_all_apart (pools ++ pools_after (map migration_drafted left)) ≡ true) split (rw is apart))

-- a pool is refused only where there are too many, or where it shares a name
pub none_refused : (routing : RoutingView) (pool : List Text) (refusal : PoolError) → length routing.pools < most_pools → StandsApart routing pool →
    RefusesPool routing pool refusal → ⊥
none_refused routing pool TooManyPools few apart many = omega arith
none_refused routing pool SharedName few apart shared = shared.1 apart
none_refused routing pool EmptyPool few apart never = never
none_refused routing pool TooManyNodes few apart never = never
none_refused routing pool BadName few apart never = never
none_refused routing pool RepeatedName few apart never = never
none_refused routing pool OutOfMemory few apart never = never
