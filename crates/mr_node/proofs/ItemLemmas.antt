-- What taking an item out and cutting the list leave of the items.
use Rattle.std.proofs.Common.{◌≡◌, ◌≢◌, ◌∙◌, ℕ, ◌+◌, ◌≤◌, zero, suc, List, [], ◌∷◌, length, take, true, false, cond, not, Option, Some, None, refl, sym, ap, arith}
use Rattle.std.proofs.lemmas.Bool.{false_from_ne_true}
use Rattle.std.proofs.lemmas.Slice.Eq.{bytes_eq-Decides}
use Rattle.std.specs.Option.{option_map}
use Rattle.mr_node.specs.Items.{NamedItem, is_named, named_item_of, without, HasDistinctKeys}

pub named_key : (key : List ℕ) (item : NamedItem) → is_named key item ≡ true → item.0 ≡ key
named_key key item h = (bytes_eq-Decides item.0 key).0 h

pub not_named : (key : List ℕ) (item : NamedItem) → item.0 ≢ key → is_named key item ≡ false
not_named key item apart = false_from_ne_true (is_named key item) (λ h. apart (named_key key item h))

pub named_apart : (key : List ℕ) (item : NamedItem) → is_named key item ≡ false → item.0 ≢ key
named_apart key item h same =
    let named : is_named key item ≡ true = (bytes_eq-Decides item.0 key).1 same in
    let both : true ≡ false = sym named ∙ h in cc

-- an item under one key is not under another
pub named_once : (other key : List ℕ) (item : NamedItem) → other ≢ key → is_named key item ≡ true → is_named other item ≡ false
named_once other key item apart h = not_named other item (λ same. apart (sym same ∙ named_key key item h))

-- a key without an item has no entry
pub none_named : (found : Option NamedItem) → option_map (λ named. named.1) found ≡ None → found ≡ None
none_named None h = refl
none_named (Some named) h = cc

pub without_absent : (key : List ℕ) (items : List NamedItem) → named_item_of key items ≡ None → without key items ≡ items
without_absent key [] h = refl
without_absent key (x ∷ xs) h =
    elim (is_named key x) as (λ b. cond b (Some x) (named_item_of key xs) ≡ None → cond (not b) (x ∷ without key xs) (without key xs) ≡ x ∷ xs) [
      | true ↦ λ e. cc
      | false ↦ λ e. ap (λ l. x ∷ l) (without_absent key xs e)
    ] h

pub item_of-without : (key : List ℕ) (items : List NamedItem) → named_item_of key (without key items) ≡ None
item_of-without key [] = refl
item_of-without key (x ∷ xs) =
    elim (is_named key x) as (λ b. is_named key x ≡ b → named_item_of key (cond (not b) (x ∷ without key xs) (without key xs)) ≡ None) [
      | true ↦ λ e. item_of-without key xs
      | false ↦ λ e. rw e (item_of-without key xs)
    ] refl

pub item_of-without_other : (other key : List ℕ) (items : List NamedItem) → other ≢ key → named_item_of other (without key items) ≡ named_item_of other items
item_of-without_other other key [] apart = refl
item_of-without_other other key (x ∷ xs) apart =
    elim (is_named key x) as (λ b. is_named key x ≡ b → named_item_of other (cond (not b) (x ∷ without key xs) (without key xs)) ≡ named_item_of other (x ∷ xs)) [
      | true ↦ λ e. rw (named_once other key x apart e) (item_of-without_other other key xs apart)
      | false ↦ λ e. ap (λ o. cond (is_named other x) (Some x) o) (item_of-without_other other key xs apart)
    ] refl

pub distinct-without : (key : List ℕ) (items : List NamedItem) → HasDistinctKeys items → HasDistinctKeys (without key items)
distinct-without key [] d = tt
distinct-without key (x ∷ xs) d =
    elim (is_named key x) as (λ b. is_named key x ≡ b → HasDistinctKeys (cond (not b) (x ∷ without key xs) (without key xs))) [
      | true ↦ λ e. distinct-without key xs d.1
      | false ↦ λ e. (item_of-without_other x.0 key xs (named_apart key x e) ∙ d.0, distinct-without key xs d.1)
    ] refl

pub item_of-take_none : (n : ℕ) (key : List ℕ) (items : List NamedItem) → named_item_of key items ≡ None → named_item_of key (take n items) ≡ None
item_of-take_none zero key items h = refl
item_of-take_none (suc n) key [] h = refl
item_of-take_none (suc n) key (x ∷ xs) h =
    elim (is_named key x) as (λ b. cond b (Some x) (named_item_of key xs) ≡ None → cond b (Some x) (named_item_of key (take n xs)) ≡ None) [
      | true ↦ λ e. e
      | false ↦ λ e. item_of-take_none n key xs e
    ] h

pub item_of-take : (n : ℕ) (key : List ℕ) (items : List NamedItem) (item : NamedItem) → named_item_of key (take n items) ≡ Some item → named_item_of key items ≡ Some item
item_of-take zero key items item h = cc
item_of-take (suc n) key [] item h = h
item_of-take (suc n) key (x ∷ xs) item h =
    elim (is_named key x) as (λ b. cond b (Some x) (named_item_of key (take n xs)) ≡ Some item → cond b (Some x) (named_item_of key xs) ≡ Some item) [
      | true ↦ λ e. e
      | false ↦ λ e. item_of-take n key xs item e
    ] h

pub distinct-take : (n : ℕ) (items : List NamedItem) → HasDistinctKeys items → HasDistinctKeys (take n items)
distinct-take zero items d = tt
distinct-take (suc n) [] d = tt
distinct-take (suc n) (x ∷ xs) d = (item_of-take_none n x.0 xs d.0, distinct-take n xs d.1)

pub length-without : (key : List ℕ) (items : List NamedItem) → length (without key items) ≤ length items
length-without key [] = omega arith
length-without key (x ∷ xs) =
    elim (is_named key x) as (λ b. length (cond (not b) (x ∷ without key xs) (without key xs)) ≤ suc (length xs)) [
      | true ↦ omega (arith, length-without key xs)
      | false ↦ omega (arith, length-without key xs)
    ]

pub found_key : (key : List ℕ) (items : List NamedItem) (item : NamedItem) → named_item_of key items ≡ Some item → item.0 ≡ key
found_key key [] item h = cc
found_key key (x ∷ xs) item h =
    elim (is_named key x) as (λ b. is_named key x ≡ b → cond b (Some x) (named_item_of key xs) ≡ Some item → item.0 ≡ key) [
      | true ↦ λ e f. let same : x ≡ item = cc in ap (λ i. i.0) (sym same) ∙ named_key key x e
      | false ↦ λ e f. found_key key xs item f
    ] refl h

-- what is found is taken out
pub length-without_found : (key : List ℕ) (items : List NamedItem) (item : NamedItem) → named_item_of key items ≡ Some item
    → length (without key items) + 1 ≤ length items
length-without_found key [] item h = cc
length-without_found key (x ∷ xs) item h =
    elim (is_named key x) as (λ b. cond b (Some x) (named_item_of key xs) ≡ Some item → length (cond (not b) (x ∷ without key xs) (without key xs)) + 1 ≤ suc (length xs)) [
      | true ↦ λ e. omega (arith, length-without key xs)
      | false ↦ λ e. omega (arith, length-without_found key xs item e)
    ] h

-- a list with its item of that key in front has one item of each key
pub distinct_in_front : (item : NamedItem) (n : ℕ) (items : List NamedItem) → HasDistinctKeys items → HasDistinctKeys (item ∷ take n (without item.0 items))
distinct_in_front item n items d =
    (item_of-take_none n item.0 (without item.0 items) (item_of-without item.0 items), distinct-take n (without item.0 items) (distinct-without item.0 items d))
