-- A JSON text has a value of which no object has a key twice.
use Rattle.std.proofs.Common.{◌≡◌, ℕ, List, Option, Some, None, option_map, option_and_then, Ordering, Less, Equal, Greater, nat_cmp, refl, ap, ◌∙◌, subst}
use Rattle.std.specs.Prelude.{⊤}
use Rattle.std.specs.Ordering.{match_ordering, ordering_reverse}
use Rattle.std.specs.Cmp.Lexicographic.{slice_cmp}
use Rattle.std.proofs.lemmas.Cmp.{nat_list_cmp_total, tied_itself}
use Rattle.json.specs.Json as json
use Rattle.json.specs.Lex.{tokens}
use Rattle.serde_json.specs.Data.{Data, null, boolean, number, string, array, object, Items, no_items, item, Members, no_members, member, put}
use Rattle.serde_json.specs.Find.{get, get_member}
use Rattle.serde_json.specs.Read.{number_of, of_json, of_items, of_members, max_depth, read}

-- the key is below each of the members'
abbrev pub IsBelow : List ℕ → Members → Type 0
IsBelow key no_members = ⊤
IsBelow key (member other value members) = (slice_cmp nat_cmp key other ≡ Less) × IsBelow key members

abbrev mutual
  -- the members of each object stand in the order of their keys, each once
  pub IsInOrder : Data → Type 0
  IsInOrder null = ⊤
  IsInOrder (boolean b) = ⊤
  IsInOrder (number n) = ⊤
  IsInOrder (string s) = ⊤
  IsInOrder (array items) = ItemsAreInOrder items
  IsInOrder (object members) = MembersAreInOrder members

  pub ItemsAreInOrder : Items → Type 0
  ItemsAreInOrder no_items = ⊤
  ItemsAreInOrder (item value items) = IsInOrder value × ItemsAreInOrder items

  pub MembersAreInOrder : Members → Type 0
  MembersAreInOrder no_members = ⊤
  MembersAreInOrder (member key value members) = IsBelow key members × IsInOrder value × MembersAreInOrder members

-- where there is something, this holds of it
abbrev Has : {A : Type 0} → (A → Type 0) → Option A → Type 0
Has P None = ⊤
Has P (Some a) = P a

has_map : {A B : Type 0} (P : A → Type 0) (Q : B → Type 0) (f : A → B) → ((a : A) → P a → Q (f a)) → (o : Option A) → Has P o → Has Q (option_map f o)
has_map P Q f step None h = tt
has_map P Q f step (Some a) h = step a h

has_then : {A B : Type 0} (P : A → Type 0) (Q : B → Type 0) (f : A → Option B) → ((a : A) → P a → Has Q (f a)) → (o : Option A) → Has P o
    → Has Q (option_and_then f o)
has_then P Q f step None h = tt
has_then P Q f step (Some a) h = step a h

any : {A : Type 0} (o : Option A) → Has (λ _. ⊤) o
any None = tt
any (Some a) = tt

-- a key below another is below what that is below
below_all : (key other : List ℕ) (members : Members) → slice_cmp nat_cmp key other ≡ Less → IsBelow other members → IsBelow key members
below_all key other no_members less h = tt
below_all key other (member name value members) less h =
    (nat_list_cmp_total.trans key other name less h.0, below_all key other members less h.1)

turned : (key other : List ℕ) → slice_cmp nat_cmp key other ≡ Greater → slice_cmp nat_cmp other key ≡ Less
turned key other greater = nat_list_cmp_total.antisymm other key ∙ ap ordering_reverse greater

-- what is below the members and below a key is below them with that key
below_chosen : (low : List ℕ) (o : Ordering) (a b c : Members) → IsBelow low a → IsBelow low b → IsBelow low c → IsBelow low (match_ordering o a b c)
below_chosen low Less a b c x y z = x
below_chosen low Equal a b c x y z = y
below_chosen low Greater a b c x y z = z

below_put : (low key : List ℕ) (value : Data) (members : Members) → slice_cmp nat_cmp low key ≡ Less → IsBelow low members → IsBelow low (put key value members)
below_put low key value no_members less h = (less, tt)
below_put low key value (member other held members) less h =
    below_chosen low (slice_cmp nat_cmp key other) (member key value (member other held members)) (member other value members) (member other held (put key value members))
    (less, h) h (h.0, below_put low key value members less h.1)

-- which of the three it is goes by how the keys compare
put_chosen : (o : Ordering) (key other : List ℕ) (value held : Data) (behind rest : Members) → slice_cmp nat_cmp key other ≡ o
    → IsInOrder value → MembersAreInOrder (member other held behind) → (slice_cmp nat_cmp key other ≡ Greater → IsBelow other rest) → MembersAreInOrder rest
    → MembersAreInOrder (match_ordering o (member key value (member other held behind)) (member other value behind) (member other held rest))
put_chosen Less key other value held behind rest is v m below r = ((is, below_all key other behind is m.0), v, m)
put_chosen Equal key other value held behind rest is v m below r = (m.0, v, m.2)
put_chosen Greater key other value held behind rest is v m below r = (below is, m.1, r)

put_in_order : (key : List ℕ) (value : Data) (members : Members) → IsInOrder value → MembersAreInOrder members → MembersAreInOrder (put key value members)
put_in_order key value no_members v m = (tt, v, tt)
put_in_order key value (member other held members) v m =
    put_chosen (slice_cmp nat_cmp key other) key other value held members (put key value members) refl v m
    (λ greater. below_put other key value members (turned key other greater) m.0) (put_in_order key value members v m.2)

mutual
  value_in_order : (j : json.Json) → Has IsInOrder (of_json j)
  value_in_order json.null = tt
  value_in_order (json.boolean b) = tt
  value_in_order (json.number s) = has_map (λ _. ⊤) IsInOrder number (λ n h. tt) (number_of s) (any (number_of s))
  value_in_order (json.string s) = tt
  value_in_order (json.array js) = has_map ItemsAreInOrder IsInOrder array (λ items h. h) (of_items js) (items_in_order js)
  value_in_order (json.object ms) = has_map MembersAreInOrder IsInOrder object (λ members h. h) (of_members ms no_members) (members_in_order ms no_members tt)

  items_in_order : (js : json.Items) → Has ItemsAreInOrder (of_items js)
  items_in_order json.no_items = tt
  items_in_order (json.item j js) =
      has_then IsInOrder ItemsAreInOrder (λ d. option_map (item d) (of_items js))
      (λ d v. has_map ItemsAreInOrder ItemsAreInOrder (item d) (λ items h. (v, h)) (of_items js) (items_in_order js)) (of_json j) (value_in_order j)

  members_in_order : (ms : json.Members) (found : Members) → MembersAreInOrder found → Has MembersAreInOrder (of_members ms found)
  members_in_order json.no_members found h = h
  members_in_order (json.member name j ms) found h =
      has_then IsInOrder MembersAreInOrder (λ d. of_members ms (put name d found))
      (λ d v. members_in_order ms (put name d found) (put_in_order name d found v h)) (of_json j) (value_in_order j)

of_tree : (tree : Option json.Json) (value : Data) → option_and_then of_json tree ≡ Some value → IsInOrder value
of_tree None value is = cc
of_tree (Some j) value is = subst (Has IsInOrder) is (value_in_order j)

-- the value of a text
pub read_in_order : (text : List ℕ) (value : Data) → read text ≡ Some value → IsInOrder value
read_in_order text value is = of_tree (option_and_then (λ p. json.if_last p.0 p.1) (json.value max_depth (tokens text))) value is

-- a key that is the same as one below the members isn't among them
not_among : (key low : List ℕ) (members : Members) → slice_cmp nat_cmp key low ≡ Equal → IsBelow low members → get_member key members ≡ None
not_among key low no_members same below = refl
not_among key low (member other held members) same below =
    rw (nat_list_cmp_total.congr key low other same ∙ below.0) (not_among key low members same below.1)

-- the first member is found by its key
pub found_first : (key : List ℕ) (value : Data) (others : Members) → get_member key (member key value others) ≡ Some value
found_first key value others = rw (tied_itself nat_list_cmp_total key) refl

found_behind : (o : Ordering) (key low : List ℕ) (first found : Data) (others : Members) → slice_cmp nat_cmp key low ≡ o → IsBelow low others
    → get_member key others ≡ Some found → match_ordering o (get_member key others) (Some first) (get_member key others) ≡ Some found
found_behind Less key low first found others is below at = at
found_behind Equal key low first found others is below at = let none = not_among key low others is below in cc
found_behind Greater key low first found others is below at = at

-- what is found behind the first member is found
pub found_later : (key low : List ℕ) (first found : Data) (members : Members) → IsBelow low members → get_member key members ≡ Some found
    → get_member key (member low first members) ≡ Some found
found_later key low first found members below at = found_behind (slice_cmp nat_cmp key low) key low first found members refl below at

found_by : (o : Ordering) (first found : Data) (rest : Option Data) → match_ordering o rest (Some first) rest ≡ Some found → IsInOrder first
    → (rest ≡ Some found → IsInOrder found) → IsInOrder found
found_by Less first found rest at here later = later at
found_by Equal first found rest at here later = let same : first ≡ found = cc in subst IsInOrder same here
found_by Greater first found rest at here later = later at

member_in_order : (key : List ℕ) (found : Data) (members : Members) → MembersAreInOrder members → get_member key members ≡ Some found → IsInOrder found
member_in_order key found no_members order at = cc
member_in_order key found (member other held members) order at =
    found_by (slice_cmp nat_cmp key other) held found (get_member key members) at order.1 (member_in_order key found members order.2)

-- what stands under a key of a value in order is in order
pub found_in_order : (key : List ℕ) (value found : Data) → IsInOrder value → get key value ≡ Some found → IsInOrder found
found_in_order key null found order at = cc
found_in_order key (boolean b) found order at = cc
found_in_order key (number n) found order at = cc
found_in_order key (string s) found order at = cc
found_in_order key (array items) found order at = cc
found_in_order key (object members) found order at = member_in_order key found members order at
