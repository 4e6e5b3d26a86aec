-- What stands in a value where what one of its keys holds is changed.
use Rattle.std.proofs.Common.{◌≡◌, ◌≤◌, true, false, List, [], ◌∷◌, map, length, Option, Some, None, Result, Ok, Ordering, Less, Equal, Greater, nat_cmp, BTreeMap, Vec, refl, sym, ap, ◌∙◌, arith, true≢false}
use Rattle.std.specs.Prelude.{max, ok_or, option_map, unwrap_or, is_some, MatchOption, String, string_bytes}
use Rattle.std.specs.Ordering.{match_ordering}
use Rattle.std.specs.Str.{bytes_eq}
use Rattle.std.specs.Cmp.Lexicographic.{slice_cmp}
use Rattle.std.proofs.lemmas.Cmp.{nat_list_cmp_total, tied_itself}
use Rattle.std.proofs.lemmas.List.{length-map}
use Rattle.serde_json.specs.Data.{Data, null, boolean, number, string, array, object, Items, no_items, item, Members, no_members, member, put, depth, items_depth, members_depth}
use Rattle.serde_json.specs.Find.{get, get_member}
use Rattle.std.specs.BTreeMap.{is_at}
use Rattle.std.specs.Map.{lookup}
use Rattle.std.specs.declared.alloc.Global.{Global}
use Rattle.serde_json.specs.View.{view, items_of, members_view}
use Rattle.serde_json.specs.declared.value.Value.{Value, Null, Array, Object}
use Rattle.serde_json.proofs.Views.{get_member-put, get_member-put_other, view-lookup, view-Array, view-Object}
use Rattle.mr_configs.specs.Checking.{◌>>=◌}
use Rattle.mr_configs.specs.Fields.{Text, is_one_of, have_only, object_check, field, list_of, values_in}
use Rattle.mr_configs.specs.declared.error.PlanError.{PlanError}
use Rattle.mr_configs.specs.declared.error.PlanError.TheVariants.{MissingKey}
use Rattle.mr_configs.proofs.CheckingLemmas.{taken, there}
use Rattle.mr_scripts.specs.Lists.{all_of}
use Rattle.mr_scripts.specs.Script.{count_in}
use Rattle.mr_scripts.specs.Upgrade.{with_member, changed_at, each_changed}

pub apart : (key other : Text) → bytes_eq key key ≡ true → bytes_eq key other ≡ false → key ≡ other → ⊥
apart key other same differ is = true≢false (sym same ∙ ap (bytes_eq key) is ∙ differ)

-- members

put_chosen : (o : Ordering) (key other : Text) (first second held : Data) (others : Members) → slice_cmp nat_cmp key other ≡ o
    → put key second (put key first others) ≡ put key second others
    → put key second (match_ordering o (member key first (member other held others)) (member other first others) (member other held (put key first others)))
    ≡ match_ordering o (member key second (member other held others)) (member other second others) (member other held (put key second others))
put_chosen Less key other first second held others is later = rw (tied_itself nat_list_cmp_total key) refl
put_chosen Equal key other first second held others is later = rw is refl
put_chosen Greater key other first second held others is later = rw is (ap (member other held) later)

-- the last that is put under a key stays
pub put_again : (key : Text) (first second : Data) (members : Members) → put key second (put key first members) ≡ put key second members
put_again key first second no_members = rw (tied_itself nat_list_cmp_total key) refl
put_again key first second (member other held members) =
    put_chosen (slice_cmp nat_cmp key other) key other first second held members refl (put_again key first second members)

-- a known key that is put among members adds no unknown one
only_put : (keys : List Text) (key : Text) (held : Data) (members : Members) → is_one_of keys key ≡ true
    → have_only keys (put key held members) ≡ have_only keys members
only_put keys key held no_members one = rw one refl
only_put keys key held (member other first members) one =
    go (slice_cmp nat_cmp key other) (only_put keys key held members one)
  where
    go : (o : Ordering) → have_only keys (put key held members) ≡ have_only keys members
        → have_only keys (match_ordering o (member key held (member other first members)) (member other held members) (member other first (put key held members)))
        ≡ have_only keys (member other first members)
    go Less later = rw one refl
    go Equal later = refl
    go Greater later = rw later refl

checked_with : (keys : List Text) (key : Text) (held value : Data) → is_one_of keys key ≡ true
    → object_check keys (with_member key held value) ≡ object_check keys value
checked_with keys key held null one = refl
checked_with keys key held (boolean b) one = refl
checked_with keys key held (number n) one = refl
checked_with keys key held (string s) one = refl
checked_with keys key held (array items) one = refl
checked_with keys key held (object members) one = rw (only_put keys key held members one) refl

found_with : (key : Text) (held found value : Data) → get key value ≡ Some found → get key (with_member key held value) ≡ Some held
found_with key held found null at = cc
found_with key held found (boolean b) at = cc
found_with key held found (number n) at = cc
found_with key held found (string s) at = cc
found_with key held found (array items) at = cc
found_with key held found (object members) at = get_member-put key held members

other_with : (other key : Text) (held value : Data) → (other ≡ key → ⊥) → get other (with_member key held value) ≡ get other value
other_with other key held null differ = refl
other_with other key held (boolean b) differ = refl
other_with other key held (number n) differ = refl
other_with other key held (string s) differ = refl
other_with other key held (array items) differ = refl
other_with other key held (object members) differ = get_member-put_other other key held members differ

-- changes under a key

pub checked_changed : (keys : List Text) (key : Text) (change : Data → Data) (value : Data) → is_one_of keys key ≡ true
    → object_check keys (changed_at key change value) ≡ object_check keys value
checked_changed keys key change value one = go (get key value)
  where
    go : (o : Option Data) → object_check keys (unwrap_or (option_map (λ held. with_member key (change held) value) o) value) ≡ object_check keys value
    go None = refl
    go (Some held) = checked_with keys key (change held) value one

pub found_changed : (key : Text) (change : Data → Data) (value held : Data) → get key value ≡ Some held
    → get key (changed_at key change value) ≡ Some (change held)
found_changed key change value held at =
    ap (λ (o : Option Data). get key (unwrap_or (option_map (λ held. with_member key (change held) value) o) value)) at
    ∙ found_with key (change held) held value at

pub other_changed : (other key : Text) (change : Data → Data) (value : Data) → (other ≡ key → ⊥)
    → get other (changed_at key change value) ≡ get other value
other_changed other key change value differ = go (get key value)
  where
    go : (o : Option Data) → get other (unwrap_or (option_map (λ held. with_member key (change held) value) o) value) ≡ get other value
    go None = refl
    go (Some held) = other_with other key (change held) value differ

pub field_changed : (key : Text) (change : Data → Data) (value held : Data) → field key value ≡ Ok held
    → field key (changed_at key change value) ≡ Ok (change held)
field_changed key change value held gave =
    ap (λ (o : Option Data). ok_or o MissingKey) (found_changed key change value held (there (get key value) MissingKey held gave))

pub field_other : (other key : Text) (change : Data → Data) (value : Data) → (other ≡ key → ⊥)
    → field other (changed_at key change value) ≡ field other value
field_other other key change value differ = ap (λ (o : Option Data). ok_or o MissingKey) (other_changed other key change value differ)

pub checked_put : (keys : List Text) (key : Text) (held value : Data) → is_one_of keys key ≡ true
    → object_check keys (with_member key held value) ≡ object_check keys value
checked_put = checked_with

pub field_put : (key : Text) (held value found : Data) → field key value ≡ Ok found → field key (with_member key held value) ≡ Ok held
field_put key held value found gave =
    ap (λ (o : Option Data). ok_or o MissingKey) (found_with key held found value (there (get key value) MissingKey found gave))

pub field_kept : (other key : Text) (held value : Data) → (other ≡ key → ⊥) → field other (with_member key held value) ≡ field other value
field_kept other key held value differ = ap (λ (o : Option Data). ok_or o MissingKey) (other_with other key held value differ)

-- lists

pub values_of_items : (values : List Data) → values_in (items_of values) ≡ values
values_of_items [] = refl
values_of_items (value ∷ values) = ap (value ∷◌) (values_of_items values)

all_read : {X : Type 0} (reads others : Data → Result X PlanError) (change : Data → Data)
    → ((value : Data) (made : X) → reads value ≡ Ok made → others (change value) ≡ Ok made)
    → (values : List Data) (made : List X) → all_of reads values ≡ Ok made → all_of others (map change values) ≡ Ok made
all_read reads others change each [] made e = e
all_read reads others change each (value ∷ values) made e =
    let first = taken (reads value) (λ x. all_of reads values >>= λ xs. Ok (x ∷ xs)) made e in
    let rest = taken (all_of reads values) (λ xs. Ok (first.value ∷ xs)) made first.went in
    rw (each value first.value first.gave) (rw (all_read reads others change each values rest.value rest.gave) rest.went)

pub list_changed : (change : Data → Data) (value : Data) (values : List Data) → list_of value ≡ Ok values
    → list_of (each_changed change value) ≡ Ok (map change values)
list_changed change null values e = cc
list_changed change (boolean b) values e = cc
list_changed change (number n) values e = cc
list_changed change (string s) values e = cc
list_changed change (array items) values e =
    let same : values_in items ≡ values = cc in
    ap Ok (values_of_items (map change (values_in items)) ∙ ap (map change) same)
list_changed change (object _) values e = cc

pub list_read : {X : Type 0} (reads others : Data → Result X PlanError) (change : Data → Data)
    → ((value : Data) (made : X) → reads value ≡ Ok made → others (change value) ≡ Ok made)
    → (value : Data) (made : List X) → (list_of value >>= all_of reads) ≡ Ok made → (list_of (each_changed change value) >>= all_of others) ≡ Ok made
list_read reads others change each value made e =
    let values = taken (list_of value) (all_of reads) made e in
    rw (list_changed change value values.value values.gave) (all_read reads others change each values.value made values.went)

pub count_changed : (change : Data → Data) (value : Data) → count_in (each_changed change value) ≡ count_in value
count_changed change null = refl
count_changed change (boolean b) = refl
count_changed change (number n) = refl
count_changed change (string s) = refl
count_changed change (array items) =
    ap length (values_of_items (map change (values_in items))) ∙ length-map (values_in items) change
count_changed change (object _) = refl

-- how deep values nest

-- a change that nests no deeper
abbrev pub IsNoDeeper : (Data → Data) → Type 0
IsNoDeeper change = (value : Data) → depth (change value) ≤ depth value

put_deep : (key : Text) (held : Data) (members : Members) → members_depth (put key held members) ≤ max (depth held) (members_depth members)
put_deep key held no_members = omega arith
put_deep key held (member other first members) = go (slice_cmp nat_cmp key other) (put_deep key held members)
  where
    go : (o : Ordering) → members_depth (put key held members) ≤ max (depth held) (members_depth members)
        → members_depth (match_ordering o (member key held (member other first members)) (member other held members) (member other first (put key held members)))
        ≤ max (depth held) (members_depth (member other first members))
    go Less later = omega arith
    go Equal later = omega arith
    go Greater later = omega arith

found_deep : (key : Text) (members : Members) (held : Data) → get_member key members ≡ Some held → depth held ≤ members_depth members
found_deep key no_members held at = cc
found_deep key (member other first members) held at = go (slice_cmp nat_cmp key other) at (λ later. found_deep key members held later)
  where
    go : (o : Ordering) → match_ordering o (get_member key members) (Some first) (get_member key members) ≡ Some held
        → (get_member key members ≡ Some held → depth held ≤ members_depth members) → depth held ≤ members_depth (member other first members)
    go Less here later = let low = later here in omega arith
    go Equal here later = let same : first ≡ held = cc in let low : depth held ≤ depth first = rw same (omega arith) in omega arith
    go Greater here later = let low = later here in omega arith

pub deep_with : (key : Text) (held value : Data) → depth held ≡ 0 → depth (with_member key held value) ≤ depth value
deep_with key held null low = omega arith
deep_with key held (boolean b) low = omega arith
deep_with key held (number n) low = omega arith
deep_with key held (string s) low = omega arith
deep_with key held (array items) low = omega arith
deep_with key held (object members) low = let put = put_deep key held members in omega arith

pub deep_changed : (key : Text) (change : Data → Data) → IsNoDeeper change → IsNoDeeper (changed_at key change)
deep_changed key change deeper null = omega arith
deep_changed key change deeper (boolean b) = omega arith
deep_changed key change deeper (number n) = omega arith
deep_changed key change deeper (string s) = omega arith
deep_changed key change deeper (array items) = omega arith
deep_changed key change deeper (object members) = go (get_member key members) refl
  where
    go : (o : Option Data) → get_member key members ≡ o
        → depth (unwrap_or (option_map (λ held. with_member key (change held) (object members)) o) (object members)) ≤ depth (object members)
    go None at = omega arith
    go (Some held) at =
        let low = found_deep key members held at in
        let less = deeper held in
        let put = put_deep key (change held) members in
        omega arith

items_deep : (change : Data → Data) → IsNoDeeper change → (items : Items) → items_depth (items_of (map change (values_in items))) ≤ items_depth items
items_deep change deeper no_items = omega arith
items_deep change deeper (item value items) =
    let here = deeper value in
    let later = items_deep change deeper items in
    omega arith

pub deep_each : (change : Data → Data) → IsNoDeeper change → IsNoDeeper (each_changed change)
deep_each change deeper null = omega arith
deep_each change deeper (boolean b) = omega arith
deep_each change deeper (number n) = omega arith
deep_each change deeper (string s) = omega arith
deep_each change deeper (array items) = let low = items_deep change deeper items in omega arith
deep_each change deeper (object _) = omega arith

-- what was taken out

-- a key that a map doesn't have holds nothing
nothing_held : (key : Text) (entries : List (String Global × Value)) → false ≡ is_some (lookup (is_at (λ k. slice_cmp nat_cmp key (string_bytes k))) entries)
    → None ≡ get_member key (members_view entries)
nothing_held key entries is = go (lookup (is_at (λ k. slice_cmp nat_cmp key (string_bytes k))) entries) is (view-lookup key entries)
  where
    go : (o : Option Value) → false ≡ is_some o → option_map view o ≡ get_member key (members_view entries) → None ≡ get_member key (members_view entries)
    go None is found = found
    go (Some held) is found = cc is

pub something_held : (key : Text) (entries : List (String Global × Value)) → true ≡ is_some (lookup (is_at (λ k. slice_cmp nat_cmp key (string_bytes k))) entries)
    → is_some (get_member key (members_view entries)) ≡ true
something_held key entries is = go (lookup (is_at (λ k. slice_cmp nat_cmp key (string_bytes k))) entries) is (view-lookup key entries)
  where
    go : (o : Option Value) → true ≡ is_some o → option_map view o ≡ get_member key (members_view entries) → is_some (get_member key (members_view entries)) ≡ true
    go None is found = cc is
    go (Some held) is found = ap is_some (sym found)

-- what is put under the key of what was taken out makes the same
pub left_alike : (key : Text) (held : Option Value) (value : Value) (before after : BTreeMap (String Global) Value) → value ≡ Object before
    → members_view after.entries ≡ put key (view Null) (members_view before.entries) → option_map view held ≡ get_member key (members_view before.entries)
    → is_some (get_member key (members_view before.entries)) ≡ true
    → MatchOption held (view (Object after) ≡ view value) (λ _. (next : Data) → with_member key next (view (Object after)) ≡ with_member key next (view value))
left_alike key None value before after whole is found some = cc (ap is_some found ∙ some)
left_alike key (Some held) value before after whole is found some = λ next.
    ap (with_member key next) (view-Object after)
    ∙ ap (λ (ms : Members). object (put key next ms)) is ∙ ap object (put_again key (view Null) next (members_view before.entries))
    ∙ sym (ap (with_member key next) (ap view whole ∙ view-Object before))

-- a map that lacks the key is a value that holds nothing there
pub nothing_there : (key : Text) (value : Value) (members : BTreeMap (String Global) Value) → value ≡ Object members
    → false ≡ is_some (lookup (is_at (λ k. slice_cmp nat_cmp key (string_bytes k))) members.entries) → None ≡ get key (view value)
nothing_there key value members whole is =
    nothing_held key members.entries is ∙ sym (ap (get key) (ap view whole ∙ view-Object members))

-- the values of a list that were changed each make a list that is changed
pub each_alike : (change : Data → Data) (value : Value) (before after : Vec Value Global) → value ≡ Array before
    → map view after.items ≡ map change (map view before.items) → view (Array after) ≡ each_changed change (view value)
each_alike change value before after whole is =
    view-Array after ∙ ap (λ (values : List Data). array (items_of values)) is
    ∙ sym (ap (each_changed change) (ap view whole ∙ view-Array before)
    ∙ ap (λ (values : List Data). array (items_of (map change values))) (values_of_items (map view before.items)))
