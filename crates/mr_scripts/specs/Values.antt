-- When two JSON values say the same.
use Rattle.std.specs.Prelude.{ℕ, suc, ◌&&◌, ◌==◌, Bool, true, false, option_map, unwrap_or}
use Rattle.std.specs.Ordering.{int_eq}
use Rattle.std.specs.Str.{bytes_eq}
use Rattle.serde_json.specs.Data.{Num, unsigned, negative, Data, null, boolean, number, string, array, object, Items, no_items, item, Members, no_members, member}
use Rattle.serde_json.specs.Find.{get}

-- both are true, or neither
abbrev pub same_truth : Bool → Bool → Bool
same_truth true true = true
same_truth false false = true
same_truth true false = false
same_truth false true = false

-- Both are the same whole number. A number that isn't whole is the same as none, itself included.
abbrev pub same_number : Num → Num → Bool
same_number (unsigned m) (unsigned n) = m == n
same_number (negative m) (negative n) = int_eq m n
same_number m n = false

-- how many members there are
abbrev pub count_members : Members → ℕ
count_members no_members = 0
count_members (member key value members) = suc (count_members members)

abbrev mutual
  -- Both have the same kind and say the same. Objects do where they have as many members, and each member of the one
  -- stands in the other.
  pub is_same : Data → Data → Bool
  is_same null null = true
  is_same (boolean a) (boolean b) = same_truth a b
  is_same (number m) (number n) = same_number m n
  is_same (string s) (string t) = bytes_eq s t
  is_same (array items) (array others) = are_same items others
  is_same (object members) (object others) = (count_members members == count_members others) && stand_in members (object others)
  is_same value other = false

  -- the lists are as long, and their values say the same, one by one
  pub are_same : Items → Items → Bool
  are_same no_items no_items = true
  are_same (item value items) (item other others) = is_same value other && are_same items others
  are_same items others = false

  -- each member stands in the other value
  pub stand_in : Members → Data → Bool
  stand_in no_members other = true
  stand_in (member key value members) other =
      unwrap_or (option_map (λ found. is_same value found) (get key other)) false && stand_in members other
