-- The pools of a route have the names of those before the one that it moves to, and of that one.
use Rattle.std.proofs.Common.{◌≡◌, ℕ, zero, suc, ◌-◌, ◌<◌, ◌++◌, ◌||◌, Bool, true, false, List, [], ◌∷◌, refl, ap, ◌∙◌, arith}
use Rattle.serde_json.specs.Data.{Data}
use Rattle.mr_configs.specs.Fields.{Text, is_one_of}
use Rattle.mr_scripts.specs.Homes.{names_after, pools_before, pools_along}
use Rattle.mr_scripts.specs.Setups.{pools_name}

-- the names of pools, and of one more
named_behind : (pools : List (List Text)) (pool : List Text) (name : Text) → pools_name (pools ++ pool ∷ []) name ≡ (pools_name pools name || is_one_of pool name)
named_behind [] pool name = or_false (is_one_of pool name)
  where
    or_false : (b : Bool) → (b || false) ≡ b
    or_false true = refl
    or_false false = refl
named_behind (first ∷ pools) pool name = ap (λ rest. is_one_of first name || rest) (named_behind pools pool name) ∙ or_same (is_one_of first name) (pools_name pools name) (is_one_of pool name)
  where
    or_same : (a b c : Bool) → (a || (b || c)) ≡ ((a || b) || c)
    or_same true b c = refl
    or_same false b c = refl

-- no route is looked at
pub none_named : (routes : ℕ) (config route : Data) (name : Text) → routes ≡ 0 → pools_name (pools_along routes config route) name ≡ false
unfolding pools_along
none_named routes config route name e = rw e refl

-- one route more
pub one_named : (routes : ℕ) (config route : Data) (name : Text) → 0 < routes →
    pools_name (pools_along routes config route) name ≡ (pools_name (pools_before (routes - 1) config route) name || is_one_of (names_after config route) name)
unfolding pools_along
one_named zero config route name some = absurd (omega arith)
one_named (suc fewer) config route name some =
    let same : suc fewer - 1 ≡ fewer = omega arith in
    rw same (named_behind (pools_before fewer config route) (names_after config route) name)
