-- the value of a label is read back
use Rattle.std.proofs.Common.{◌≡◌, ℕ, ◌++◌, ◌==◌, List, [], ◌∷◌, Bool, true, false, Option, Some, refl, arith}
use Rattle.mr_metrics.specs.Exposition.{escaped}
use Rattle.mr_metrics.specs.ReadBack.{read_value}

pub read_back : (value rest : List ℕ) → read_value false (escaped value ++ 34 ∷ rest) ≡ Some (value, rest)
read_back [] rest = refl
read_back (byte ∷ value) rest = let rec = read_back value rest in grind (arith, rec)
