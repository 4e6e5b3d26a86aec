-- An index over the names of a setup's nodes. No clause of a public call cites these definitions.
use Rattle.std.specs.Prelude.{◌≡◌, Bool, List}
use Rattle.std.specs.Ordering.{nat_cmp}
use Rattle.std.specs.Cmp.Lexicographic.{slice_cmp}
use Rattle.std.specs.BTreeSet.{BTreeSet, contains_by}
use denote.Ref.{Bor}
use Rattle.serde_json.specs.Data.{Data}
use Rattle.mr_configs.specs.Fields.{Text}
use Rattle.mr_scripts.specs.Homes.{values_name}

-- the index has the name
abbrev pub has_name : BTreeSet (Bor Text) → Text → Bool
has_name index name = contains_by (λ known. slice_cmp nat_cmp name known.now) index

-- the index has the names of the proxies' nodes, and no others
abbrev pub IsIndexOf : Data → List Data → BTreeSet (Bor Text) → Type 0
IsIndexOf common proxies index = (name : Text) → has_name index name ≡ values_name common proxies name
