use Rattle.std.proofs.Common.{◌≡◌, ◌≤◌, ◌∙◌, ℕ, List, length, take, refl, arith}
use Rattle.std.proofs.lemmas.List.{length-take}
use Rattle.mr_tool.specs.Sources.{Known, MayGive, most_loaded}
use Rattle.mr_tool.specs.Sources.Known.{Holds}
use Rattle.mr_test_tool.proofs.tests.tool.files_at.read_at.Goals as goal

short : (n : ℕ) (bytes : List ℕ) → length (take n bytes) ≤ n
short n bytes = omega (arith, length-take n bytes)

given : (known : Known) (all bytes : List ℕ) → known ≡ Holds all → bytes ≡ take most_loaded all → MayGive known bytes × (length bytes ≤ most_loaded)
given known all bytes is cut = rw (is, cut) (refl, short most_loaded all)

pub returns-in-Ok : goal.returns-in-Ok
returns-in-Ok c =
    given _ c.in-Some.bytes.now c.in-Ok.bytes.items c.in-Some.ensures.found (c.in-Ok.ensures.items ∙ c.front.ensures)
