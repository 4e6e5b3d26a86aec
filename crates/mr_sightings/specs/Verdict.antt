-- What a canary comes to.
use Rattle.std.specs.Prelude.{ℕ, nat_eq, List, [], ◌++◌, if◌then◌else◌, codes}
use Rattle.mr_sightings.specs.Shown.{noun_of, great_number_of}
use Rattle.mr_sightings.specs.declared.verdict.Verdict.{Verdict}

-- it found nothing
unfoldable pub nothing_text : List ℕ
nothing_text = codes "nothing that was deleted came back"

-- it found something, so often
unfoldable pub found_text : ℕ → List ℕ
found_text count = codes "what was deleted came back " ++ great_number_of count (codes "time") (codes "times")

-- what it found
unfoldable pub finding_text : ℕ → List ℕ
finding_text count = if nat_eq count 0 then nothing_text else found_text count

-- whom it asked, and how often
unfoldable pub asked_text : Verdict → List ℕ
asked_text verdict =
    great_number_of verdict.requests (codes "request") (codes "requests")
    ++ (codes " at " ++ (great_number_of verdict.proxies (codes "proxy") (codes "proxies") ++ codes ", "))

-- how many deletes were acknowledged
unfoldable pub acknowledged_text : ℕ → List ℕ
acknowledged_text count = great_number_of count (codes "delete") (codes "deletes") ++ codes " acknowledged\n"

-- how many keys it leaves; nothing where it leaves none
unfoldable pub left_text : ℕ → List ℕ
left_text count =
    if nat_eq count 0
    then []
    else great_number_of count (codes "key") (codes "keys")
    ++ noun_of count (codes " wasn't deleted: it expires within an hour\n") (codes " weren't deleted: they expire within an hour\n")

-- all of it
unfoldable pub verdict_text : Verdict → List ℕ
verdict_text verdict =
    finding_text verdict.came_back ++ (codes ": " ++ (asked_text verdict
    ++ (acknowledged_text verdict.acknowledged ++ left_text verdict.left)))
