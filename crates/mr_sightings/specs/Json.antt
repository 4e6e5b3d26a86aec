-- What a canary tells as JSON.
use Rattle.std.specs.Borrow.{Bor}
use Rattle.std.specs.Prelude.{ℕ, List, [], ◌∷◌, ◌++◌, nat_eq, slice_index, Option, Some, None, if◌then◌else◌, codes}
use Rattle.serde_json.specs.Data.{Data, null, number, unsigned, string, object, Members, no_members, put}
use Rattle.serde_json.specs.Written.{compact_text}
use Rattle.mr_phases.specs.PhaseText.{phase_text}
use Rattle.mr_sightings.specs.Percentile.{bound_micros, slowest_of}
use Rattle.mr_sightings.specs.Second.{median_of}
use Rattle.mr_sightings.specs.Shown.{printable}
use Rattle.mr_sightings.specs.Trouble.{trouble_text, all_troubles, place_of}
use Rattle.mr_sightings.specs.declared.came_back.CameBack.{CameBack}
use Rattle.mr_sightings.specs.declared.came_back.Deed.{Deed}
use Rattle.mr_sightings.specs.declared.json.Part.{Part}
use Rattle.mr_sightings.specs.declared.json.Part.TheVariants as part
use Rattle.mr_sightings.specs.declared.second.Second.{Second}
use Rattle.mr_sightings.specs.declared.trouble.Trouble.{Trouble}
use Rattle.mr_sightings.specs.declared.verdict.Verdict.{Verdict}

-- a whole number
abbrev pub number_json : ℕ → Data
number_json n = number (unsigned n)

-- null where there is none
abbrev pub perhaps_json : Option ℕ → Data
perhaps_json None = null
perhaps_json (Some n) = number_json n

-- the value of a plain part
abbrev pub part_json : Part → Data
part_json (part.Text text) = string text.now
part_json (part.Bytes bytes) = string (printable bytes.now)
part_json (part.Count count) = number_json count
part_json (part.Perhaps count) = perhaps_json count

-- these members beside those that are there
abbrev pub members_json : List (Bor (List ℕ) × Part) → Members → Members
members_json [] before = before
members_json (m ∷ ms) before = members_json ms (put m.0.now (part_json m.1) before)

-- a name with its value, beside those before
abbrev pub with_text : List ℕ → List ℕ → Members → Members
with_text name text before = put name (string text) before

-- a name with a number, beside those before
abbrev pub with_count : List ℕ → ℕ → Members → Members
with_count name count before = put name (number_json count) before

-- a name with a number or null, beside those before
abbrev pub with_perhaps : List ℕ → Option ℕ → Members → Members
with_perhaps name count before = put name (perhaps_json count) before

-- a reason with its count, where it was seen, beside those before
abbrev pub with_error : Trouble → ℕ → Members → Members
with_error trouble count before = if nat_eq count 0 then before else with_count (trouble_text trouble) count before

-- each of these reasons that was seen, beside those before
abbrev pub with_errors : List Trouble → List ℕ → Members → Members
with_errors [] troubles before = before
with_errors (trouble ∷ more) troubles before =
    with_errors more troubles (with_error trouble (slice_index troubles (place_of trouble)) before)

-- an object that has this value under this name alone
abbrev pub named_json : List ℕ → Data → Data
named_json name value = object (put name value no_members)

-- why requests came to nothing, and how often
unfoldable pub errors_json : List ℕ → Data
errors_json troubles = object (with_errors all_troubles troubles no_members)

-- what is told of a second
unfoldable pub second_json : Second → Data
second_json second = object
    (put (codes "errors") (errors_json second.tally.troubles)
    (with_count (codes "requests") second.tally.requests
    (with_text (codes "phase") (phase_text second.phase)
    (with_count (codes "misses") second.tally.misses
    (with_perhaps (codes "median_micros") (bound_micros second.tally.greatest (median_of second.tally))
    (with_count (codes "hop") second.hop
    (with_count (codes "hits") second.tally.hits
    (with_perhaps (codes "greatest_micros") (slowest_of second.tally.greatest (median_of second.tally))
    (with_count (codes "came_back") second.came_back
    (with_count (codes "at") second.at no_members))))))))))

-- a request: who was asked, and when
unfoldable pub deed_json : Deed → Data
deed_json deed = object
    (with_count (codes "second") deed.second
    (with_text (codes "proxy") deed.proxy.now
    (with_text (codes "phase") (phase_text deed.phase)
    (with_count (codes "micros") deed.micros
    (with_count (codes "hop") deed.hop no_members)))))

-- what came back: the key, and the three requests
unfoldable pub found_json : CameBack → Data
found_json found = object
    (put (codes "set") (deed_json found.set)
    (with_text (codes "key") (printable found.key.now)
    (put (codes "get") (deed_json found.get)
    (put (codes "delete") (deed_json found.delete) no_members))))

-- the same under a name of its own
unfoldable pub came_back_json : CameBack → Data
came_back_json found = named_json (codes "came_back") (found_json found)

-- what was found
unfoldable pub counts_json : Verdict → Data
counts_json verdict = object
    (with_count (codes "requests") verdict.requests
    (with_count (codes "proxies") verdict.proxies
    (with_count (codes "left") verdict.left
    (with_count (codes "came_back") verdict.came_back
    (with_count (codes "acknowledged") verdict.acknowledged no_members)))))

-- the same under a name of its own
unfoldable pub verdict_json : Verdict → Data
verdict_json verdict = named_json (codes "verdict") (counts_json verdict)

-- an object as a line: compact, its keys in byte order
abbrev pub json_line : Data → List ℕ
json_line value = compact_text value ++ codes "\n"
