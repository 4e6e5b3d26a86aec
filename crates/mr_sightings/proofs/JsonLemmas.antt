-- There is no float in what is told as JSON.
use Rattle.std.proofs.Common.{◌≡◌, ℕ, Bool, true, false, ◌||◌, List, [], ◌∷◌, Option, Some, None, nat_eq, nat_cmp, refl, if◌then◌else◌}
use Rattle.std.specs.Prelude.{slice_index}
use Rattle.std.specs.Cmp.Lexicographic.{slice_cmp}
use Rattle.std.specs.Ordering.{match_ordering}
use Rattle.std.specs.declared.cmp.Ordering.{Ordering}
use Rattle.std.specs.declared.cmp.Ordering.TheVariants.{Less, Equal, Greater}
use Rattle.serde_json.specs.Data.{Data, Members, no_members, member, put}
use Rattle.serde_json.specs.Written.{has_float, members_have_float}
use Rattle.mr_sightings.specs.Json.{number_json, perhaps_json, with_count, with_error, with_errors, errors_json, second_json, deed_json, found_json, came_back_json, counts_json, verdict_json}
use Rattle.mr_sightings.specs.Percentile.{bound_micros, slowest_of}
use Rattle.mr_sightings.specs.Second.{median_of}
use Rattle.mr_sightings.specs.Trouble.{trouble_text, all_troubles, place_of}
use Rattle.mr_sightings.specs.declared.came_back.CameBack.{CameBack}
use Rattle.mr_sightings.specs.declared.came_back.Deed.{Deed}
use Rattle.mr_sightings.specs.declared.second.Second.{Second}
use Rattle.mr_sightings.specs.declared.trouble.Trouble.{Trouble}
use Rattle.mr_sightings.specs.declared.verdict.Verdict.{Verdict}

first_false : (a b : Bool) → (a || b) ≡ false → a ≡ false
first_false false b none = refl
first_false true b none = none

second_false : (a b : Bool) → (a || b) ≡ false → b ≡ false
second_false false b none = none
second_false true b none = cc

-- a member more that is no float
put_no_float : (name : List ℕ) (value : Data) (rest : Members) → has_float value ≡ false → members_have_float rest ≡ false
    → members_have_float (put name value rest) ≡ false
put_no_float name value no_members plain others = rw plain refl
put_no_float name value (member other before rest) plain others =
    go (put_no_float name value rest plain (second_false (has_float before) (members_have_float rest) others)) (slice_cmp nat_cmp name other)
  where
    go : members_have_float (put name value rest) ≡ false → (order : Ordering)
        → members_have_float (match_ordering order (member name value (member other before rest)) (member other value rest)
        (member other before (put name value rest))) ≡ false
    go more Less = rw plain others
    go more Equal = rw plain (second_false (has_float before) (members_have_float rest) others)
    go more Greater = rw (first_false (has_float before) (members_have_float rest) others) more

error_no_float : (trouble : Trouble) (count : ℕ) (rest : Members) → members_have_float rest ≡ false
    → members_have_float (with_error trouble count rest) ≡ false
error_no_float trouble count rest others = go (nat_eq count 0)
  where
    go : (none : Bool) → members_have_float (if none then rest else with_count (trouble_text trouble) count rest) ≡ false
    go true = others
    go false = put_no_float (trouble_text trouble) (number_json count) rest refl others

errors_no_float : (reasons : List Trouble) (troubles : List ℕ) (rest : Members) → members_have_float rest ≡ false
    → members_have_float (with_errors reasons troubles rest) ≡ false
errors_no_float [] troubles rest others = others
errors_no_float (reason ∷ reasons) troubles rest others =
    errors_no_float reasons troubles (with_error reason (slice_index troubles (place_of reason)) rest)
    (error_no_float reason (slice_index troubles (place_of reason)) rest others)

all_errors_no_float : (troubles : List ℕ) → has_float (errors_json troubles) ≡ false
unfolding errors_json
all_errors_no_float troubles = errors_no_float all_troubles troubles no_members refl

perhaps_no_float : (count : Option ℕ) → has_float (perhaps_json count) ≡ false
perhaps_no_float None = refl
perhaps_no_float (Some n) = refl

pub second_no_float : (second : Second) → has_float (second_json second) ≡ false
unfolding second_json
second_no_float second = rw (
  all_errors_no_float second.tally.troubles,
  perhaps_no_float (slowest_of second.tally.greatest (median_of second.tally)),
  perhaps_no_float (bound_micros second.tally.greatest (median_of second.tally)),
) refl

deed_no_float : (deed : Deed) → has_float (deed_json deed) ≡ false
unfolding deed_json
deed_no_float deed = refl

found_no_float : (found : CameBack) → has_float (found_json found) ≡ false
unfolding found_json
found_no_float found = rw (deed_no_float found.delete, deed_no_float found.get, deed_no_float found.set) refl

pub came_back_no_float : (found : CameBack) → has_float (came_back_json found) ≡ false
unfolding came_back_json
came_back_no_float found = rw (found_no_float found) refl

counts_no_float : (verdict : Verdict) → has_float (counts_json verdict) ≡ false
unfolding counts_json
counts_no_float verdict = refl

pub verdict_no_float : (verdict : Verdict) → has_float (verdict_json verdict) ≡ false
unfolding verdict_json
verdict_no_float verdict = rw (counts_no_float verdict) refl
