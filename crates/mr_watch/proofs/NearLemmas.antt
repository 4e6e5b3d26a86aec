-- What it says that clocks are near, or too far apart.
use Rattle.std.proofs.Common.{◌≡◌, ℕ, ◌*◌, ◌<◌, ◌≤◌, nat_lt, nat_le, Bool, true, false, List, [], ◌∷◌, refl, arith, leb-true}
use borrow.Author.Tests.{ltb-true}
use Rattle.mr_watch.proofs.LawLemmas.{least_told, most_told}
use Rattle.mr_watch.specs.Finding.{finding_after}
use Rattle.mr_watch.specs.Laws.{AreWithin, greatest_distance}
use Rattle.mr_watch.specs.Spread.{near_after, spread_in, apart_at_least, apart_at_most, greatest_of_pairs}
use Rattle.mr_watch.specs.declared.finding.Finding.TheVariants.{Unseen, Holds, Broken}
use Rattle.mr_watch.specs.declared.spread.Ahead.{Ahead}

holds_by : (broken holds : Bool) → finding_after Unseen broken holds ≡ Holds → holds ≡ true
holds_by true holds e = cc
holds_by false true e = refl
holds_by false false e = cc

broken_by : (broken holds : Bool) → finding_after Unseen broken holds ≡ Broken → broken ≡ true
broken_by true holds e = refl
broken_by false true e = cc
broken_by false false e = cc

pub near_holds : (interval : ℕ) (aheads : List Ahead) (clocks : List ℕ) → AreWithin aheads clocks → near_after Unseen interval (spread_in aheads) ≡ Holds
    → greatest_distance clocks ≤ interval * 1000
near_holds interval [] clocks w e = cc
near_holds interval (one ∷ others) clocks w e =
    let least = greatest_of_pairs apart_at_least (one ∷ others) in
    let most = greatest_of_pairs apart_at_most (one ∷ others) in
    let allowed : most ≤ interval * 1000 = leb-true most (interval * 1000) (holds_by (nat_lt (interval * 1000) least) (nat_le most (interval * 1000)) e) in
    let told : greatest_distance clocks ≤ most = most_told (one ∷ others) clocks w in
    omega arith

pub far_broken : (interval : ℕ) (aheads : List Ahead) (clocks : List ℕ) → AreWithin aheads clocks → near_after Unseen interval (spread_in aheads) ≡ Broken
    → interval * 1000 < greatest_distance clocks
far_broken interval [] clocks w e = cc
far_broken interval (one ∷ others) clocks w e =
    let least = greatest_of_pairs apart_at_least (one ∷ others) in
    let most = greatest_of_pairs apart_at_most (one ∷ others) in
    let above : interval * 1000 < least = ltb-true (interval * 1000) least (broken_by (nat_lt (interval * 1000) least) (nat_le most (interval * 1000)) e) in
    let told : least ≤ greatest_distance clocks = least_told (one ∷ others) clocks w in
    omega arith
