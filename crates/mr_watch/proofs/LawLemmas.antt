-- The laws of findings and of spreads.
use Rattle.std.proofs.Common.{◌≡◌, ℕ, ◌-◌, ◌≤◌, max, Bool, List, [], ◌∷◌, ◌++◌, Option, Some, None, refl, arith}
use Rattle.mr_phases.specs.Schedule.{Hop}
use Rattle.mr_watch.specs.Finding.{finding_after}
use Rattle.mr_watch.specs.Judging.{findings_after}
use Rattle.mr_watch.specs.Laws.{StaysBroken, distance, greatest_distance_to, greatest_distance, AreWithin}
use Rattle.mr_watch.specs.Spread.{near_after, apart_at_least, apart_at_most, greatest_to, greatest_of_pairs}
use Rattle.mr_watch.specs.declared.finding.Finding.{Finding}
use Rattle.mr_watch.specs.declared.finding.Finding.TheVariants.{Broken}
use Rattle.mr_watch.specs.declared.finding.Findings.{Findings}
use Rattle.mr_watch.specs.declared.look.Look.{Look}
use Rattle.mr_watch.specs.declared.look.ProxySeen.{ProxySeen}
use Rattle.mr_watch.specs.declared.spread.Ahead.{Ahead}
use Rattle.mr_watch.specs.declared.spread.Spread.{Spread}

stays : (before : Finding) (broken holds : Bool) → before ≡ Broken → finding_after before broken holds ≡ Broken
stays before broken holds e = rw e refl

stays_near : (before : Finding) (interval : ℕ) (spread : Option Spread) → before ≡ Broken → near_after before interval spread ≡ Broken
stays_near before interval None e = e
stays_near before interval (Some spread) e = rw e refl

pub broken_stays : (before : Findings) (earlier : List ProxySeen) (look : Look) (expected : List ℕ) (hops : List Hop)
    → StaysBroken before (findings_after before earlier look expected hops)
broken_stays before earlier look expected hops = record {
  same = stays before.same _ _;
  empty = stays before.empty _ _;
  near = stays_near before.near _ _;
  forward = stays before.forward _ _;
}

least_pair : (one other : Ahead) (a b : ℕ) → one.low ≤ a → a ≤ one.high → other.low ≤ b → b ≤ other.high → apart_at_least one other ≤ distance a b
least_pair one other a b h i j k = omega arith

most_pair : (one other : Ahead) (a b : ℕ) → one.low ≤ a → a ≤ one.high → other.low ≤ b → b ≤ other.high → distance a b ≤ apart_at_most one other
most_pair one other a b h i j k = omega arith

max-le : (a b c d : ℕ) → a ≤ c → b ≤ d → max a b ≤ max c d
max-le a b c d h k = omega arith

least_to : (one : Ahead) (a : ℕ) → one.low ≤ a → a ≤ one.high → (aheads : List Ahead) (clocks : List ℕ) → AreWithin aheads clocks
    → greatest_to apart_at_least one aheads ≤ greatest_distance_to a clocks
least_to one a h i [] [] w = omega arith
least_to one a h i [] (b ∷ bs) w = absurd w
least_to one a h i (other ∷ others) [] w = absurd w
least_to one a h i (other ∷ others) (b ∷ bs) w =
    max-le (apart_at_least one other) (greatest_to apart_at_least one others) (distance a b) (greatest_distance_to a bs)
    (least_pair one other a b h i w.0.0 w.0.1) (least_to one a h i others bs w.1)

most_to : (one : Ahead) (a : ℕ) → one.low ≤ a → a ≤ one.high → (aheads : List Ahead) (clocks : List ℕ) → AreWithin aheads clocks
    → greatest_distance_to a clocks ≤ greatest_to apart_at_most one aheads
most_to one a h i [] [] w = omega arith
most_to one a h i [] (b ∷ bs) w = absurd w
most_to one a h i (other ∷ others) [] w = absurd w
most_to one a h i (other ∷ others) (b ∷ bs) w =
    max-le (distance a b) (greatest_distance_to a bs) (apart_at_most one other) (greatest_to apart_at_most one others)
    (most_pair one other a b h i w.0.0 w.0.1) (most_to one a h i others bs w.1)

pub least_told : (aheads : List Ahead) (clocks : List ℕ) → AreWithin aheads clocks → greatest_of_pairs apart_at_least aheads ≤ greatest_distance clocks
least_told [] [] w = omega arith
least_told [] (b ∷ bs) w = absurd w
least_told (one ∷ others) [] w = absurd w
least_told (one ∷ others) (a ∷ as') w =
    max-le (greatest_to apart_at_least one others) (greatest_of_pairs apart_at_least others) (greatest_distance_to a as') (greatest_distance as')
    (least_to one a w.0.0 w.0.1 others as' w.1) (least_told others as' w.1)

pub most_told : (aheads : List Ahead) (clocks : List ℕ) → AreWithin aheads clocks → greatest_distance clocks ≤ greatest_of_pairs apart_at_most aheads
most_told [] [] w = omega arith
most_told [] (b ∷ bs) w = absurd w
most_told (one ∷ others) [] w = absurd w
most_told (one ∷ others) (a ∷ as') w =
    max-le (greatest_distance_to a as') (greatest_distance as') (greatest_to apart_at_most one others) (greatest_of_pairs apart_at_most others)
    (most_to one a w.0.0 w.0.1 others as' w.1) (most_told others as' w.1)

max-swap : (a b c : ℕ) → max a (max b c) ≡ max b (max a c)
max-swap a b c = omega arith

max-exchange : (a b c d : ℕ) → max (max a b) (max c d) ≡ max (max a c) (max b d)
max-exchange a b c d = omega arith

to_middle : (apart : Ahead → Ahead → ℕ) (first : Ahead) (front back : List Ahead) (one : Ahead)
    → greatest_to apart first (front ++ one ∷ back) ≡ max (apart first one) (greatest_to apart first (front ++ back))
to_middle apart first [] back one = refl
to_middle apart first (f ∷ fs) back one =
    rw (to_middle apart first fs back one) (max-swap (apart first f) (apart first one) (greatest_to apart first (fs ++ back)))

moved : (apart : Ahead → Ahead → ℕ) → ((one other : Ahead) → apart one other ≡ apart other one) → (front back : List Ahead) (one : Ahead)
    → greatest_of_pairs apart (front ++ one ∷ back) ≡ greatest_of_pairs apart (one ∷ (front ++ back))
moved apart even [] back one = refl
moved apart even (f ∷ fs) back one =
    rw (to_middle apart f fs back one, moved apart even fs back one, even f one)
    (max-exchange (apart one f) (greatest_to apart f (fs ++ back)) (greatest_to apart one (fs ++ back)) (greatest_of_pairs apart (fs ++ back)))

max-comm : (a b : ℕ) → max a b ≡ max b a
max-comm a b = omega arith

pub moved_least : (front back : List Ahead) (one : Ahead)
    → greatest_of_pairs apart_at_least (front ++ one ∷ back) ≡ greatest_of_pairs apart_at_least (one ∷ (front ++ back))
moved_least = moved apart_at_least (λ one other. max-comm (one.low - other.high) (other.low - one.high))

pub moved_most : (front back : List Ahead) (one : Ahead)
    → greatest_of_pairs apart_at_most (front ++ one ∷ back) ≡ greatest_of_pairs apart_at_most (one ∷ (front ++ back))
moved_most = moved apart_at_most (λ one other. max-comm (one.high - other.low) (other.high - one.low))
