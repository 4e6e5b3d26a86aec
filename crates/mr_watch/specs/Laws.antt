-- What the laws speak of.
use Rattle.std.specs.Prelude.{◌≡◌, ℕ, ◌-◌, ◌≤◌, max, List, [], ◌∷◌, Some}
use Rattle.mr_watch.specs.declared.finding.Finding.TheVariants.{Broken}
use Rattle.mr_watch.specs.declared.finding.Findings.{Findings}
use Rattle.mr_watch.specs.declared.look.ProxySeen.{ProxySeen}
use Rattle.mr_watch.specs.declared.spread.Ahead.{Ahead}
use Rattle.mr_watch.specs.declared.told.ProxyTold.{ProxyTold}

-- each premise that was broken is broken
pub record StaysBroken (before after : Findings) : Type 0 where
  pub same : before.same ≡ Broken → after.same ≡ Broken
  pub empty : before.empty ≡ Broken → after.empty ≡ Broken
  pub near : before.near ≡ Broken → after.near ≡ Broken
  pub forward : before.forward ≡ Broken → after.forward ≡ Broken

-- where it answered, it told this digest
abbrev pub TellsOnly : List ℕ → ProxySeen → Type 0
TellsOnly expected proxy = (told : ProxyTold) → proxy.told ≡ Some told → told.digest.now ≡ expected

-- how far two clocks are apart that are ahead by so much
abbrev pub distance : ℕ → ℕ → ℕ
distance one other = max (one - other) (other - one)

-- how far the one that is furthest from it is apart from one clock
abbrev pub greatest_distance_to : ℕ → List ℕ → ℕ
greatest_distance_to one [] = 0
greatest_distance_to one (other ∷ others) = max (distance one other) (greatest_distance_to one others)

-- how far those two of all clocks are apart that are furthest apart
abbrev pub greatest_distance : List ℕ → ℕ
greatest_distance [] = 0
greatest_distance (one ∷ others) = max (greatest_distance_to one others) (greatest_distance others)

-- each clock is ahead by what stands within its bounds
abbrev pub AreWithin : List Ahead → List ℕ → Type 0
AreWithin [] [] = Unit {0}
AreWithin [] (clock ∷ clocks) = ⊥
AreWithin (ahead ∷ aheads) [] = ⊥
AreWithin (ahead ∷ aheads) (clock ∷ clocks) = ((ahead.low ≤ clock) × (clock ≤ ahead.high)) × AreWithin aheads clocks
