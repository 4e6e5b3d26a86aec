-- What is kept while clocks are gone through one by one says how far they are apart.
use Rattle.std.proofs.Common.{◌≡◌, ℕ, ◌-◌, List, [], ◌∷◌, ◌++◌, Option, Some, None, option_map, option_to_list, max, min, refl, ap, sym, ◌∙◌, arith}
use Rattle.mr_watch.specs.Spread.{ahead_of, all_ahead, apart_at_least, apart_at_most, greatest_to, greatest_of_pairs, spread_in}
use Rattle.mr_watch.specs.Walk.{first_seen, seen_with, next_seen, walk}
use Rattle.mr_watch.specs.declared.look.ProxySeen.{ProxySeen}
use Rattle.mr_watch.specs.declared.spread.Ahead.{Ahead}
use Rattle.mr_watch.specs.declared.spread.ClocksSeen.{ClocksSeen}
use Rattle.mr_watch.specs.declared.spread.Spread.{Spread}

max-sub : (a b c : ℕ) → max a b - c ≡ max (a - c) (b - c)
max-sub a b c = omega arith

sub-min : (c a b : ℕ) → c - min a b ≡ max (c - a) (c - b)
sub-min c a b = omega arith

max-exchange : (a b c d : ℕ) → max (max a b) (max c d) ≡ max (max a c) (max b d)
max-exchange a b c d = omega arith

max-assoc : (a b c : ℕ) → max (max a b) c ≡ max a (max b c)
max-assoc a b c = omega arith

max-comm : (a b : ℕ) → max a b ≡ max b a
max-comm a b = omega arith

max-zero : (a : ℕ) → max a (max 0 0) ≡ a
max-zero a = omega arith

zero-max : (a : ℕ) → max 0 a ≡ a
zero-max a = omega arith

-- the greatest from the bounds over those that were gone through to one clock more
abbrev bounds_least : ClocksSeen → Ahead → ℕ
bounds_least seen other = max (seen.greatest_low - other.high) (other.low - seen.least_high)

abbrev bounds_most : ClocksSeen → Ahead → ℕ
bounds_most seen other = max (seen.greatest_high - other.low) (other.high - seen.least_low)

abbrev greatest_past : (ClocksSeen → Ahead → ℕ) → ClocksSeen → List Ahead → ℕ
greatest_past bounds seen [] = 0
greatest_past bounds seen (other ∷ others) = max (bounds seen other) (greatest_past bounds seen others)

-- bounds over one clock more give the greater of both
wider : (greatest one least other low high : ℕ)
    → max (max greatest one - high) (low - min least other) ≡ max (max (greatest - high) (low - least)) (max (one - high) (low - other))
wider greatest one least other low high =
    rw (max-sub greatest one high, sub-min low least other) (max-exchange (greatest - high) (one - high) (low - least) (low - other))

past_least : (seen : ClocksSeen) (one : Ahead) (others : List Ahead)
    → greatest_past bounds_least (seen_with seen one) others ≡ max (greatest_past bounds_least seen others) (greatest_to apart_at_least one others)
past_least seen one [] = refl
past_least seen one (other ∷ others) =
    rw (wider seen.greatest_low one.low seen.least_high one.high other.low other.high, past_least seen one others)
    (max-exchange (bounds_least seen other) (apart_at_least one other) (greatest_past bounds_least seen others) (greatest_to apart_at_least one others))

past_most : (seen : ClocksSeen) (one : Ahead) (others : List Ahead)
    → greatest_past bounds_most (seen_with seen one) others ≡ max (greatest_past bounds_most seen others) (greatest_to apart_at_most one others)
past_most seen one [] = refl
past_most seen one (other ∷ others) =
    rw (wider seen.greatest_high one.high seen.least_low one.low other.high other.low, past_most seen one others)
    (max-exchange (bounds_most seen other) (apart_at_most one other) (greatest_past bounds_most seen others) (greatest_to apart_at_most one others))

spread_same : (a b c d : ℕ) → a ≡ b → c ≡ d → (let one : Spread = record { at_least = a; at_most = c } in one) ≡ record { at_least = b; at_most = d }
spread_same a b c d p q = λ i. record { at_least = p i; at_most = q i }

-- what is found from here on
abbrev rest_of : ClocksSeen → List Ahead → Spread
rest_of seen others = record {
  at_least = max seen.spread.at_least (max (greatest_past bounds_least seen others) (greatest_of_pairs apart_at_least others));
  at_most = max seen.spread.at_most (max (greatest_past bounds_most seen others) (greatest_of_pairs apart_at_most others));
}

regroup : (s x y past to pairs : ℕ) → max (max s (max x y)) (max (max past to) pairs) ≡ max s (max (max (max y x) past) (max to pairs))
regroup s x y past to pairs = rw (max-comm x y) (simp max-assoc)

rest_with : (seen : ClocksSeen) (one : Ahead) (others : List Ahead) → rest_of (seen_with seen one) others ≡ rest_of seen (one ∷ others)
rest_with seen one others =
    spread_same _ _ _ _
    (rw (past_least seen one others) (regroup seen.spread.at_least (one.low - seen.least_high) (seen.greatest_low - one.high)
    (greatest_past bounds_least seen others) (greatest_to apart_at_least one others) (greatest_of_pairs apart_at_least others)))
    (rw (past_most seen one others) (regroup seen.spread.at_most (one.high - seen.least_low) (seen.greatest_high - one.low)
    (greatest_past bounds_most seen others) (greatest_to apart_at_most one others) (greatest_of_pairs apart_at_most others)))

abbrev pub spread_seen : Option ClocksSeen → Option Spread
spread_seen seen = option_map (λ (clocks : ClocksSeen). clocks.spread) seen

walked_from : (proxies : List ProxySeen) (seen : ClocksSeen) → spread_seen (walk (Some seen) proxies) ≡ Some (rest_of seen (all_ahead proxies))
walked_from [] seen = ap Some (spread_same _ _ _ _ (sym (max-zero seen.spread.at_least)) (sym (max-zero seen.spread.at_most)))
walked_from (proxy ∷ proxies) seen = go (walked_from proxies) (ahead_of proxy)
  where
    go : ((seen : ClocksSeen) → spread_seen (walk (Some seen) proxies) ≡ Some (rest_of seen (all_ahead proxies)))
        → (ahead : Option Ahead) → spread_seen (walk (next_seen (Some seen) ahead) proxies) ≡ Some (rest_of seen (option_to_list ahead ++ all_ahead proxies))
    go more None = more seen
    go more (Some one) = more (seen_with seen one) ∙ ap Some (rest_with seen one (all_ahead proxies))

first_least : (one : Ahead) (others : List Ahead) → greatest_past bounds_least (first_seen one) others ≡ greatest_to apart_at_least one others
first_least one [] = refl
first_least one (other ∷ others) = rw (first_least one others) refl

first_most : (one : Ahead) (others : List Ahead) → greatest_past bounds_most (first_seen one) others ≡ greatest_to apart_at_most one others
first_most one [] = refl
first_most one (other ∷ others) = rw (first_most one others) refl

rest_first : (one : Ahead) (others : List Ahead) → Some (rest_of (first_seen one) others) ≡ spread_in (one ∷ others)
rest_first one others = ap Some (spread_same _ _ _ _
    (rw (first_least one others) (zero-max (greatest_of_pairs apart_at_least (one ∷ others))))
    (rw (first_most one others) (zero-max (greatest_of_pairs apart_at_most (one ∷ others)))))

pub walked : (proxies : List ProxySeen) → spread_seen (walk None proxies) ≡ spread_in (all_ahead proxies)
walked [] = refl
walked (proxy ∷ proxies) = go (walked proxies) (ahead_of proxy)
  where
    go : spread_seen (walk None proxies) ≡ spread_in (all_ahead proxies) → (ahead : Option Ahead) → spread_seen (walk (next_seen None ahead) proxies) ≡ spread_in (option_to_list ahead ++ all_ahead proxies)
    go more None = more
    go more (Some one) = walked_from proxies (first_seen one) ∙ rest_first one (all_ahead proxies)

pub spread_walked : (proxies : List ProxySeen) (seen : Option ClocksSeen) → seen ≡ walk None proxies → spread_seen seen ≡ spread_in (all_ahead proxies)
spread_walked proxies seen e = rw e (walked proxies)
