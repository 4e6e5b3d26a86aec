-- Where a byte is, among bytes of which the front was looked over.
use Rattle.std.proofs.Common.{◌≡◌, ℕ, zero, suc, ◌+◌, ◌==◌, Bool, true, false, List, [], ◌∷◌, Option, Some, None, length, take, drop, refl, ap, sym, arith, option_map, unwrap_or, if◌then◌else◌}
use Rattle.std.proofs.lemmas.List.{take_all}
use Rattle.mr_lines.specs.Lines.{byte_place}
use Rattle.mr_lines.proofs.ByteLemmas.{place_splits}
use Rattle.mr_text.specs.steps.StreamView.{IsScanned}

behind_none : (r : Option ℕ) → r ≡ option_map (λ place. 0 + place) r
behind_none None = refl
behind_none (Some k) = ap Some (let e : k ≡ 0 + k = omega arith in e)

one_more : (n : ℕ) (r s : Option ℕ) → r ≡ option_map (λ place. n + place) s → option_map (λ place. place + 1) r ≡ option_map (λ place. suc n + place) s
one_more n r None e = rw e refl
one_more n r (Some k) e = rw e (ap Some (let f : n + k + 1 ≡ suc n + k = omega arith in f))

not_here : (r : Option ℕ) → option_map (λ place. place + 1) r ≡ None → r ≡ None
not_here None e = refl
not_here (Some k) e = cc

-- where the front doesn't have it, it is looked for behind the front
pub place_from : (wanted n : ℕ) (bytes : List ℕ) → byte_place wanted (take n bytes) ≡ None
    → byte_place wanted bytes ≡ option_map (λ place. n + place) (byte_place wanted (drop n bytes))
place_from wanted zero bytes none = behind_none (byte_place wanted bytes)
place_from wanted (suc n) [] none = refl
place_from wanted (suc n) (b ∷ bs) none = go (b == wanted) (place_from wanted n bs) none
  where
    go : (t : Bool) → (byte_place wanted (take n bs) ≡ None → byte_place wanted bs ≡ option_map (λ place. n + place) (byte_place wanted (drop n bs)))
        → (if t then Some 0 else option_map (λ place. place + 1) (byte_place wanted (take n bs))) ≡ None
        → (if t then Some 0 else option_map (λ place. place + 1) (byte_place wanted bs)) ≡ option_map (λ place. suc n + place) (byte_place wanted (drop n bs))
    go true more e = cc
    go false more e = one_more n (byte_place wanted bs) (byte_place wanted (drop n bs)) (more (not_here (byte_place wanted (take n bs)) e))

-- no line ends before the first end, or before the end of the bytes where none is there
pub scanned_to : (bytes : List ℕ) (r : Option ℕ) → r ≡ byte_place 10 bytes → IsScanned bytes (unwrap_or r (length bytes))
scanned_to bytes None e = record { within = omega arith; none = rw (take_all (length bytes) bytes (omega arith)) (sym e) }
scanned_to bytes (Some place) e = let at = place_splits 10 bytes place (sym e) in record { within = let w = at.within in omega arith; none = at.before }
