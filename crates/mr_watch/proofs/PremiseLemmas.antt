-- Whether it is so for some number, number by number.
use Rattle.std.proofs.Common.{◌≡◌, ℕ, ◌+◌, ◌≤◌, ◌||◌, Bool, refl, arith, add-one}
use Rattle.mr_watch.specs.Premises.{any_below}

pub any_below-more : (test : ℕ → Bool) (count : ℕ) (found now : Bool) → found ≡ any_below test count → now ≡ test count
    → (found || now) ≡ any_below test (count + 1)
any_below-more test count found now before here = rw (before, here, add-one) refl

pub any_below-end : (test : ℕ → Bool) (count end : ℕ) (found : Bool) → found ≡ any_below test count → count ≤ end → end ≤ count
    → found ≡ any_below test end
any_below-end test count end found before low high = let same : count ≡ end = omega arith in rw same at before
