-- What it says that all proxies have one configuration.
use Rattle.std.proofs.Common.{◌≡◌, ℕ, ◌||◌, not, Bool, true, false, List, [], ◌∷◌, Option, Some, None, All, refl, arith}
use Rattle.std.proofs.lemmas.List.Elements.{All-cons}
use Rattle.std.proofs.lemmas.Slice.Eq.{bytes_eq-Decides}
use Rattle.std.specs.List.{list_any}
use Rattle.std.specs.Str.{bytes_eq}
use Rattle.mr_watch.specs.Finding.{finding_after}
use Rattle.mr_watch.specs.Laws.{TellsOnly}
use Rattle.mr_watch.specs.Premises.{has_told, is_other_digest, tells_other, same_after}
use Rattle.mr_watch.specs.declared.finding.Finding.{Finding}
use Rattle.mr_watch.specs.declared.finding.Finding.TheVariants.{Unseen, Holds, Broken}
use Rattle.mr_watch.specs.declared.look.ProxySeen.{ProxySeen}
use Rattle.mr_watch.specs.declared.told.ProxyTold.{ProxyTold}

or_false : (a b : Bool) → (a || b) ≡ false → (a ≡ false) × (b ≡ false)
or_false true b e = cc
or_false false b e = (refl, e)

not_false : (b : Bool) → not b ≡ false → b ≡ true
not_false true e = refl
not_false false e = cc

digest_is : (expected : List ℕ) (told : Option ProxyTold) → is_other_digest expected told ≡ false → (one : ProxyTold) → told ≡ Some one → one.digest.now ≡ expected
digest_is expected None e one is = cc
digest_is expected (Some told) e one is =
    let same : told.digest.now ≡ expected = (bytes_eq-Decides told.digest.now expected).0 (not_false (bytes_eq told.digest.now expected) e) in
    let one_is : told ≡ one = cc in
    rw (← one_is) same

each_tells : (expected : List ℕ) (proxies : List ProxySeen) → list_any (tells_other expected) proxies ≡ false → All (TellsOnly expected) proxies
each_tells expected [] e = λ k d h. absurd (omega arith)
each_tells expected (proxy ∷ proxies) e =
    let parts = or_false (tells_other expected proxy) (list_any (tells_other expected) proxies) e in
    All-cons (TellsOnly expected) proxy proxies (digest_is expected proxy.told parts.0) (each_tells expected proxies parts.1)

not_broken : (before : Finding) (broken holds : Bool) → finding_after before broken holds ≡ Holds → broken ≡ false
not_broken before false holds e = refl
not_broken Unseen true holds e = cc
not_broken Holds true holds e = cc
not_broken Broken true holds e = cc

pub same_told : (before : Finding) (expected : List ℕ) (proxies : List ProxySeen) → same_after before expected proxies ≡ Holds → All (TellsOnly expected) proxies
same_told before expected proxies e =
    each_tells expected proxies (not_broken before (list_any (tells_other expected) proxies) (list_any has_told proxies) e)
