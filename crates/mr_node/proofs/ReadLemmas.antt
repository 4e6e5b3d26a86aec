-- The room that reads are offered.
use Rattle.std.proofs.Common.{◌≡◌, ℕ, ◌≤◌, Option, Some, None, sym, subst, arith}
use Rattle.mr_text.specs.Source.{AreOffered, least_with}

-- one more read is offered as much
pub still_offered : (least room : ℕ) (old new : Option ℕ) → least ≤ room → AreOffered least old → new ≡ least_with old room → AreOffered least new
still_offered least room None new enough before is = subst (AreOffered least) (sym is) enough
still_offered least room (Some some) new enough before is = subst (AreOffered least) (sym is) (omega (arith, before, enough))
