-- What a loop asks of a cache.
use Rattle.std.specs.Prelude.{◌≡◌, ℕ}
use Rattle.mr_text.specs.declared.cause.Cause.TheVariants.{ClockFault}
use Rattle.mr_text.specs.declared.reply.Reply.{Reply}
use Rattle.mr_text.specs.declared.reply.Reply.TheVariants.{ServerError}
use Rattle.mr_text.specs.declared.request.Request.{Request}

-- what a request comes to: the cache before it, the reading of the clock, the request, its outcome, and the cache after it
abbrev pub Does : Type 0 → Type 1
Does C = C → ℕ → Request → Reply → C → Type 0

-- the clock gives no reading: nothing is done, and a request comes to just that
abbrev pub clock_fails : {C : Type 0} → Does C
clock_fails old reading request outcome new = (outcome ≡ ServerError ClockFault) × (new ≡ old)
