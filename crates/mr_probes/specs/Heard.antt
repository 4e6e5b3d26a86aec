-- What the bytes of a reply come to.
use Rattle.std.specs.Prelude.{◌≡◌, ℕ, ◌↔◌, IsTrue, List, []}
use Rattle.mr_text.specs.Replies.{SpellsReply, RefusesReply}
use Rattle.mr_text.specs.Stream.{BeginsWith, IsUnfinished}
use Rattle.mr_text.specs.declared.error.TextError.{TextError}
use Rattle.mr_text.specs.declared.error.TextError.TheVariants.{OutOfMemory}
use Rattle.mr_probes.specs.declared.heard.Coming.{Coming}
use Rattle.mr_probes.specs.declared.heard.Coming.TheVariants.{Part, Whole, Nonsense, NoMemory}

-- what a refusal says of the bytes
abbrev pub coming_of : TextError → Coming
coming_of OutOfMemory = NoMemory
coming_of other = Nonsense

-- the bytes come to this, and these are kept
abbrev pub HearsSo : List ℕ → Coming → List ℕ → Type 0
HearsSo bytes Part kept = IsUnfinished SpellsReply RefusesReply bytes × (kept ≡ bytes)
HearsSo bytes (Whole reply is_all) kept = BeginsWith SpellsReply bytes reply kept × (IsTrue is_all ↔ (kept ≡ []))
HearsSo bytes Nonsense kept = ((refusal : TextError) × RefusesReply refusal bytes) × (kept ≡ [])
HearsSo bytes NoMemory kept = kept ≡ []
