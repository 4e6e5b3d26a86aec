use Rattle.std.proofs.Common.{ap, List, ℕ, Option}
use Rattle.std.specs.Prelude.{unwrap_or}
use Rattle.mr_words.specs.Words.{usual_prefix}
use Rattle.mr_words.proofs.canary_words.prefix_in.Goals as goal

pub returns-in-Some : goal.returns-in-Some
returns-in-Some c = ap (λ (o : Option (List ℕ)). unwrap_or o usual_prefix) c.in-Some.ensures

pub returns-in-None : goal.returns-in-None
returns-in-None c = ap (λ (o : Option (List ℕ)). unwrap_or o usual_prefix) c.in-None.ensures
