use Rattle.mr_text.proofs.CanonicalReplies.{canonical_spells_reply}
use Rattle.mr_text.proofs.laws.canonical_reply_is_read.Goals as goal

pub returns : goal.returns
returns c = canonical_spells_reply
