use Rattle.mr_text.proofs.CanonicalRequests.{canonical_spells_request}
use Rattle.mr_text.proofs.laws.canonical_request_is_read.Goals as goal

pub returns : goal.returns
returns c = canonical_spells_request
