use Rattle.mr_words.proofs.WordLemmas.{hash_named, no_hash_named}
use Rattle.mr_words.proofs.plan_words.hash_in.Goals as goal

pub returns-clause-found : goal.returns-clause-found
returns-clause-found c = hash_named _ _ _ c.in_ok-text_in.ensures c.from_name.ensures.named

pub returns-clause-missing : goal.returns-clause-missing
returns-clause-missing c = no_hash_named _ _ _ c.in_ok-text_in.ensures c.from_name.ensures.unknown
