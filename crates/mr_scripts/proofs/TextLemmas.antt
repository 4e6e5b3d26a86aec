-- Texts that were looked at, and what they make.
use Rattle.std.proofs.Common.{◌≡◌, rules, Ok}
use Rattle.std.specs.Str.{chars}
use Rattle.mr_text.specs.Key.{IsKey}
use Rattle.mr_text.proofs.Keys.{key_test-true}
use Rattle.mr_pools.specs.NodeName.{IsNodeName}
use Rattle.mr_configs.specs.Fields.{Text}
use Rattle.mr_scripts.specs.Texts.{key_of_text, node_name_of_text}
use Rattle.mr_configs.proofs.PoolLemmas.{name_made}

pub key_made : (text : Text) → key_of_text text ≡ Ok (chars text) → IsKey (chars text)
key_made text e = key_test-true (chars text) (search (rules, e))

pub node_name_made : (text : Text) → node_name_of_text text ≡ Ok text → IsNodeName text
node_name_made text e = name_made text (search (rules, e))
