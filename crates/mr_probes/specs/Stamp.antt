-- What the data of a set says.
use Rattle.std.specs.Prelude.{ℕ, ◌^◌, ◌<◌, List, ◌++◌}
use Rattle.mr_probes.specs.Digits.{number_text, word_text}
use Rattle.mr_probes.specs.declared.stamp.Stamp.{Stamp}

-- each number has 64 bits at most
pub record IsStamp (stamp : Stamp) : Type 0 where
  pub run : stamp.run < 2 ^ 64
  pub key : stamp.key < 2 ^ 64
  pub value : stamp.value < 2 ^ 64
  pub client : stamp.client < 2 ^ 64
  pub time : stamp.time < 2 ^ 64

-- the data that says it: the numbers as 16 hexadecimal digits each, with dashes between
unfoldable pub stamp_text : Stamp → List ℕ
stamp_text stamp = word_text stamp.run ++ word_text stamp.key ++ word_text stamp.value ++ word_text stamp.client ++ number_text stamp.time
