use Rattle.std.proofs.Common.{◌≡◌, ◌++◌, take}
use Rattle.mr_text.proofs.devices.counting.roll.GhostBytes.extend.Given as goal

-- the bytes so far are added
abbrev pub invariant-loop-byte : goal.invariant-loop-byte
invariant-loop-byte l = l.self ≡ l.initial.self ++ take l.byte-index l.bytes
