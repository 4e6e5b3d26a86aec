use Rattle.std.proofs.Common.{◌≡◌, take}
use Rattle.mr_text.proofs.key_list.same_keys.Given as goal

-- those before are equal
abbrev pub invariant-loop-place : goal.invariant-loop-place
invariant-loop-place l = take l.place l.keys ≡ take l.place l.others
