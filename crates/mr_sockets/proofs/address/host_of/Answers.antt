use Rattle.std.proofs.Common.{◌≡◌, false, subst, codes, rules, inl, inr}
use Rattle.std.specs.Str.{bytes_eq}
use Rattle.mr_sockets.proofs.address.host_of.Goals as goal

pub returns-in-Err : goal.returns-in-Err
returns-in-Err c = λ host is. elim is [
  | inl dotted ↦ c.in-Err.ensures.value host dotted
  | inr local ↦ let no = subst (λ t. false ≡ bytes_eq t (codes "localhost")) local.0 c.if-eq.ensures in search rules
]
