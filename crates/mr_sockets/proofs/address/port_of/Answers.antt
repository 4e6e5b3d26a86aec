use Rattle.std.proofs.Common.{refl, inl, inr}
use Rattle.mr_sockets.proofs.PortLemmas.{no_sign, no_zero, written, not_written}
use Rattle.mr_sockets.proofs.address.port_of.Goals as goal

pub returns-then-not-begins_plainly : goal.returns-then-not-begins_plainly
returns-then-not-begins_plainly c = λ port small. elim (c.if-not-begins_plainly.ensures.others refl) [
  | inl plus ↦ no_sign c.args.digits.now port small plus
  | inr zero ↦ no_zero c.args.digits.now port small zero.0 zero.1
]

pub returns-in-Ok : goal.returns-in-Ok
returns-in-Ok c =
    let plainly = c.if-not-begins_plainly.ensures in
    written c.args.digits.now c.in-Ok.port c.in-Ok.ensures.value.0 (plainly.sign refl) (plainly.zero refl)

pub returns-in-Err : goal.returns-in-Err
returns-in-Err c = not_written c.args.digits.now c.in-Err.ensures.value.0 (c.if-not-begins_plainly.ensures.sign refl)
