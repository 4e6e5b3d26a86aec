use Rattle.std.proofs.Common.{◌≡◌, ◌∙◌, sym, ap, ℕ, ◌==◌, eqb, Bool, false, map, length, take, arith, w8}
use Rattle.std.proofs.lemmas.Bool.{cond-false, ne_eqb}
use Rattle.std.proofs.lemmas.List.{length-take-le}
use Rattle.std.proofs.lemmas.Simd.{bitmask_splat, first_set_mask_l}
use lib.Count.{count_trailing_zeros}
use lib.Lanes.{mask_l}
use Rattle.mr_lines.proofs.lines.run_before.Goals as goal

pub returns-else-found-eq0 : goal.returns-else-found-eq0
returns-else-found-eq0 c =
    let xs = take 16 c.args.bytes.now in
    let p : ℕ → Bool = λ byte. byte == c.args.wanted in
    let long : length xs ≡ 16 = length-take-le 16 c.args.bytes.now c.requires in
    let mask = bitmask_splat w8 (λ (a b : ℕ). a == b) xs 16 c.args.wanted long (omega arith) in
    let some : eqb (mask_l (map p xs)) 0 ≡ false = ne_eqb (mask_l (map p xs)) 0 (λ z. c.if-found-eq0.false (mask ∙ z)) in
    ap (count_trailing_zeros 64) mask ∙ sym (cond-false _ _ _ some) ∙ first_set_mask_l p xs 16 long (omega arith)
