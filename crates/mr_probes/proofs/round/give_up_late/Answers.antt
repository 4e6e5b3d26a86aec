use Rattle.std.proofs.Common.{◌≡◌, ◌∙◌, ◌+◌, ℕ, List, ◌∷◌, [], ◌++◌, length, refl, sym, ap, subst, arith}
use Rattle.std.specs.List.{range_with_len}
use Rattle.mr_probes.specs.CanaryView.{GivesUpThrough, canary_of}
use Rattle.mr_probes.proofs.RoundLemmas.{given_up_more, range_more}
use Rattle.mr_probes.proofs.round.give_up_late.Goals as goal

pub loop-place-init : goal.loop-place-init
loop-place-init c course is = refl

pub loop-place-preserved : goal.loop-place-preserved
loop-place-preserved c course is =
    let place = c.loop-place.place in
    let old = canary_of c.args.clients.now c.args.notebook.now course in
    let mid = canary_of c.loop-place.clients c.loop-place.notebook course in
    let new = canary_of c.give_up_at.new.clients c.give_up_at.new.notebook course in
    let more = given_up_more c.args.now (range_with_len 0 place) place old mid new (c.loop-place.invariant course is) (c.give_up_at.ensures course is) in
    let z : 0 + place ≡ place = omega arith in
    subst (λ (places : List ℕ). GivesUpThrough c.args.now places old new) (sym (range_more 0 place ∙ ap (λ (x : ℕ). range_with_len 0 place ++ x ∷ []) z)) more

pub returns : goal.returns
returns c course is =
    let end : c.loop-place.place ≡ length c.args.clients.now = omega arith in
    subst (λ (n : ℕ). GivesUpThrough c.args.now (range_with_len 0 n) (canary_of c.args.clients.now c.args.notebook.now course) (canary_of c.loop-place.clients c.loop-place.notebook course)) end
    (c.loop-place.invariant course is)
