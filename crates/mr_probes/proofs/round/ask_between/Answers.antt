use Rattle.std.proofs.Common.{◌≡◌, ◌∙◌, ◌+◌, ◌-◌, ℕ, List, ◌∷◌, [], ◌++◌, refl, sym, ap, subst, arith}
use Rattle.std.specs.List.{range_with_len}
use Rattle.mr_probes.specs.CanaryView.{AsksThrough, canary_of}
use Rattle.mr_probes.proofs.RoundLemmas.{asked_more, asked_or_not, range_more}
use Rattle.mr_probes.proofs.round.ask_between.Goals as goal

pub loop-place-init : goal.loop-place-init
loop-place-init c =
    let none : c.args.from - c.args.from ≡ 0 = omega arith in
    let start = canary_of c.args.clients.now c.args.notebook.now c.args.course.now in
    subst (λ (n : ℕ). AsksThrough c.args.now (range_with_len c.args.from n) start start) (sym none) refl

pub loop-place-preserved : goal.loop-place-preserved
loop-place-preserved c =
    let place = c.loop-place.place in
    let from = c.args.from in
    let old = canary_of c.args.clients.now c.args.notebook.now c.args.course.now in
    let mid = canary_of c.loop-place.clients c.loop-place.notebook c.loop-place.course in
    let new = canary_of c.ask.new.clients c.ask.new.notebook c.ask.new.course in
    let one = asked_or_not c.ask.result c.args.now place mid new c.ask.ensures in
    let more = asked_more c.args.now (range_with_len from (place - from)) place old mid new c.loop-place.invariant one in
    let at : from + (place - from) ≡ place = omega arith in
    let next : place + 1 - from ≡ place - from + 1 = omega arith in
    let places : range_with_len from (place + 1 - from) ≡ range_with_len from (place - from) ++ place ∷ [] =
    ap (range_with_len from) next ∙ range_more from (place - from) ∙ ap (λ (x : ℕ). range_with_len from (place - from) ++ x ∷ []) at in
    subst (λ (l : List ℕ). AsksThrough c.args.now l old new) (sym places) more

pub returns-clause-asked : goal.returns-clause-asked
returns-clause-asked c =
    let end : c.loop-place.place ≡ c.args.to = omega arith in
    subst (λ (n : ℕ). AsksThrough c.args.now (range_with_len c.args.from (n - c.args.from)) (canary_of c.args.clients.now c.args.notebook.now c.args.course.now)
    (canary_of c.loop-place.clients c.loop-place.notebook c.loop-place.course)) end c.loop-place.invariant
