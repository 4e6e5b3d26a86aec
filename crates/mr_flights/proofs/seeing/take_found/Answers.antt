use Rattle.std.proofs.Common.{arith, ◌≡◌, ◌∙◌, List, ap, drop, refl, subst, sym}
use Rattle.mr_flights.proofs.SeeingLemmas.{convicted_more, taken_all, taken_more, taken_most, with_found}
use Rattle.mr_probes.specs.CanaryView.{CanaryView}
use Rattle.mr_probes.specs.declared.notebook.Found.{Found}
use Rattle.mr_canary.specs.Notes.{Tells}
use Rattle.mr_canary.specs.declared.note.Note.{Note}
use Rattle.mr_flights.specs.Seeing.{AreConvicted}
use Rattle.mr_flights.proofs.seeing.take_found.Goals as goal

pub loop-number-preserved : goal.loop-number-preserved
loop-number-preserved c =
    let old : CanaryView = c.args.canary.now in
    let left : List Found = c.loop-number.canary.notebook.found in
    let rest : List Found = drop 1 left in
    let taken : c.take_conviction.new.self ≡ with_found rest c.loop-number.canary = c.in-Some.ensures.taken in
    let dropped : c.take_conviction.new.self.notebook.found ≡ rest = ap (λ (v : CanaryView). v.notebook.found) taken in
    let pushed = c.in_ok-push-in-Some.ensures.items in
    let tells = subst (λ (notes : List Note). Tells notes c.in-Some.found.conviction)
    (ap (λ (v : CanaryView). v.notebook.judge.notes) c.loop-number.invariant.same) c.in-Some.ensures.told in
    record {
      split = taken_more old.notebook.found c.loop-number.all.items left c.push.new.self.items c.take_conviction.new.self.notebook.found c.in-Some.found
          c.loop-number.number c.loop-number.invariant.split c.in-Some.ensures.first dropped pushed;
      convicted = convicted_more old c.loop-number.all.items c.push.new.self.items c.in-Some.found c.loop-number.invariant.convicted tells pushed;
      same = taken ∙ ap (with_found rest) c.loop-number.invariant.same ∙ ap (λ (f : List Found). with_found f old) (sym dropped);
    }

pub returns-in-None : goal.returns-in-None
returns-in-None c =
    let old : CanaryView = c.args.canary.now in
    let left : List Found = c.loop-number.canary.notebook.found in
    let rest : List Found = drop 1 left in
    let is = taken_all old.notebook.found c.loop-number.all.items left rest c.loop-number.number 64 c.loop-number.invariant.split
    (sym c.in-None.is ∙ c.take_conviction.ensures.first) refl c.loop-number.auto.number-end in (
      is.taken_is,
      c.take_conviction.ensures.taken ∙ (ap (with_found rest) c.loop-number.invariant.same ∙ ap (λ (f : List Found). with_found f old) is.left_is),
      subst (AreConvicted old) is.taken_is c.loop-number.invariant.convicted,
    )

pub returns : goal.returns
returns c =
    let old : CanaryView = c.args.canary.now in
    let all : c.loop-number.number ≡ 64 = omega arith in
    let is = taken_most old.notebook.found c.loop-number.all.items c.loop-number.canary.notebook.found c.loop-number.number 64 c.loop-number.invariant.split all in (
      is.taken_is,
      c.loop-number.invariant.same ∙ ap (λ (f : List Found). with_found f old) is.left_is,
      subst (AreConvicted old) is.taken_is c.loop-number.invariant.convicted,
    )
