use Rattle.std.proofs.Common.{◌≡◌, ◌∙◌, ◌<◌, length, get_or, refl, sym, ap, arith}
use Rattle.std.specs.HashMap.{get}
use Rattle.std.specs.Option.{option_copied}
use Rattle.std.proofs.lemmas.List.{get_or_read}
use Rattle.std.proofs.lemmas.Option.{slice_get_past}
use Rattle.mr_proxy.specs.steps.Outstanding.{is_equal, named, listed}
use Rattle.mr_proxy.proofs.OutstandingLemmas.{listed_at, length_listed, past}
use Rattle.mr_proxy.proofs.outstanding.Outstanding.at.Goals as goal

pub returns-in_err-number : goal.returns-in_err-number
returns-in_err-number c =
    let find = get is_equal c.self.inside.pendings in
    let numbers = c.self.inside.numbers.items in
    let count = length_listed c.self.inside.proxy c.self.inside.incarnation find numbers c.self.invariant.found in
    let same = c.self.inside.numbers.ok.0 in
    let beyond = past c.args.place c.self.inside.numbers.len c.in_err-number.ensures.variant.1 in
    rw (← c.self.view_is)
    (ap option_copied c.from_residual.ensures
    ∙ sym (slice_get_past (listed find c.self.inside.proxy c.self.inside.incarnation numbers) c.args.place (omega arith)))

pub returns : goal.returns
returns c =
    let find = get is_equal c.self.inside.pendings in
    let numbers = c.self.inside.numbers.items in
    let same = c.self.inside.numbers.ok.0 in
    let inside = c.in_ok-number.ensures.variant.0 refl in
    let below : c.args.place < length numbers = omega arith in
    let number = get_or_read numbers c.args.place c.in_ok-number.field-0.now below c.in_ok-number.ensures.lookup 0 in
    let op : c.op.result ≡ named c.self.inside.proxy c.self.inside.incarnation (get_or numbers c.args.place 0) =
    c.op.ensures ∙ ap (λ v. named v.proxy v.incarnation c.in_ok-number.field-0.now) (sym c.self.view_is)
    ∙ ap (named c.self.inside.proxy c.self.inside.incarnation) number in
    rw (← c.self.view_is)
    (c.get-2.ensures.value ∙ ap find op
    ∙ sym (listed_at c.self.inside.proxy c.self.inside.incarnation find numbers c.args.place c.self.invariant.found below))
