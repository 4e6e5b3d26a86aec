use Rattle.std.proofs.Common.{◌≡◌, ◌<◌, List, ◌∷◌, [], ◌++◌, length, get_or, ap, ◌∙◌, arith}
use Rattle.std.proofs.lemmas.Option.{slice_get-get_or}
use Rattle.mr_loop.specs.declared.link.Link.{Link}
use Rattle.mr_loop.specs.declared.sending.Mark.{Mark}
use Rattle.mr_loop.specs.steps.Sending.{mark_of}
use Rattle.mr_loop.proofs.PlaceLemmas.{get_any}
use Rattle.mr_loop.proofs.SentLemmas.{went_back}
use Rattle.mr_loop.proofs.sending.send_leg.Goals as goal

pub returns-clause-marked : goal.returns-clause-marked
returns-clause-marked c =
    let within : c.args.number < length c.args.links.now = omega arith in
    let old : Link = get_or c.args.links.now c.args.number c.index-links-number-2.result in
    let any = get_any c.args.links.now c.args.number c.index-links-number.result c.index-links-number-2.result within in
    let is : c.mark_of-mark.result ≡ mark_of c.args.number old = c.mark_of-mark.ensures ∙ ap (λ (l : Link). mark_of c.args.number l) any in
    let more : c.push_reserved.new.self.items ≡ c.args.scratch.now.marks.items ++ c.mark_of-mark.result ∷ [] =
    c.push_reserved.ensures.items ∙ ap (λ (m : List Mark). m ++ c.mark_of-mark.result ∷ []) c.in_ok-reserve.ensures.items in
    went_back c.args.links.now c.args.number c.mark_of-mark.result old c.carry.new.self c.args.sent
    c.args.scratch.now.marks.items c.push_reserved.new.self.items
    (slice_get-get_or c.args.links.now c.args.number c.index-links-number-2.result within) c.in_ok-went.ensures.carried is more
