use Rattle.std.proofs.Common.{rules, ◌≡◌, ◌+◌, ◌∷◌, is_some, map, drop, sym, ap, ◌∙◌}
use Rattle.mr_proxy.specs.NodeReplies.{dealt}
use Rattle.mr_proxy.specs.NodeRequests.{key_of}
use Rattle.mr_proxy.proofs.DealingLemmas.{some_left, one_dropped, all_left}
use Rattle.mr_proxy.proofs.asking.are_dealt.Goals as goal

pub loop-other-init : goal.loop-other-init
loop-other-init c = record {
  left = some_left (key_of c.args.leg.now) (map key_of c.args.others.now) c.args.items.now
      ∙ ap (λ l. is_some (dealt (map key_of c.args.others.now) l)) (sym c.next_place-place.ensures.left);
  within = c.next_place-place.ensures.within;
}

pub loop-other-preserved : goal.loop-other-preserved
loop-other-preserved c =
    let i = c.loop-other.invariant in
    let others = drop (c.loop-other.other-index + 1) c.args.others.now in
    let cut : drop c.loop-other.other-index c.args.others.now ≡ c.other-item.result ∷ others =
    one_dropped c.args.others.now c.loop-other.other-index c.other-item.result c.loop-other-test.true (sym c.other-item.is) in
    record {
      left = i.left ∙ ap (λ l. is_some (dealt (map key_of l) (drop c.loop-other.place c.args.items.now))) cut
          ∙ some_left (key_of c.other-item.result) (map key_of others) (drop c.loop-other.place c.args.items.now)
          ∙ ap (λ l. is_some (dealt (map key_of others) l)) (sym c.next_place-place-in-loop-other.ensures.left);
      within = c.next_place-place-in-loop-other.ensures.within;
    }

pub returns : goal.returns
returns c =
    let i = c.loop-other.invariant in
    sym (i.left ∙ all_left c.args.others.now c.args.items.now c.loop-other.other-index c.loop-other.place (search rules) i.within)
