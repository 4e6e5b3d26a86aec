use Rattle.std.proofs.Common.{◌≡◌, ◌∙◌, true, false, length, get_or, refl, sym, ap, subst, arith}
use Rattle.mr_world.specs.declared.setup.HeldItem.{HeldItem}
use Rattle.mr_world.specs.Terms.{is_among}
use Rattle.mr_world.proofs.NetworkLemmas.{each_more}
use Rattle.mr_world.proofs.TermLemmas.{is_told, empty_if_none, told_if_some}
use Rattle.mr_world.proofs.terms.is_new_empty.Goals as goal

pub returns-then-contains : goal.returns-then-contains
returns-then-contains c =
    let setup = c.args.setup.now in
    let item = c.item-item.result in
    let held = c.held-item-items.ensures in
    let read = subst (λ l. item ≡ get_or l c.loop-item.item-index item) held c.item-item.is in
    let count = ap length held in
    let below = c.loop-item-test.true in
    let names = c.in_ok-names.ensures item.node ∙ ap (λ proxies. is_told proxies item) c.proxies.ensures in
    let looked = c.contains.ensures in
    let told : is_told setup.proxies item ≡ true = sym names ∙ ap (is_among c.in_ok-names.names) (sym c.as_str.ensures) ∙ sym looked ∙ c.if-contains.true in (
      λ claimed. let both : false ≡ true = claimed in cc,
      λ empty. absurd (told_if_some setup c.loop-item.item-index item (omega arith) read told empty),
    )

pub loop-item-preserved : goal.loop-item-preserved
loop-item-preserved c =
    let setup = c.args.setup.now in
    let item = c.item-item.result in
    let held = c.held-item-items.ensures in
    let read = subst (λ l. item ≡ get_or l c.loop-item.item-index item) held c.item-item.is in
    let count = ap length held in
    let below = c.loop-item-test.true in
    let names = c.in_ok-names.ensures item.node ∙ ap (λ proxies. is_told proxies item) c.proxies.ensures in
    let looked = c.contains.ensures in
    let told : is_told setup.proxies item ≡ false = sym names ∙ ap (is_among c.in_ok-names.names) (sym c.as_str.ensures) ∙ sym looked ∙ c.if-contains.false in
    each_more (λ (item : HeldItem). is_told setup.proxies item ≡ false) setup.held c.loop-item.item-index item c.loop-item.invariant read (omega arith) told

pub returns : goal.returns
returns c = (
  λ _.
      let count = ap length c.held-item-items.ensures in
      let past = c.loop-item-test.false in
      empty_if_none c.args.setup.now (λ k d below. c.loop-item.invariant k d (omega arith)),
  λ _. refl,
)
