use Rattle.std.proofs.Common.{rules, ◌≡◌, [], None, sym, ap, ◌∙◌, subst, ◌∷◌, reverse, MatchOption, List}
use Rattle.mr_text.specs.declared.item.Item.{Item}
use Rattle.mr_text.specs.steps.ItemPlace.{items_at}
use Rattle.mr_text.proofs.Reversed.{first_of_reversed}
use Rattle.mr_text.proofs.item_list.ItemList.into_reversed.Goals as goal

pub returns-in-Many : goal.returns-in-Many
returns-in-Many c =
    let none : c.pop-first.result ≡ None → c.reverse.new.self.items ≡ [] = search rules in
    let self : c.in-Many.items.items ≡ c.args.self = sym (sym c.self.view_is ∙ ap (λ p. items_at p) c.in-Many.is) in
    let P : List Item → Type 0 = λ l. MatchOption c.pop-first.result (l ≡ []) (λ x. l ≡ x ∷ reverse c.pop-first.new.self.items) in
    subst P self (first_of_reversed c.in-Many.items.items c.reverse.new.self.items c.pop-first.new.self.items c.pop-first.result
    c.reverse.ensures.items c.pop-first.ensures.items none)
