use Rattle.std.proofs.Common.{◌≡◌, ◌∙◌, ℕ, List, [], ◌∷◌, ◌++◌, Some, None, cond, bytes_eq, position, length, sym, ap, subst, arith}
use Rattle.std.specs.BTreeMap.{get_by_text}
use Rattle.std.specs.String.{string_bytes}
use Rattle.std.proofs.lemmas.Map.Text.{btree_map_updates_text}
use Rattle.mr_world.specs.declared.node.Node.{Node}
use Rattle.mr_world.specs.Nodes.{KnowsNumbers}
use Rattle.mr_world.specs.Positions.{node_number}
use Rattle.mr_world.proofs.NodeLemmas.{missing, knows_pushed}
use Rattle.mr_world.proofs.nodes.Nodes.add.Goals as goal

pub invariant_of-self-2 : goal.invariant_of-self-2
invariant_of-self-2 c =
    let nodes = c.self.inside.nodes.items in
    let node = c.in_ok-node.node in
    let named : node.name ≡ c.args.name.now = ap (λ (n : Node). n.name) c.in_ok-node.ensures in
    let text : string_bytes c.in_ok-text.text ≡ node.name = c.in_ok-text.ensures.ok ∙ c.as_str.ensures ∙ sym named in
    let number : c.len-number.result ≡ length nodes = (let count = c.len-number.ensures in let sized = c.self.inside.nodes.ok.0 in omega arith) in
    let at : c.number_of.result ≡ node_number nodes node.name =
    c.number_of.ensures ∙ ap (λ l. node_number l c.args.name.now) (sym c.self.view_is) ∙ ap (node_number nodes) (sym named) in
    let count : c.len.result ≡ length nodes = c.len.ensures ∙ ap length (sym c.self.view_is) in
    let past = c.if-number_of-len.false in
    let none : position (λ other. bytes_eq other.name node.name) nodes ≡ None = missing nodes node.name (λ there. absurd (omega arith)) in
    let updated = btree_map_updates_text (string_bytes c.in_ok-text.text) c.self.inside.numbers c.insert.new.self _ c.in_ok-insert.ensures.updates in
    let changes : (name : List ℕ) → get_by_text c.insert.new.self name ≡ cond (bytes_eq node.name name) (Some (length nodes)) (get_by_text c.self.inside.numbers name) =
    (λ name. updated name ∙ ap (λ bytes. cond (bytes_eq bytes name) (Some c.len-number.result) (get_by_text c.self.inside.numbers name)) text
    ∙ ap (λ (n : ℕ). cond (bytes_eq node.name name) (Some n) (get_by_text c.self.inside.numbers name)) number) in
    let items : c.push_reserved.new.self.items ≡ nodes ++ node ∷ [] = c.push_reserved.ensures.items ∙ ap (λ l. l ++ node ∷ []) c.in_ok-reserve.ensures.items in
    subst (KnowsNumbers c.insert.new.self) (sym items) (knows_pushed c.self.inside.numbers c.insert.new.self nodes node c.self.invariant none changes)
