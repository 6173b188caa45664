use Rattle.std.proofs.Common.{◌≡◌, List, [], ◌∷◌, ◌++◌, vec_items, ap, ◌∙◌, append_assoc, rules}
use Rattle.expression.specs.declared.nodes.Node.{Node}
use Rattle.expression.specs.declared.nodes.Node.TheVariants as node
use Rattle.compile.specs.declared.filter.FilterLeaf.{FilterLeaf}
use Rattle.compile.proofs.lowering.lower_operator.Goals as goal

pub returns-in-Difference : goal.returns-in-Difference
returns-in-Difference c =
    let two : vec_items c.push_reserved-in-Difference-2.new.self ≡ vec_items c.args.nodes.now ++ (node.Not ∷ (node.And ∷ [])) =
    c.push_reserved-in-Difference-2.ensures.items ∙ ap (λ (z : List (Node FilterLeaf)). z ++ (node.And ∷ [])) c.push_reserved-in-Difference.ensures.items ∙ append_assoc (vec_items c.args.nodes.now) (node.Not ∷ []) (node.And ∷ []) in
    search rules
