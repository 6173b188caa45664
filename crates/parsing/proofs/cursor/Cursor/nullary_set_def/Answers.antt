use Rattle.std.proofs.Common.{◌≡◌, List, [], ◌∷◌, ◌++◌, sym, ap, ◌∙◌, rules}
use Rattle.errors.specs.declared.reports.ReportKind.TheVariants.{ExpectedCloseParenthesis}
use Rattle.parsing.specs.declared.nodes.ParsedLeaf.{ParsedLeaf}
use Rattle.parsing.specs.declared.nodes.ParsedNode.{ParsedNode}
use Rattle.parsing.specs.declared.nodes.ParsedNode.TheVariants as node
use Rattle.parsing.specs.Grammar.{between}
use Rattle.parsing.specs.Nodes.{nodes_of}
use Rattle.parsing.specs.Reading.{expect, nothing_at, nullary_at, nullary_leaf}
use Rattle.parsing.specs.View.{view, held}
use Rattle.parsing.proofs.Runs.{got_same, re-at}
use Rattle.parsing.proofs.Moves.{kept_then}
use Rattle.parsing.proofs.Trees.{tree-ok}
use Rattle.parsing.proofs.Sets.{same_text, same_nodes, nullary-got}
use Rattle.parsing.specs.declared.words.Nullary.{Nullary}
use Rattle.parsing.proofs.cursor.Cursor.nullary_set_def.Goals as goal
use Rattle.parsing.proofs.cursor.Cursor.nullary_set_def.Goals.{in-Default, in-All, in-None}

pub returns : goal.returns
returns c =
    let s = c.args.self.now in
    let t = s.text.now in
    let k1 = c.expect_char.ensures.kept in
    let k2 = kept_then k1 c.take_nothing.ensures.kept in
    let k3 = kept_then k2 c.expect_char-2.ensures.kept in
    let got = nullary-got t c.args.set c.args.start (got_same c.expect_char.ensures.ran) (got_same (re-at (view c.expect_char.new.self) nothing_at (same_text k1) c.take_nothing.ensures.ran))
    (got_same (re-at (view c.take_nothing.new.self) (λ x. expect x 41 ExpectedCloseParenthesis) (same_text k2) c.expect_char-2.ensures.ran)) in
    let at = between c.args.start c.expect_char-2.new.self.pos in
    let of : Nullary → List ParsedNode = λ x. nodes_of (nullary_leaf x at) in
    let one : ParsedLeaf → List ParsedNode = λ l. node.Set l ∷ [] in
    let leaf : one c.match-set.leaf ≡ of c.args.set = elim c.match-set.branch [
      | in-Default w ↦ ap one w.leaf-is ∙ ap of (sym w.in-Default.is)
      | in-All w ↦ ap one w.leaf-is ∙ ap of (sym w.in-All.is)
      | in-None w ↦ ap one w.leaf-is ∙ ap of (sym w.in-None.is)
    ] in
    record {
      read = tree-ok (λ x. nullary_at x c.args.set c.args.start) got (c.push_reserved.ensures.items ∙ ap (λ (l : List ParsedNode). l ++ one c.match-set.leaf) (same_nodes k3) ∙ ap (λ (l : List ParsedNode). held s ++ l) leaf);
      moved = search rules;
    }
