use Rattle.std.proofs.Common.{refl, ◌∙◌, rules}
use Rattle.std.proofs.lemmas.Result.{err_from_is_err_and}
use Rattle.parsing.specs.Reading.{◌⨾◌, done, or_at, end_at, filter_at}
use Rattle.parsing.specs.View.{view}
use Rattle.parsing.proofs.Runs.{got-then, got-stop, got-done, got_same, re-at}
use Rattle.parsing.proofs.Trees.{grown, halted, tree-ok, tree-err}
use Rattle.parsing.proofs.Sets.{same_nodes}
use Rattle.parsing.proofs.cursor.Cursor.parse_filter.Goals as goal

pub returns-in_err-parse_expr : goal.returns-in_err-parse_expr
unfolding filter_at
returns-in_err-parse_expr c =
    let f = err_from_is_err_and c.from_residual.result c.from_residual.ensures.1 in
    let s = c.args.self.now in
    let text = s.text.now in
    record {
      read = rw (f.1, f.2) (tree-err filter_at (got-stop (or_at text 32) (λ x. end_at text ⨾ (λ _. done x)) (halted s c.parse_expr.new.self (λ x. or_at x 32) refl c.in_err-parse_expr.ensures.read)));
      cap = c.in_err-parse_expr.ensures.moved.cap;
    }

pub returns : goal.returns
unfolding filter_at
returns c =
    let s = c.args.self.now in
    let text = s.text.now in
    let h = c.in_ok-parse_expr.ensures in
    let g = grown (λ x. or_at x 32) refl h.read in
    let e = got_same (re-at (view c.parse_expr.new.self) end_at h.moved.text c.parse_end.ensures.ran) in
    record {
      read = tree-ok filter_at (got-then (or_at text 32) (λ x. end_at text ⨾ (λ _. done x)) g.got (got-then (end_at text) (λ _. done g.tree) e (got-done (view c.parse_end.new.self) g.tree))) (same_nodes c.parse_end.ensures.kept ∙ g.nodes);
      cap = search rules;
    }
