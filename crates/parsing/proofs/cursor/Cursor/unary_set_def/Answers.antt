use Rattle.std.proofs.Common.{List, [], ◌∷◌, ◌++◌, Ok, Option, sym, ap, ◌∙◌, subst, append-nil, rules}
use Rattle.errors.specs.declared.reports.ReportKind.TheVariants.{ExpectedCloseParenthesis}
use Rattle.parsing.specs.declared.nodes.NameMatcher.{NameMatcher}
use Rattle.parsing.specs.declared.nodes.ParsedLeaf.TheVariants as parsed
use Rattle.parsing.specs.declared.nodes.ParsedNode.{ParsedNode}
use Rattle.parsing.specs.declared.nodes.ParsedNode.TheVariants as node
use Rattle.parsing.specs.Grammar.{between}
use Rattle.parsing.specs.Reading.{expect, comma_at, argument_at, unary_at}
use Rattle.parsing.specs.View.{view, held, matcher_only}
use Rattle.parsing.proofs.Runs.{got_same, got-by, got-err, re-at}
use Rattle.parsing.proofs.Moves.{kept_then}
use Rattle.parsing.proofs.Trees.{tree-ok, tree-err}
use Rattle.parsing.proofs.Sets.{same_text, same_nodes, closed-got, unary-got, unary-stop, matched-none, matched-some}
use Rattle.std.proofs.lemmas.Result.{err_from_is_err_and}
use Rattle.expression.specs.declared.name_matcher.MatchKind.{MatchKind}
use Rattle.parsing.specs.View.{Ran}
use Rattle.parsing.proofs.cursor.Cursor.unary_set_def.Goals as goal

pub returns-in_err-matcher : goal.returns-in_err-matcher
returns-in_err-matcher c =
    let p = err_from_is_err_and c.from_residual.result c.from_residual.ensures.1 in
    let s = c.args.self.now in
    let t = s.text.now in
    let k1 = c.expect_char.ensures.kept in
    let a = view c.expect_char.new.self in
    let b = view c.set_matcher.new.self in
    let u = c.default_matcher.ensures in
    let g = got-by (ap (λ (k : MatchKind). argument_at t k a.at) u) (got-err matcher_only (re-at a (λ x. argument_at x c.default_matcher.result) (same_text k1) c.in_err-matcher.ensures.ran)) in
    record {
      read = rw (p.1, p.2) (tree-err (λ x. unary_at x c.args.predicate) (unary-stop t c.args.predicate (got_same c.expect_char.ensures.ran) g));
      moved = search rules;
    }

pub returns-in-Some : goal.returns-in-Some
returns-in-Some c =
    let s = c.args.self.now in
    let t = s.text.now in
    let k1 = c.expect_char.ensures.kept in
    let a = view c.expect_char.new.self in
    let b = view c.set_matcher.new.self in
    let u = c.default_matcher.ensures in
    let k2 = kept_then k1 c.set_matcher.ensures.kept in
    let k3 = kept_then k2 c.recover_unexpected_comma.ensures.kept in
    let k4 = kept_then k3 c.expect_char-2.ensures.kept in
    let closed = closed-got t (got_same (re-at b comma_at (same_text k2) c.recover_unexpected_comma.ensures.ran)) (got_same (re-at (view c.recover_unexpected_comma.new.self) (λ x. expect x 41 ExpectedCloseParenthesis) (same_text k3) c.expect_char-2.ensures.ran)) in
    let read = re-at a (λ x. argument_at x c.default_matcher.result) (same_text k1) c.in_ok-matcher.ensures.ran in
    let m = matched-some (subst (λ (x : Option NameMatcher). Ran matcher_only a (argument_at t c.default_matcher.result a.at) b (Ok x)) c.in-Some.is read) in
    let g = got-by (ap (λ (k : MatchKind). argument_at t k a.at) u) m.1 in
    let at = between a.at.pos b.at.pos in
    let one : NameMatcher → List ParsedNode = λ n. node.Set (parsed.Matched c.args.predicate n at) ∷ [] in
    record {
      read = tree-ok (λ x. unary_at x c.args.predicate) (unary-got t c.args.predicate (got_same c.expect_char.ensures.ran) g closed)
          (c.push_reserved.ensures.items ∙ ap (λ (l : List ParsedNode). l ++ one c.in-Some.matcher) (same_nodes k4) ∙ ap (λ (n : NameMatcher). held s ++ one n) m.2);
      moved = search rules;
    }

pub returns-in_default : goal.returns-in_default
returns-in_default c =
    let s = c.args.self.now in
    let t = s.text.now in
    let k1 = c.expect_char.ensures.kept in
    let a = view c.expect_char.new.self in
    let b = view c.set_matcher.new.self in
    let u = c.default_matcher.ensures in
    let k2 = kept_then k1 c.set_matcher.ensures.kept in
    let k3 = kept_then k2 c.recover_unexpected_comma.ensures.kept in
    let k4 = kept_then k3 c.expect_char-2.ensures.kept in
    let closed = closed-got t (got_same (re-at b comma_at (same_text k2) c.recover_unexpected_comma.ensures.ran)) (got_same (re-at (view c.recover_unexpected_comma.new.self) (λ x. expect x 41 ExpectedCloseParenthesis) (same_text k3) c.expect_char-2.ensures.ran)) in
    let read = re-at a (λ x. argument_at x c.default_matcher.result) (same_text k1) c.in_ok-matcher.ensures.ran in
    let m = matched-none (subst (λ (x : Option NameMatcher). Ran matcher_only a (argument_at t c.default_matcher.result a.at) b (Ok x)) c.in_default.is read) in
    let g = got-by (ap (λ (k : MatchKind). argument_at t k a.at) u) m in
    record {
      read = tree-ok (λ x. unary_at x c.args.predicate) (unary-got t c.args.predicate (got_same c.expect_char.ensures.ran) g closed) (same_nodes k4 ∙ sym (append-nil (held s)));
      moved = search rules;
    }
