use Rattle.std.proofs.Common.{◌≡◌, ℕ, List, [], ◌∷◌, ◌++◌, Ok, Option, sym, refl, ap, ◌∙◌, subst, append-nil, rules}
use Rattle.errors.specs.declared.reports.ReportKind.TheVariants.{ExpectedCloseParenthesis, InvalidPlatformArgument}
use Rattle.expression.specs.declared.queries.BuildPlatform.{BuildPlatform}
use Rattle.parsing.specs.declared.nodes.ParsedLeaf.TheVariants as parsed
use Rattle.parsing.specs.declared.nodes.ParsedNode.{ParsedNode}
use Rattle.parsing.specs.declared.nodes.ParsedNode.TheVariants as node
use Rattle.parsing.specs.Tree.{Tree, Leaf}
use Rattle.parsing.specs.Text.{skip}
use Rattle.parsing.specs.Grammar.{between}
use Rattle.parsing.specs.Reading.{expect, moved, note, report_of, comma_at, text_at, platform_of, platform_by, platform_at}
use Rattle.parsing.specs.View.{St, view, held, bytes_at, Spelt}
use Rattle.parsing.proofs.Runs.{Got, got_same, got-done, got-by, re-at}
use Rattle.parsing.proofs.Moves.{kept_then}
use Rattle.parsing.proofs.Trees.{tree-ok}
use Rattle.parsing.proofs.Matchers.{none_read, some_read, same_bytes}
use Rattle.parsing.proofs.Sets.{same_text, same_nodes, closed-got, closed-space, platform-got}
use Rattle.parsing.proofs.cursor.Cursor.platform_def.Goals as goal

pub returns-in_default : goal.returns-in_default
returns-in_default c =
    let s = c.args.self.now in
    let t = s.text.now in
    let a = view c.expect_char.new.self in
    let b = view c.skip_blanks.new.self in
    let d = view c.parse_matcher_text-name.new.self in
    let e = view c.expect_char-2.new.self in
    let k1 = c.expect_char.ensures.kept in
    let k2 = kept_then k1 c.skip_blanks.ensures.kept in
    let k3 = kept_then k2 c.parse_matcher_text-name.ensures.kept in
    let k4 = kept_then k3 c.recover_unexpected_comma.ensures.kept in
    let k5 = kept_then k4 c.expect_char-2.ensures.kept in
    let closed = closed-got t (got_same (re-at d comma_at (same_text k3) c.recover_unexpected_comma.ensures.ran)) (got_same (re-at (view c.recover_unexpected_comma.new.self) (λ x. expect x 41 ExpectedCloseParenthesis) (same_text k4) c.expect_char-2.ensures.ran)) in
    let skipped = got_same (re-at a (λ x a. moved (skip x a.pos) a) (same_text k1) c.skip_blanks.ensures.ran) in
    let got = platform-got t (got_same c.expect_char.ensures.ran) skipped (none_read (re-at b text_at (same_text k2) c.in_default.ensures.ran)) closed (got-done e Tree.bad) in
    record {
      read = tree-ok platform_at got (same_nodes k5 ∙ sym (append-nil (held s)));
      moved = search rules;
    }

pub returns-in-Some-platform_at : goal.returns-in-Some-platform_at
returns-in-Some-platform_at c =
    let s = c.args.self.now in
    let t = s.text.now in
    let a = view c.expect_char.new.self in
    let b = view c.skip_blanks.new.self in
    let d = view c.parse_matcher_text-name.new.self in
    let e = view c.expect_char-2.new.self in
    let k1 = c.expect_char.ensures.kept in
    let k2 = kept_then k1 c.skip_blanks.ensures.kept in
    let k3 = kept_then k2 c.parse_matcher_text-name.ensures.kept in
    let k4 = kept_then k3 c.recover_unexpected_comma.ensures.kept in
    let k5 = kept_then k4 c.expect_char-2.ensures.kept in
    let closed = closed-got t (got_same (re-at d comma_at (same_text k3) c.recover_unexpected_comma.ensures.ran)) (got_same (re-at (view c.recover_unexpected_comma.new.self) (λ x. expect x 41 ExpectedCloseParenthesis) (same_text k4) c.expect_char-2.ensures.ran)) in
    let skipped = got_same (re-at a (λ x a. moved (skip x a.pos) a) (same_text k1) c.skip_blanks.ensures.ran) in
    let w = some_read (re-at b text_at (same_text k2) c.in-Some.ensures.ran) in
    let n = c.in-Some.name in
    let sp = c.parse_matcher_text-name.new.self.space.now in
    let kept-space : c.expect_char-2.new.self.space.now ≡ sp = ap (λ (x : St). x.space) closed.state ∙ closed-space t d.at d.space in
    let bytes = ap (λ (x : List ℕ). bytes_at c.expect_char-2.new.self.text.now x n) kept-space ∙ ap (λ (x : List ℕ). bytes_at x sp n) (same_text k5)
    ∙ same_bytes t sp n (text_at t b.at).value w.0 (subst (λ (x : List ℕ). Spelt x sp (text_at x b.at).value) (same_text k2) c.in-Some.ensures.bytes) w.1.value w.2 in
    let at = between a.at.pos d.at.pos in
    let h = c.in-Some-platform_at.platform in
    let is = c.in-Some-platform_at.ensures ∙ ap platform_of bytes in
    let got = platform-got t (got_same c.expect_char.ensures.ran) skipped w.1 closed (got-by (ap (λ (x : Option BuildPlatform). platform_by at x e.at) is) (got-done e (Tree.set (Leaf.platform h at)))) in
    record {
      read = tree-ok platform_at got (c.push_reserved.ensures.items ∙ ap (λ (l : List ParsedNode). l ++ (node.Set (parsed.Platform h at) ∷ [])) (same_nodes k5));
      moved = search rules;
    }

pub returns-in-None : goal.returns-in-None
returns-in-None c =
    let s = c.args.self.now in
    let t = s.text.now in
    let a = view c.expect_char.new.self in
    let b = view c.skip_blanks.new.self in
    let d = view c.parse_matcher_text-name.new.self in
    let e = view c.expect_char-2.new.self in
    let k1 = c.expect_char.ensures.kept in
    let k2 = kept_then k1 c.skip_blanks.ensures.kept in
    let k3 = kept_then k2 c.parse_matcher_text-name.ensures.kept in
    let k4 = kept_then k3 c.recover_unexpected_comma.ensures.kept in
    let k5 = kept_then k4 c.expect_char-2.ensures.kept in
    let closed = closed-got t (got_same (re-at d comma_at (same_text k3) c.recover_unexpected_comma.ensures.ran)) (got_same (re-at (view c.recover_unexpected_comma.new.self) (λ x. expect x 41 ExpectedCloseParenthesis) (same_text k4) c.expect_char-2.ensures.ran)) in
    let skipped = got_same (re-at a (λ x a. moved (skip x a.pos) a) (same_text k1) c.skip_blanks.ensures.ran) in
    let w = some_read (re-at b text_at (same_text k2) c.in-Some.ensures.ran) in
    let n = c.in-Some.name in
    let sp = c.parse_matcher_text-name.new.self.space.now in
    let kept-space : c.expect_char-2.new.self.space.now ≡ sp = ap (λ (x : St). x.space) closed.state ∙ closed-space t d.at d.space in
    let bytes = ap (λ (x : List ℕ). bytes_at c.expect_char-2.new.self.text.now x n) kept-space ∙ ap (λ (x : List ℕ). bytes_at x sp n) (same_text k5)
    ∙ same_bytes t sp n (text_at t b.at).value w.0 (subst (λ (x : List ℕ). Spelt x sp (text_at x b.at).value) (same_text k2) c.in-Some.ensures.bytes) w.1.value w.2 in
    let at = between a.at.pos d.at.pos in
    let is = c.in-None.ensures ∙ ap platform_of bytes in
    let f = view c.report.new.self in
    let g : Got e (note Tree.bad (report_of InvalidPlatformArgument at.start at.length) e.at) f (Ok Tree.bad) = record { state = c.report.ensures.ran.state; value = refl } in
    let got = platform-got t (got_same c.expect_char.ensures.ran) skipped w.1 closed (got-by (ap (λ (x : Option BuildPlatform). platform_by at x e.at) is) g) in
    record {
      read = tree-ok platform_at got (same_nodes (kept_then k5 c.report.ensures.kept) ∙ sym (append-nil (held s)));
      moved = search rules;
    }
