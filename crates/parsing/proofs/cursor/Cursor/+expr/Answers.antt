use Rattle.std.proofs.Common.{◌≡◌, ℕ, ◌+◌, ◌-◌, ◌<◌, List, [], ◌∷◌, ◌++◌, length, Ok, Option, sym, refl, ap, ◌∙◌, subst, append_assoc, append-nil, arith, rules}
use Rattle.std.proofs.lemmas.Result.{err_from_is_err_and}
use Rattle.errors.specs.declared.reports.ReportKind.TheVariants.{ExpectedExpr, ExpectedCloseParenthesis}
use Rattle.parsing.specs.declared.nodes.Operator.{Operator}
use Rattle.parsing.specs.declared.nodes.ParsedNode.{ParsedNode}
use Rattle.parsing.specs.declared.nodes.ParsedNode.TheVariants as node
use Rattle.parsing.specs.Tree.{Tree}
use Rattle.parsing.specs.Nodes.{nodes_of}
use Rattle.parsing.specs.Reading.{◌⨾◌, done, note, told, report_of, part, deeper, expect, close_at, set_at, or_sign, and_sign, Under, under_at, basic_at, and_at, or_at}
use Rattle.parsing.specs.View.{view, held, nothing, Taken, Moved}
use Rattle.parsing.proofs.Runs.{Got, got-then, got-stop, got-done, got-by, got_same, got-err, got-moved, got-told, re-at}
use Rattle.parsing.proofs.Moves.{moved-turn}
use Rattle.parsing.proofs.Trees.{grown, halted, tree-ok, tree-err}
use Rattle.parsing.proofs.Sets.{same_text, same_nodes}
use Rattle.parsing.proofs.Chains.{ToGo, togo-start, togo-end, togo-stop, togo-break, togo-more, chain-stop, chain-then, nodes-negated, nodes-group}
use Rattle.parsing.proofs.Tables.{opening-rest}
use Rattle.parsing.proofs.Basics.{under_more, nest-ok, nest-err, basic-none, basic-set, basic-not, basic-group, basic-misplaced}
use Rattle.parsing.proofs.cursor.Cursor.+expr.Goals as goal

pub parse_and_or_difference_expr-returns-in_err-parse_basic_expr : goal.parse_and_or_difference_expr-returns-in_err-parse_basic_expr
parse_and_or_difference_expr-returns-in_err-parse_basic_expr t c =
    let p = err_from_is_err_and c.from_residual.result c.from_residual.ensures.1 in
    let s = c.args.self.now in
    let text = s.text.now in
    let sign = and_sign text in
    let one = basic_at text c.args.free in
    record {
      read = rw (p.1, p.2) (tree-err (λ x. and_at x c.args.free) (chain-stop text sign one (halted s c.parse_basic_expr.new.self (λ x. basic_at x c.args.free) refl c.in_err-parse_basic_expr.ensures.read)));
      moved = search rules;
    }

pub parse_and_or_difference_expr-loop-operator-init : goal.parse_and_or_difference_expr-loop-operator-init
parse_and_or_difference_expr-loop-operator-init t c =
    let from = c.parse_basic_expr.new.self in
    let text = from.text.now in
    (search rules, togo-start text (and_sign text) (basic_at text c.args.free) from)

pub parse_and_or_difference_expr-returns-in_err-operator : goal.parse_and_or_difference_expr-returns-in_err-operator
parse_and_or_difference_expr-returns-in_err-operator t c =
    let p = err_from_is_err_and c.from_residual-in_err-operator.result c.from_residual-in_err-operator.ensures.1 in
    let s = c.args.self.now in
    let text = s.text.now in
    let sign = and_sign text in
    let one = basic_at text c.args.free in
    let first = grown (λ x. basic_at x c.args.free) refl c.in_ok-parse_basic_expr.ensures.read in
    let from = c.parse_basic_expr.new.self in
    let m = c.loop-operator.self in
    let a = c.parse_and_or_difference_operator.new.self in
    let te : from.text.now ≡ text = c.in_ok-parse_basic_expr.ensures.moved.text in
    let tm : m.text.now ≡ text = c.loop-operator.invariant.0.text ∙ te in
    let w = subst (λ (x : List ℕ). ToGo x (and_sign x) (basic_at x c.args.free) from m) te c.loop-operator.invariant.1 in
    let v = c.in_err-operator.ensures in
    let g = got_same (re-at (view m) and_sign tm v.ran) in
    let lt : m.pos < length text = omega (arith, v.moved.on, v.moved.within, ap length tm) in
    record {
      read = rw (p.1, p.2) (tree-err (λ x. and_at x c.args.free) (chain-then text sign one first.got (togo-stop text sign one a w g lt first.tree)));
      moved = search rules;
    }

pub parse_and_or_difference_expr-returns-in_err-parse_basic_expr-2 : goal.parse_and_or_difference_expr-returns-in_err-parse_basic_expr-2
parse_and_or_difference_expr-returns-in_err-parse_basic_expr-2 t c =
    let p = err_from_is_err_and c.from_residual-in_err-parse_basic_expr-2.result c.from_residual-in_err-parse_basic_expr-2.ensures.1 in
    let s = c.args.self.now in
    let text = s.text.now in
    let sign = and_sign text in
    let one = basic_at text c.args.free in
    let first = grown (λ x. basic_at x c.args.free) refl c.in_ok-parse_basic_expr.ensures.read in
    let from = c.parse_basic_expr.new.self in
    let m = c.loop-operator.self in
    let a = c.parse_and_or_difference_operator.new.self in
    let te : from.text.now ≡ text = c.in_ok-parse_basic_expr.ensures.moved.text in
    let tm : m.text.now ≡ text = c.loop-operator.invariant.0.text ∙ te in
    let w = subst (λ (x : List ℕ). ToGo x (and_sign x) (basic_at x c.args.free) from m) te c.loop-operator.invariant.1 in
    let v = c.in_ok-operator.ensures in
    let b = c.parse_basic_expr-in-Some.new.self in
    let g = subst (λ (o : Option Operator). Got (view m) (sign (view m).at) (view a) (Ok o)) c.in-Some.is (got_same (re-at (view m) and_sign tm v.ran)) in
    let move : Moved 1 1 0 m a = (subst (λ (o : Option Operator). Taken (Ok o) m a) c.in-Some.is v.moved).0 in
    let lt : m.pos < length text = omega (arith, move.on, move.within, ap length tm) in
    let h = halted a b (λ x. basic_at x c.args.free) (same_text v.kept ∙ tm) c.in_err-parse_basic_expr-2.ensures.read in
    record {
      read = rw (p.1, p.2) (tree-err (λ x. and_at x c.args.free) (chain-then text sign one first.got (togo-break text sign one a b w g h lt first.tree)));
      moved = search rules;
    }

pub parse_and_or_difference_expr-loop-operator-preserved : goal.parse_and_or_difference_expr-loop-operator-preserved
parse_and_or_difference_expr-loop-operator-preserved t c =
    let from = c.parse_basic_expr.new.self in
    let text = from.text.now in
    let sign = and_sign text in
    let one = basic_at text c.args.free in
    let m = c.loop-operator.self in
    let a = c.parse_and_or_difference_operator.new.self in
    let tm : m.text.now ≡ text = c.loop-operator.invariant.0.text in
    let v = c.in_ok-operator.ensures in
    let g = subst (λ (o : Option Operator). Got (view m) (sign (view m).at) (view a) (Ok o)) c.in-Some.is (got_same (re-at (view m) and_sign tm v.ran)) in
    let move = subst (λ (o : Option Operator). Taken (Ok o) m a) c.in-Some.is v.moved in
    let h = c.in_ok-parse_basic_expr-2.ensures in
    let k = grown (λ x. basic_at x c.args.free) (same_text v.kept ∙ tm) h.read in
    let lt : m.pos < length text = omega (arith, move.0.on, move.0.within, ap length tm) in
    let on : m.pos < c.parse_basic_expr-in-Some.new.self.pos = omega (arith, move.0.on, h.moved.on) in (
      moved-turn c.loop-operator.invariant.0 move.0 v.kept move.1 h.moved refl refl refl refl refl c.push_reserved.ensures.len c.push_reserved.ensures.capacity,
      togo-more text sign one c.loop-operator.invariant.1 g k refl c.push_reserved.ensures.items (same_nodes v.kept) lt on,
    )

pub parse_and_or_difference_expr-returns : goal.parse_and_or_difference_expr-returns
parse_and_or_difference_expr-returns t c =
    let s = c.args.self.now in
    let text = s.text.now in
    let sign = and_sign text in
    let one = basic_at text c.args.free in
    let first = grown (λ x. basic_at x c.args.free) refl c.in_ok-parse_basic_expr.ensures.read in
    let from = c.parse_basic_expr.new.self in
    let m = c.loop-operator.self in
    let a = c.parse_and_or_difference_operator.new.self in
    let te : from.text.now ≡ text = c.in_ok-parse_basic_expr.ensures.moved.text in
    let tm : m.text.now ≡ text = c.loop-operator.invariant.0.text ∙ te in
    let w = subst (λ (x : List ℕ). ToGo x (and_sign x) (basic_at x c.args.free) from m) te c.loop-operator.invariant.1 in
    let v = c.in_ok-operator.ensures in
    let g = subst (λ (o : Option Operator). Got (view m) (sign (view m).at) (view a) (Ok o)) c.in_default.is (got_same (re-at (view m) and_sign tm v.ran)) in
    let move : Moved 0 0 0 m a = subst (λ (o : Option Operator). Taken (Ok o) m a) c.in_default.is v.moved in
    let e = togo-end text sign one a w g (v.stays (ap (λ (o : Option Operator). Ok o) c.in_default.is)) (same_nodes v.kept) first.tree in
    record {
      read = tree-ok (λ x. and_at x c.args.free) (chain-then text sign one first.got e.got)
          (e.pushed ∙ ap (λ (l : List ParsedNode). l ++ e.more) first.nodes ∙ append_assoc (held s) (nodes_of first.tree) e.more ∙ ap (λ (l : List ParsedNode). held s ++ l) (sym e.nodes));
      moved = search rules;
    }

pub parse_basic_expr-returns-in_default : goal.parse_basic_expr-returns-in_default
parse_basic_expr-returns-in_default t c =
    let s = c.args.self.now in
    let text = s.text.now in
    let p = c.blanks_end-start.result in
    let at = c.blanks_end-start.ensures.value in
    let g : Got (view s) (note Tree.bad (report_of ExpectedExpr s.pos (length text - s.pos)) (view s).at) (view c.report.new.self) (Ok Tree.bad) = record { state = c.report.ensures.ran.state; value = refl } in
    record {
      read = tree-ok (λ x. basic_at x c.args.free) (got-by (basic-none text c.args.free (view s) p at (c.in_default.ensures.value ∙ opening-rest text p)) g) (same_nodes c.report.ensures.kept ∙ sym (append-nil (held s)));
      moved = search rules;
    }

pub parse_basic_expr-returns-in_err-count_part-in-Set : goal.parse_basic_expr-returns-in_err-count_part-in-Set
parse_basic_expr-returns-in_err-count_part-in-Set t c =
    let f = err_from_is_err_and c.from_residual.result c.from_residual.ensures.1 in
    let s = c.args.self.now in
    let text = s.text.now in
    let p = c.blanks_end-start.result in
    let at = c.blanks_end-start.ensures.value in
    let o = c.in-Some.opening in
    let h = c.in-Some.ensures.value ∙ opening-rest text p in
    let rd = λ (x : List ℕ). basic_at x c.args.free in
    record {
      read = rw (f.1, f.2) (tree-err rd (basic-set text c.args.free (view s) p at o h c.in-Set.set c.in-Set.is (got-stop (part p) _ (got_same c.in_err-count_part-in-Set.ensures.ran))));
      moved = search rules;
    }

pub parse_basic_expr-returns-in_err-parse_set_def-in-Set : goal.parse_basic_expr-returns-in_err-parse_set_def-in-Set
parse_basic_expr-returns-in_err-parse_set_def-in-Set t c =
    let f = err_from_is_err_and c.from_residual-in_err-parse_set_def-in-Set.result c.from_residual-in_err-parse_set_def-in-Set.ensures.1 in
    let s = c.args.self.now in
    let text = s.text.now in
    let p = c.blanks_end-start.result in
    let at = c.blanks_end-start.ensures.value in
    let o = c.in-Some.opening in
    let h = c.in-Some.ensures.value ∙ opening-rest text p in
    let rd = λ (x : List ℕ). basic_at x c.args.free in
    let n = c.in-Set.set in
    let v = c.in_ok-count_part-in-Set.ensures in
    let g = halted c.count_part.new.self c.parse_set_def.new.self (λ x. set_at x p n) (same_text v.kept) c.in_err-parse_set_def-in-Set.ensures.read in
    record {
      read = rw (f.1, f.2) (tree-err rd (basic-set text c.args.free (view s) p at o h n c.in-Set.is (got-then (part p) (λ _. set_at text p n) (got_same v.ran) g)));
      moved = search rules;
    }

pub parse_basic_expr-returns-in_ok-parse_set_def-in-Set : goal.parse_basic_expr-returns-in_ok-parse_set_def-in-Set
parse_basic_expr-returns-in_ok-parse_set_def-in-Set t c =
    let s = c.args.self.now in
    let text = s.text.now in
    let p = c.blanks_end-start.result in
    let at = c.blanks_end-start.ensures.value in
    let o = c.in-Some.opening in
    let h = c.in-Some.ensures.value ∙ opening-rest text p in
    let rd = λ (x : List ℕ). basic_at x c.args.free in
    let n = c.in-Set.set in
    let v = c.in_ok-count_part-in-Set.ensures in
    let g = grown (λ x. set_at x p n) (same_text v.kept) c.in_ok-parse_set_def-in-Set.ensures.read in
    record {
      read = tree-ok rd (basic-set text c.args.free (view s) p at o h n c.in-Set.is (got-then (part p) (λ _. set_at text p n) (got_same v.ran) g.got)) (g.nodes ∙ ap (λ (l : List ParsedNode). l ++ nodes_of g.tree) (same_nodes v.kept));
      moved = search rules;
    }

pub parse_basic_expr-returns-in_err-parse_expr_not-in-Not : goal.parse_basic_expr-returns-in_err-parse_expr_not-in-Not
parse_basic_expr-returns-in_err-parse_expr_not-in-Not t c =
    let f = err_from_is_err_and c.from_residual-in_err-parse_expr_not-in-Not.result c.from_residual-in_err-parse_expr_not-in-Not.ensures.1 in
    let s = c.args.self.now in
    let text = s.text.now in
    let p = c.blanks_end-start.result in
    let at = c.blanks_end-start.ensures.value in
    let o = c.in-Some.opening in
    let h = c.in-Some.ensures.value ∙ opening-rest text p in
    let rd = λ (x : List ℕ). basic_at x c.args.free in
    record {
      read = rw (f.1, f.2) (tree-err rd (basic-not text c.args.free (view s) p at o h c.in-Not.is (got-err nothing c.in_err-parse_expr_not-in-Not.ensures.read.ran)));
      moved = search rules;
    }

pub parse_basic_expr-returns-in_ok-parse_expr_not-in-Not : goal.parse_basic_expr-returns-in_ok-parse_expr_not-in-Not
parse_basic_expr-returns-in_ok-parse_expr_not-in-Not t c =
    let s = c.args.self.now in
    let text = s.text.now in
    let p = c.blanks_end-start.result in
    let at = c.blanks_end-start.ensures.value in
    let o = c.in-Some.opening in
    let h = c.in-Some.ensures.value ∙ opening-rest text p in
    let rd = λ (x : List ℕ). basic_at x c.args.free in
    let g = grown (λ x. part p ⨾ (λ _. (under_at x c.args.free p).not)) refl c.in_ok-parse_expr_not-in-Not.ensures.read in
    record {
      read = tree-ok rd (basic-not text c.args.free (view s) p at o h c.in-Not.is g.got) g.nodes;
      moved = search rules;
    }

pub parse_basic_expr-returns-in_err-parse_parentheses_expr-in-Group : goal.parse_basic_expr-returns-in_err-parse_parentheses_expr-in-Group
parse_basic_expr-returns-in_err-parse_parentheses_expr-in-Group t c =
    let f = err_from_is_err_and c.from_residual-in_err-parse_parentheses_expr-in-Group.result c.from_residual-in_err-parse_parentheses_expr-in-Group.ensures.1 in
    let s = c.args.self.now in
    let text = s.text.now in
    let p = c.blanks_end-start.result in
    let at = c.blanks_end-start.ensures.value in
    let o = c.in-Some.opening in
    let h = c.in-Some.ensures.value ∙ opening-rest text p in
    let rd = λ (x : List ℕ). basic_at x c.args.free in
    record {
      read = rw (f.1, f.2) (tree-err rd (basic-group text c.args.free (view s) p at o h c.in-Group.is (got-err nothing c.in_err-parse_parentheses_expr-in-Group.ensures.read.ran)));
      moved = search rules;
    }

pub parse_basic_expr-returns-in_ok-parse_parentheses_expr-in-Group : goal.parse_basic_expr-returns-in_ok-parse_parentheses_expr-in-Group
parse_basic_expr-returns-in_ok-parse_parentheses_expr-in-Group t c =
    let s = c.args.self.now in
    let text = s.text.now in
    let p = c.blanks_end-start.result in
    let at = c.blanks_end-start.ensures.value in
    let o = c.in-Some.opening in
    let h = c.in-Some.ensures.value ∙ opening-rest text p in
    let rd = λ (x : List ℕ). basic_at x c.args.free in
    let g = grown (λ x. part p ⨾ (λ _. (under_at x c.args.free p).group)) refl c.in_ok-parse_parentheses_expr-in-Group.ensures.read in
    record {
      read = tree-ok rd (basic-group text c.args.free (view s) p at o h c.in-Group.is g.got) g.nodes;
      moved = search rules;
    }

pub parse_basic_expr-returns-in-Misplaced : goal.parse_basic_expr-returns-in-Misplaced
parse_basic_expr-returns-in-Misplaced t c =
    let s = c.args.self.now in
    let text = s.text.now in
    let p = c.blanks_end-start.result in
    let at = c.blanks_end-start.ensures.value in
    let o = c.in-Some.opening in
    let h = c.in-Some.ensures.value ∙ opening-rest text p in
    let rd = λ (x : List ℕ). basic_at x c.args.free in
    let k = c.in-Misplaced.kind in
    let r = report_of k p o.length in
    let told-so = got-told r (got-moved (view s) (p + o.length)) (got_same c.report-in-Misplaced.ensures.ran) in
    let g : Got (view s) (told Tree.bad r (p + o.length) (view s).at) (view c.report-in-Misplaced.new.self) (Ok Tree.bad) = record { state = told-so.state; value = refl } in
    record {
      read = tree-ok rd (got-by (basic-misplaced text c.args.free (view s) p at o h k c.in-Misplaced.is) g) (same_nodes c.report-in-Misplaced.ensures.kept ∙ sym (append-nil (held s)));
      moved = search rules;
    }

pub parse_expr-returns-in_err-parse_and_or_difference_expr : goal.parse_expr-returns-in_err-parse_and_or_difference_expr
parse_expr-returns-in_err-parse_and_or_difference_expr t c =
    let p = err_from_is_err_and c.from_residual.result c.from_residual.ensures.1 in
    let s = c.args.self.now in
    let text = s.text.now in
    let sign = or_sign text in
    let one = and_at text c.args.free in
    record {
      read = rw (p.1, p.2) (tree-err (λ x. or_at x c.args.free) (chain-stop text sign one (halted s c.parse_and_or_difference_expr.new.self (λ x. and_at x c.args.free) refl c.in_err-parse_and_or_difference_expr.ensures.read)));
      moved = search rules;
    }

pub parse_expr-loop-operator-init : goal.parse_expr-loop-operator-init
parse_expr-loop-operator-init t c =
    let from = c.parse_and_or_difference_expr.new.self in
    let text = from.text.now in
    (search rules, togo-start text (or_sign text) (and_at text c.args.free) from)

pub parse_expr-returns-in_err-operator : goal.parse_expr-returns-in_err-operator
parse_expr-returns-in_err-operator t c =
    let p = err_from_is_err_and c.from_residual-in_err-operator.result c.from_residual-in_err-operator.ensures.1 in
    let s = c.args.self.now in
    let text = s.text.now in
    let sign = or_sign text in
    let one = and_at text c.args.free in
    let first = grown (λ x. and_at x c.args.free) refl c.in_ok-parse_and_or_difference_expr.ensures.read in
    let from = c.parse_and_or_difference_expr.new.self in
    let m = c.loop-operator.self in
    let a = c.parse_or_operator.new.self in
    let te : from.text.now ≡ text = c.in_ok-parse_and_or_difference_expr.ensures.moved.text in
    let tm : m.text.now ≡ text = c.loop-operator.invariant.0.text ∙ te in
    let w = subst (λ (x : List ℕ). ToGo x (or_sign x) (and_at x c.args.free) from m) te c.loop-operator.invariant.1 in
    let v = c.in_err-operator.ensures in
    let g = got_same (re-at (view m) or_sign tm v.ran) in
    let lt : m.pos < length text = omega (arith, v.moved.on, v.moved.within, ap length tm) in
    record {
      read = rw (p.1, p.2) (tree-err (λ x. or_at x c.args.free) (chain-then text sign one first.got (togo-stop text sign one a w g lt first.tree)));
      moved = search rules;
    }

pub parse_expr-returns-in_err-parse_and_or_difference_expr-2 : goal.parse_expr-returns-in_err-parse_and_or_difference_expr-2
parse_expr-returns-in_err-parse_and_or_difference_expr-2 t c =
    let p = err_from_is_err_and c.from_residual-in_err-parse_and_or_difference_expr-2.result c.from_residual-in_err-parse_and_or_difference_expr-2.ensures.1 in
    let s = c.args.self.now in
    let text = s.text.now in
    let sign = or_sign text in
    let one = and_at text c.args.free in
    let first = grown (λ x. and_at x c.args.free) refl c.in_ok-parse_and_or_difference_expr.ensures.read in
    let from = c.parse_and_or_difference_expr.new.self in
    let m = c.loop-operator.self in
    let a = c.parse_or_operator.new.self in
    let te : from.text.now ≡ text = c.in_ok-parse_and_or_difference_expr.ensures.moved.text in
    let tm : m.text.now ≡ text = c.loop-operator.invariant.0.text ∙ te in
    let w = subst (λ (x : List ℕ). ToGo x (or_sign x) (and_at x c.args.free) from m) te c.loop-operator.invariant.1 in
    let v = c.in_ok-operator.ensures in
    let b = c.parse_and_or_difference_expr-in-Some.new.self in
    let g = subst (λ (o : Option Operator). Got (view m) (sign (view m).at) (view a) (Ok o)) c.in-Some.is (got_same (re-at (view m) or_sign tm v.ran)) in
    let move : Moved 1 1 0 m a = (subst (λ (o : Option Operator). Taken (Ok o) m a) c.in-Some.is v.moved).0 in
    let lt : m.pos < length text = omega (arith, move.on, move.within, ap length tm) in
    let h = halted a b (λ x. and_at x c.args.free) (same_text v.kept ∙ tm) c.in_err-parse_and_or_difference_expr-2.ensures.read in
    record {
      read = rw (p.1, p.2) (tree-err (λ x. or_at x c.args.free) (chain-then text sign one first.got (togo-break text sign one a b w g h lt first.tree)));
      moved = search rules;
    }

pub parse_expr-loop-operator-preserved : goal.parse_expr-loop-operator-preserved
parse_expr-loop-operator-preserved t c =
    let from = c.parse_and_or_difference_expr.new.self in
    let text = from.text.now in
    let sign = or_sign text in
    let one = and_at text c.args.free in
    let m = c.loop-operator.self in
    let a = c.parse_or_operator.new.self in
    let tm : m.text.now ≡ text = c.loop-operator.invariant.0.text in
    let v = c.in_ok-operator.ensures in
    let g = subst (λ (o : Option Operator). Got (view m) (sign (view m).at) (view a) (Ok o)) c.in-Some.is (got_same (re-at (view m) or_sign tm v.ran)) in
    let move = subst (λ (o : Option Operator). Taken (Ok o) m a) c.in-Some.is v.moved in
    let h = c.in_ok-parse_and_or_difference_expr-2.ensures in
    let k = grown (λ x. and_at x c.args.free) (same_text v.kept ∙ tm) h.read in
    let lt : m.pos < length text = omega (arith, move.0.on, move.0.within, ap length tm) in
    let on : m.pos < c.parse_and_or_difference_expr-in-Some.new.self.pos = omega (arith, move.0.on, h.moved.on) in (
      moved-turn c.loop-operator.invariant.0 move.0 v.kept move.1 h.moved refl refl refl refl refl c.push_reserved.ensures.len c.push_reserved.ensures.capacity,
      togo-more text sign one c.loop-operator.invariant.1 g k refl c.push_reserved.ensures.items (same_nodes v.kept) lt on,
    )

pub parse_expr-returns : goal.parse_expr-returns
parse_expr-returns t c =
    let s = c.args.self.now in
    let text = s.text.now in
    let sign = or_sign text in
    let one = and_at text c.args.free in
    let first = grown (λ x. and_at x c.args.free) refl c.in_ok-parse_and_or_difference_expr.ensures.read in
    let from = c.parse_and_or_difference_expr.new.self in
    let m = c.loop-operator.self in
    let a = c.parse_or_operator.new.self in
    let te : from.text.now ≡ text = c.in_ok-parse_and_or_difference_expr.ensures.moved.text in
    let tm : m.text.now ≡ text = c.loop-operator.invariant.0.text ∙ te in
    let w = subst (λ (x : List ℕ). ToGo x (or_sign x) (and_at x c.args.free) from m) te c.loop-operator.invariant.1 in
    let v = c.in_ok-operator.ensures in
    let g = subst (λ (o : Option Operator). Got (view m) (sign (view m).at) (view a) (Ok o)) c.in_default.is (got_same (re-at (view m) or_sign tm v.ran)) in
    let move : Moved 0 0 0 m a = subst (λ (o : Option Operator). Taken (Ok o) m a) c.in_default.is v.moved in
    let e = togo-end text sign one a w g (v.stays (ap (λ (o : Option Operator). Ok o) c.in_default.is)) (same_nodes v.kept) first.tree in
    record {
      read = tree-ok (λ x. or_at x c.args.free) (chain-then text sign one first.got e.got)
          (e.pushed ∙ ap (λ (l : List ParsedNode). l ++ e.more) first.nodes ∙ append_assoc (held s) (nodes_of first.tree) e.more ∙ ap (λ (l : List ParsedNode). held s ++ l) (sym e.nodes));
      moved = search rules;
    }

pub parse_expr_not-parse_basic_expr-requires : goal.parse_expr_not-parse_basic_expr-requires
parse_expr_not-parse_basic_expr-requires t c =
    let o = nest-ok c.args.start c.args.free c.in_ok-left.left (got_same c.in_ok-left.ensures.ran) in (omega (arith, o.0, c.decreases), search rules)

pub parse_expr_not-returns-in_err-left : goal.parse_expr_not-returns-in_err-left
parse_expr_not-returns-in_err-left t c =
    let f = err_from_is_err_and c.from_residual.result c.from_residual.ensures.1 in
    let s = c.args.self.now in
    let text = s.text.now in
    let free = c.args.free in
    let start = c.args.start in
    let rd = λ (x : List ℕ). part start ⨾ (λ _. (under_at x free start).not) in
    let none : (free ≡ 0 → (under_at text free start).not ≡ deeper start) = λ e. ap (λ (n : ℕ). (under_at text n start).not) e in
    record { read = rw (f.1, f.2) (tree-err rd (nest-err start free (under_at text free start).not none (got_same c.in_err-left.ensures.ran))); moved = search rules }

pub parse_expr_not-returns-in_err-parse_basic_expr : goal.parse_expr_not-returns-in_err-parse_basic_expr
parse_expr_not-returns-in_err-parse_basic_expr t c =
    let f = err_from_is_err_and c.from_residual-in_err-parse_basic_expr.result c.from_residual-in_err-parse_basic_expr.ensures.1 in
    let s = c.args.self.now in
    let text = s.text.now in
    let free = c.args.free in
    let start = c.args.start in
    let rd = λ (x : List ℕ). part start ⨾ (λ _. (under_at x free start).not) in
    let m = view c.open_nest.new.self in
    let n = c.in_ok-left.left in
    let v = c.in_ok-left.ensures in
    let o = nest-ok start free n (got_same v.ran) in
    let more = sym (ap (λ (u : ℕ → Under). (u start).not m.at) (under_more text free n o.0)) in
    let h = halted c.open_nest.new.self c.parse_basic_expr.new.self (λ x. basic_at x n) (same_text v.kept) c.in_err-parse_basic_expr.ensures.read in
    record { read = rw (f.1, f.2) (tree-err rd (got-then (part start) (λ _. (under_at text free start).not) o.1 (got-by more (got-stop (basic_at text n) (λ x. done (Tree.negated x)) h)))); moved = search rules }

pub parse_expr_not-returns : goal.parse_expr_not-returns
parse_expr_not-returns t c =
    let s = c.args.self.now in
    let text = s.text.now in
    let free = c.args.free in
    let start = c.args.start in
    let rd = λ (x : List ℕ). part start ⨾ (λ _. (under_at x free start).not) in
    let m = view c.open_nest.new.self in
    let n = c.in_ok-left.left in
    let v = c.in_ok-left.ensures in
    let o = nest-ok start free n (got_same v.ran) in
    let more = sym (ap (λ (u : ℕ → Under). (u start).not m.at) (under_more text free n o.0)) in
    let h = c.in_ok-parse_basic_expr.ensures in
    let ta = same_text v.kept in
    let g = grown (λ x. basic_at x n) ta h.read in
    let b = c.parse_basic_expr.new.self in
    let x = g.tree in
    let inner = got-then (basic_at text n) (λ x. done (Tree.negated x)) g.got (got-done (view b) (Tree.negated x)) in
    let all = c.push_reserved.ensures.items ∙ ap (λ (l : List ParsedNode). l ++ (node.Not ∷ [])) (g.nodes ∙ ap (λ (l : List ParsedNode). l ++ nodes_of x) (same_nodes v.kept))
    ∙ append_assoc (held s) (nodes_of x) (node.Not ∷ []) ∙ ap (λ (l : List ParsedNode). held s ++ l) (sym (nodes-negated x)) in
    record { read = tree-ok rd (got-then (part start) (λ _. (under_at text free start).not) o.1 (got-by more inner)) all; moved = search rules }

pub parse_parentheses_expr-parse_expr-requires : goal.parse_parentheses_expr-parse_expr-requires
parse_parentheses_expr-parse_expr-requires t c =
    let o = nest-ok c.args.start c.args.free c.in_ok-left.left (got_same c.in_ok-left.ensures.ran) in (omega (arith, o.0, c.decreases), search rules)

pub parse_parentheses_expr-returns-in_err-left : goal.parse_parentheses_expr-returns-in_err-left
parse_parentheses_expr-returns-in_err-left t c =
    let f = err_from_is_err_and c.from_residual.result c.from_residual.ensures.1 in
    let s = c.args.self.now in
    let text = s.text.now in
    let free = c.args.free in
    let start = c.args.start in
    let rd = λ (x : List ℕ). part start ⨾ (λ _. (under_at x free start).group) in
    let none : (free ≡ 0 → (under_at text free start).group ≡ deeper start) = λ e. ap (λ (n : ℕ). (under_at text n start).group) e in
    record { read = rw (f.1, f.2) (tree-err rd (nest-err start free (under_at text free start).group none (got_same c.in_err-left.ensures.ran))); moved = search rules }

pub parse_parentheses_expr-returns-in_err-parse_expr : goal.parse_parentheses_expr-returns-in_err-parse_expr
parse_parentheses_expr-returns-in_err-parse_expr t c =
    let f = err_from_is_err_and c.from_residual-in_err-parse_expr.result c.from_residual-in_err-parse_expr.ensures.1 in
    let s = c.args.self.now in
    let text = s.text.now in
    let free = c.args.free in
    let start = c.args.start in
    let rd = λ (x : List ℕ). part start ⨾ (λ _. (under_at x free start).group) in
    let m = view c.open_nest.new.self in
    let n = c.in_ok-left.left in
    let v = c.in_ok-left.ensures in
    let o = nest-ok start free n (got_same v.ran) in
    let more = sym (ap (λ (u : ℕ → Under). (u start).group m.at) (under_more text free n o.0)) in
    let h = halted c.open_nest.new.self c.parse_expr.new.self (λ x. or_at x n) (same_text v.kept) c.in_err-parse_expr.ensures.read in
    record { read = rw (f.1, f.2) (tree-err rd (got-then (part start) (λ _. (under_at text free start).group) o.1 (got-by more (got-stop (or_at text n) (λ x. close_at text ⨾ (λ _. done (Tree.group x))) h)))); moved = search rules }

pub parse_parentheses_expr-returns : goal.parse_parentheses_expr-returns
parse_parentheses_expr-returns t c =
    let s = c.args.self.now in
    let text = s.text.now in
    let free = c.args.free in
    let start = c.args.start in
    let rd = λ (x : List ℕ). part start ⨾ (λ _. (under_at x free start).group) in
    let m = view c.open_nest.new.self in
    let n = c.in_ok-left.left in
    let v = c.in_ok-left.ensures in
    let o = nest-ok start free n (got_same v.ran) in
    let more = sym (ap (λ (u : ℕ → Under). (u start).group m.at) (under_more text free n o.0)) in
    let h = c.in_ok-parse_expr.ensures in
    let ta = same_text v.kept in
    let g = grown (λ x. or_at x n) ta h.read in
    let b = c.parse_expr.new.self in
    let x = g.tree in
    let e = view c.expect_char.new.self in
    let close = got_same (re-at (view b) (λ y. expect y 41 ExpectedCloseParenthesis) (h.moved.text ∙ ta) c.expect_char.ensures.ran) in
    let inner = got-then (or_at text n) (λ x. close_at text ⨾ (λ _. done (Tree.group x))) g.got (got-then (close_at text) (λ _. done (Tree.group x)) close (got-done e (Tree.group x))) in
    let all = c.push_reserved.ensures.items ∙ ap (λ (l : List ParsedNode). l ++ (node.Parens ∷ [])) (same_nodes c.expect_char.ensures.kept ∙ g.nodes ∙ ap (λ (l : List ParsedNode). l ++ nodes_of x) (same_nodes v.kept))
    ∙ append_assoc (held s) (nodes_of x) (node.Parens ∷ []) ∙ ap (λ (l : List ParsedNode). held s ++ l) (sym (nodes-group x)) in
    record { read = tree-ok rd (got-then (part start) (λ _. (under_at text free start).group) o.1 (got-by more inner)) all; moved = search rules }
