use Rattle.std.proofs.Common.{◌≡◌, ℕ, ◌+◌, Some, Option, sym, ap, arith, rules}
use Rattle.std.proofs.lemmas.Result.{err_from_is_err_and}
use Rattle.errors.specs.declared.reports.ReportKind.{ReportKind}
use Rattle.parsing.specs.declared.words.Sign.{Sign}
use Rattle.parsing.specs.Reading.{moved, part, fault_of, sign_for}
use Rattle.parsing.specs.View.{view}
use Rattle.parsing.proofs.Runs.{got-done, got-moved, got-then, got-stop, got_same, got-by, ran-same}
use Rattle.parsing.proofs.cursor.Cursor.take_sign.Goals as goal

pub returns-in_err-count_part : goal.returns-in_err-count_part
returns-in_err-count_part c =
    let p = err_from_is_err_and c.from_residual.result c.from_residual.ensures.1 in
    let s = view c.args.self.now in
    let g = c.in-Some.sign in
    record {
      ran = ran-same (rw (p.1, p.2) (got-by (ap (λ (x : Option Sign). sign_for c.args.start x s.at) (sym c.in-Some.is)) (got-then (moved (c.args.start + g.length)) _ (got-moved s (c.args.start + g.length)) (got-stop (part c.args.start) _ (got_same c.in_err-count_part.ensures.ran)))));
      kept = search rules;
      moved = rw p.1 (search rules);
      stays = λ e. absurd (let g = p.1 in let z : ◌≡◌ {A = ℕ} 0 1 = cc in omega arith);
    }

pub returns-in-Some-fault : goal.returns-in-Some-fault
returns-in-Some-fault c =
    let s = view c.args.self.now in
    let g = c.in-Some.sign in
    record {
      ran = ran-same (got-by (ap (λ (x : Option Sign). sign_for c.args.start x s.at) (sym c.in-Some.is))
          (got-then (moved (c.args.start + g.length)) _ (got-moved s (c.args.start + g.length))
          (got-then (part c.args.start) _ (got_same c.in_ok-count_part.ensures.ran)
          (got-then (fault_of g.fault c.args.start g.length) _ (got-by (ap (λ (x : Option ReportKind). fault_of x c.args.start g.length (view c.count_part.new.self).at) (sym c.in-Some-fault.is)) (got_same c.report.ensures.ran))
          (got-done (view c.report.new.self) (Some g.operator))))));
      kept = search rules;
      moved = search rules;
      stays = λ e. absurd (let z : ◌≡◌ {A = ℕ} 0 1 = cc in omega arith);
    }

pub returns-in_default-fault : goal.returns-in_default-fault
returns-in_default-fault c =
    let s = view c.args.self.now in
    let g = c.in-Some.sign in
    record {
      ran = ran-same (got-by (ap (λ (x : Option Sign). sign_for c.args.start x s.at) (sym c.in-Some.is))
          (got-then (moved (c.args.start + g.length)) _ (got-moved s (c.args.start + g.length))
          (got-then (part c.args.start) _ (got_same c.in_ok-count_part.ensures.ran)
          (got-then (fault_of g.fault c.args.start g.length) _ (got-by (ap (λ (x : Option ReportKind). fault_of x c.args.start g.length (view c.count_part.new.self).at) (sym c.in_default-fault.is)) (got-done (view c.count_part.new.self) tt))
          (got-done (view c.count_part.new.self) (Some g.operator))))));
      kept = search rules;
      moved = search rules;
      stays = λ e. absurd (let z : ◌≡◌ {A = ℕ} 0 1 = cc in omega arith);
    }
