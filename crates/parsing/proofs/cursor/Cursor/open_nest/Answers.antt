use Rattle.std.proofs.Common.{sym, arith}
use Rattle.std.proofs.lemmas.Result.{err_from_is_err_and}
use Rattle.parsing.specs.Reading.{part, left}
use Rattle.parsing.specs.View.{view}
use Rattle.parsing.proofs.Runs.{got-then, got-stop, got-done, got-by, got-halt, got_same, ran-same}
use Rattle.parsing.proofs.Basics.{left-more, left-none}
use Rattle.parsing.proofs.cursor.Cursor.open_nest.Goals as goal

pub returns-in_err-count_part-clause-ran : goal.returns-in_err-count_part-clause-ran
returns-in_err-count_part-clause-ran c =
    let f = err_from_is_err_and c.from_residual.result c.from_residual.ensures.1 in
    rw (f.1, f.2) (ran-same (got-stop (part c.args.start) (λ _. left c.args.start c.args.free) (got_same c.in_err-count_part.ensures.ran)))

pub returns-in-Some-clause-ran : goal.returns-in-Some-clause-ran
returns-in-Some-clause-ran c =
    let m = view c.count_part.new.self in
    let is = left-more c.args.start c.args.free c.in-Some.left m.at (omega (arith, c.in-Some.ensures)) in
    ran-same (got-then (part c.args.start) (λ _. left c.args.start c.args.free) (got_same c.in_ok-count_part.ensures.ran) (got-by (sym is) (got-done m c.in-Some.left)))

pub returns-in-None-clause-ran : goal.returns-in-None-clause-ran
returns-in-None-clause-ran c =
    let m = view c.count_part.new.self in
    let is = left-none c.args.start c.args.free m.at (omega (arith, c.in-None.ensures)) in
    ran-same (got-then (part c.args.start) (λ _. left c.args.start c.args.free) (got_same c.in_ok-count_part.ensures.ran) (got-by (sym is) (got-halt m _)))
