use Rattle.std.proofs.Common.{ℕ, Bool, cond, ap, rules}
use Rattle.errors.specs.declared.reports.ReportKind.TheVariants.{UnexpectedComma}
use Rattle.parsing.specs.Text.{closing}
use Rattle.parsing.specs.Reading.{done, told, note, report_of, comma_at}
use Rattle.parsing.specs.View.{view}
use Rattle.parsing.proofs.Runs.{got-done, got-told, got_same, got-by, ran-same}
use Rattle.parsing.proofs.cursor.Cursor.recover_unexpected_comma.Goals as goal

pub returns-then-is_at : goal.returns-then-is_at
unfolding comma_at
returns-then-is_at c =
    let s = view c.args.self.now in
    let r = report_of UnexpectedComma s.at.pos 0 in
    record {
      ran = ran-same (got-by (ap (λ (b : Bool). cond b (told tt r (closing s.text s.at.pos) s.at) (done tt s.at)) c.if-is_at.ensures) (got-told r (got_same c.take_run-start.ensures.ran) (got-by (ap (λ (p : ℕ). note {X = Unit {0}} tt (report_of UnexpectedComma p 0) (view c.take_run-start.new.self).at) c.take_run-start.ensures.value) (got_same c.report.ensures.ran))));
      kept = search rules;
      moved = search rules;
    }

pub returns-else-is_at : goal.returns-else-is_at
unfolding comma_at
returns-else-is_at c =
    let s = view c.args.self.now in
    let r = report_of UnexpectedComma s.at.pos 0 in
    record {
      ran = ran-same (got-by (ap (λ (b : Bool). cond b (told tt r (closing s.text s.at.pos) s.at) (done tt s.at)) c.if-is_at.ensures) (got-done s tt));
      kept = search rules;
      moved = search rules;
    }
