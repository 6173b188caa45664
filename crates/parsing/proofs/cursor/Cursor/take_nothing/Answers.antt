use Rattle.std.proofs.Common.{◌≡◌, ℕ, ◌-◌, Bool, cond, List, take, drop, ap, ◌∙◌, rules}
use Rattle.errors.specs.declared.reports.ReportKind.TheVariants.{UnexpectedArgument}
use Rattle.parsing.specs.Text.{closing}
use Rattle.parsing.specs.Reading.{moved, told, note, report_of, all_white, nothing_at}
use Rattle.parsing.specs.View.{St, view}
use Rattle.parsing.proofs.Runs.{got-told, got_same, got-by, ran-same}
use Rattle.parsing.proofs.cursor.Cursor.take_nothing.Goals as goal

abbrev part : List ℕ → ℕ → ℕ → List ℕ
part t p q = take (q - p) (drop p t)

pub returns-then-not-is_white : goal.returns-then-not-is_white
unfolding nothing_at
returns-then-not-is_white c =
    let s = view c.args.self.now in
    let t = s.text in
    let m = view c.take_run-start.new.self in
    let a = c.take_run-start.result in
    let p = s.at.pos in
    let q = closing t p in
    let run = got_same c.take_run-start.ensures.ran in
    let is : m.at.pos ≡ q = ap (λ (x : St). x.at.pos) run.state in
    let at : a ≡ p = c.take_run-start.ensures.value in
    let white = c.if-not-is_white.ensures ∙ ap (λ (x : ℕ). all_white (part t a x)) is ∙ ap (λ (x : ℕ). all_white (part t x q)) at in
    let r = report_of UnexpectedArgument p (q - p) in
    let one = λ (x y : ℕ). note {X = Unit {0}} tt (report_of UnexpectedArgument x (y - x)) m.at in
    let told-so = got-by (ap (one a) is ∙ ap (λ (x : ℕ). one x q) at) (got_same c.report.ensures.ran) in
    record {
      ran = ran-same (got-by (ap (λ (b : Bool). cond b (moved q s.at) (told {X = Unit {0}} tt r q s.at)) white) (got-told r run told-so));
      kept = search rules;
      moved = search rules;
    }

pub returns-else-not-is_white : goal.returns-else-not-is_white
unfolding nothing_at
returns-else-not-is_white c =
    let s = view c.args.self.now in
    let t = s.text in
    let m = view c.take_run-start.new.self in
    let a = c.take_run-start.result in
    let p = s.at.pos in
    let q = closing t p in
    let run = got_same c.take_run-start.ensures.ran in
    let is : m.at.pos ≡ q = ap (λ (x : St). x.at.pos) run.state in
    let at : a ≡ p = c.take_run-start.ensures.value in
    let white = c.if-not-is_white.ensures ∙ ap (λ (x : ℕ). all_white (part t a x)) is ∙ ap (λ (x : ℕ). all_white (part t x q)) at in
    record {
      ran = ran-same (got-by (ap (λ (b : Bool). cond b (moved q s.at) (told {X = Unit {0}} tt (report_of UnexpectedArgument p (q - p)) q s.at)) white) run);
      kept = search rules;
      moved = search rules;
    }
