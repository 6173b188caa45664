use Rattle.std.proofs.Common.{◌≡◌, ℕ, ◌+◌, List, Ok, refl, ap, ◌∙◌, Bor, rules}
use Rattle.parsing.specs.declared.words.Mark.{Mark}
use Rattle.parsing.specs.Text.{skip}
use Rattle.parsing.specs.Words.{mark_at}
use Rattle.parsing.specs.Reading.{moved, argument_for, argument_at, matcher_at}
use Rattle.parsing.specs.View.{view, matcher_only}
use Rattle.parsing.proofs.Runs.{got-then, got-moved, got-halt, got-ok, got_same, got-by, ran-by, re}
use Rattle.parsing.proofs.Tables.{mark-rest}
use Rattle.parsing.proofs.cursor.Cursor.set_matcher.Goals as goal

pub returns-in-Regex : goal.returns-in-Regex
unfolding argument_at
returns-in-Regex c =
    let s = view c.args.self.now in
    let t = s.text in
    let m = view c.skip_blanks.new.self in
    let te : m.text ≡ t = ap (λ (r : Bor (List ℕ)). r.now) c.skip_blanks.ensures.kept.text in
    let mk = c.in-Regex.ensures.value ∙ mark-rest m.text m.at.pos ∙ ap (λ (x : List ℕ). mark_at x m.at.pos) te in
    record {
      ran = ran-by matcher_only (got-then (moved (skip t s.at.pos)) _ (got_same c.skip_blanks.ensures.ran) (got-by (ap (λ (k : Mark). argument_for t c.args.usual k m.at) mk) (got-halt m _))) refl;
      kept = search rules;
      moved = search rules;
    }

pub returns-in-Marked : goal.returns-in-Marked
unfolding argument_at
returns-in-Marked c =
    let s = view c.args.self.now in
    let t = s.text in
    let m = view c.skip_blanks.new.self in
    let te : m.text ≡ t = ap (λ (r : Bor (List ℕ)). r.now) c.skip_blanks.ensures.kept.text in
    let mk = c.in-Marked.ensures.value ∙ mark-rest m.text m.at.pos ∙ ap (λ (x : List ℕ). mark_at x m.at.pos) te in
    let g = got-ok matcher_only (re (λ x. matcher_at x c.in-Marked.kind) te c.parse_matcher.ensures.ran) in
    record {
      ran = ran-by matcher_only (got-then (moved (skip t s.at.pos)) _ (got_same c.skip_blanks.ensures.ran)
          (got-by (ap (λ (k : Mark). argument_for t c.args.usual k m.at) mk)
          (got-then (moved (m.at.pos + 1)) _ (got-moved m (m.at.pos + 1)) g.1))) (ap Ok g.2);
      kept = search rules;
      moved = search rules;
    }

pub returns-in-Unmarked : goal.returns-in-Unmarked
unfolding argument_at
returns-in-Unmarked c =
    let s = view c.args.self.now in
    let t = s.text in
    let m = view c.skip_blanks.new.self in
    let te : m.text ≡ t = ap (λ (r : Bor (List ℕ)). r.now) c.skip_blanks.ensures.kept.text in
    let mk = c.in-Unmarked.ensures.value ∙ mark-rest m.text m.at.pos ∙ ap (λ (x : List ℕ). mark_at x m.at.pos) te in
    let g = got-ok matcher_only (re (λ x. matcher_at x c.args.usual) te c.parse_matcher-in-Unmarked.ensures.ran) in
    record {
      ran = ran-by matcher_only (got-then (moved (skip t s.at.pos)) _ (got_same c.skip_blanks.ensures.ran)
          (got-by (ap (λ (k : Mark). argument_for t c.args.usual k m.at) mk) g.1)) (ap Ok g.2);
      kept = search rules;
      moved = search rules;
    }
