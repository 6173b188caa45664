use Rattle.std.proofs.Common.{ℕ, List, is_some, ap, ◌∙◌, rules}
use Rattle.glob.specs.Reading.{items_of}
use Rattle.parsing.specs.Reading.{text_at}
use Rattle.parsing.specs.View.{view, bytes_at}
use Rattle.parsing.proofs.Sets.{same_text}
use Rattle.parsing.proofs.Matchers.{none_read, some_read, same_bytes, matched-none, matched-plain, matched-glob, matched-bad}
use Rattle.parsing.proofs.cursor.Cursor.parse_matcher.Goals as goal

pub returns-in_err-name : goal.returns-in_err-name
returns-in_err-name c = record {
  ran = rw c.from_residual.ensures (matched-none c.args.self.now.text.now c.args.kind (none_read c.in_err-name.ensures.ran));
  kept = search rules;
  moved = search rules;
}

pub returns-then-not-is_glob : goal.returns-then-not-is_glob
returns-then-not-is_glob c =
    let h = c.in_ok-name.ensures in
    let w = some_read h.ran in
    let t = c.args.self.now.text.now in
    let sp = c.parse_matcher_text.new.self.space.now in
    let n = c.in_ok-name.name in
    let bytes = ap (λ (x : List ℕ). bytes_at x sp n) (same_text h.kept) ∙ same_bytes t sp n (text_at t (view c.args.self.now).at).value w.0 h.bytes w.1.value w.2 in
    let fine = c.if-not-is_glob.ensures ∙ ap (λ (b : List ℕ). is_some (items_of b)) bytes in
    record {
      ran = matched-bad c.args.self.now.text.now c.args.kind w.0 w.1 c.in-Glob.is fine c.report.ensures.ran;
      kept = search rules;
      moved = search rules;
    }

pub returns-else-not-is_glob : goal.returns-else-not-is_glob
returns-else-not-is_glob c =
    let h = c.in_ok-name.ensures in
    let w = some_read h.ran in
    let t = c.args.self.now.text.now in
    let sp = c.parse_matcher_text.new.self.space.now in
    let n = c.in_ok-name.name in
    let bytes = ap (λ (x : List ℕ). bytes_at x sp n) (same_text h.kept) ∙ same_bytes t sp n (text_at t (view c.args.self.now).at).value w.0 h.bytes w.1.value w.2 in
    let fine = c.if-not-is_glob.ensures ∙ ap (λ (b : List ℕ). is_some (items_of b)) bytes in
    record {
      ran = matched-glob c.args.self.now.text.now c.args.kind w.0 w.1 c.in-Glob.is fine w.2;
      kept = search rules;
      moved = search rules;
    }

pub returns-in-Equal : goal.returns-in-Equal
returns-in-Equal c =
    let w = some_read c.in_ok-name.ensures.ran in
    record {
      ran = matched-plain c.args.self.now.text.now c.args.kind w.0 w.1 c.in-Equal.is w.2;
      kept = search rules;
      moved = search rules;
    }
