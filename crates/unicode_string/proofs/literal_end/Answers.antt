use Rattle.std.proofs.Common.{ℕ, ◌+◌, ◌≤◌, length, ap, ◌∙◌, arith, rules}
use Rattle.std.specs.List.{prefix_len}
use Rattle.unicode_string.specs.Text.{is_plain}
use Rattle.unicode_string.proofs.Ends.{rest-is, run-length, run-fits}
use Rattle.unicode_string.proofs.literal_end.Goals as goal

pub overflow_add-result : goal.overflow_add-result
overflow_add-result c =
    let is = c.run_length.ensures ∙ ap (prefix_len is_plain) (rest-is c.args.text.now c.args.from) in
    let h : c.args.from + c.run_length.result ≤ length c.args.text.now = omega (arith, run-fits c.args.text.now c.args.from c.requires, is) in
    search rules

pub returns-clause-value : goal.returns-clause-value
returns-clause-value c =
    let is = c.run_length.ensures ∙ ap (prefix_len is_plain) (rest-is c.args.text.now c.args.from) in
    ap (λ (n : ℕ). c.args.from + n) is ∙ run-length c.args.text.now c.args.from

pub returns-clause-within : goal.returns-clause-within
returns-clause-within c =
    let is = c.run_length.ensures ∙ ap (prefix_len is_plain) (rest-is c.args.text.now c.args.from) in
    omega (arith, run-fits c.args.text.now c.args.from c.requires, is)
