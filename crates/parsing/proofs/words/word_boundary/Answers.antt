use Rattle.std.proofs.Common.{ℕ, not, sym, ap}
use Rattle.std.proofs.lemmas.List.{get_or_past}
use Rattle.unicode_string.specs.Text.{is_word}
use Rattle.parsing.proofs.words.word_boundary.Goals as goal

pub returns-then-at-text : goal.returns-then-at-text
unfolding is_word
returns-then-at-text c = sym (ap (λ (b : ℕ). not (is_word b)) (get_or_past c.args.text.now c.args.at 0 c.if-at-text.true))
