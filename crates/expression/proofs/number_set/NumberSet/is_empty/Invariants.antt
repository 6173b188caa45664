use Rattle.std.proofs.Common.{◌≡◌, drop}
use Rattle.expression.specs.NumberSets.{void}
use Rattle.expression.proofs.number_set.NumberSet.is_empty.Given as goal

abbrev pub invariant-loop-word : goal.invariant-loop-word
invariant-loop-word l = void (drop l.word-index l.self.words) ≡ void l.self.words
