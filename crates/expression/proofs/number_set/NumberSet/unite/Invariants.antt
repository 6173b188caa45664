use Rattle.std.proofs.Common.{◌≡◌, ◌++◌, take, drop}
use Rattle.expression.specs.NumberSets.{united}
use Rattle.expression.proofs.number_set.NumberSet.unite.Given as goal

abbrev pub invariant-loop-i : goal.invariant-loop-i
invariant-loop-i l = l.self.words ≡ take l.i (united l.initial.self.words l.other.words) ++ drop l.i l.initial.self.words
