use Rattle.std.proofs.Common.{◌-◌, length}
use Rattle.unicode_string.specs.View.{view}
use Rattle.unicode_string.proofs.Loops.{ToGo}
use Rattle.unicode_string.proofs.source.Source.decode.Given as goal

abbrev pub invariant-loop-self : goal.invariant-loop-self
invariant-loop-self l = ToGo (view l.initial.self) (view l.self)

abbrev pub decreases-loop-self : goal.decreases-loop-self
decreases-loop-self l = length l.self.text.now - l.self.pos
