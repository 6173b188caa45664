use Rattle.std.proofs.Common.{◌≡◌, length}
use Rattle.expression.specs.Names.{holds}
use Rattle.expression.proofs.name_matcher.stands_in.Given as goal

abbrev pub invariant-loop-rest : goal.invariant-loop-rest
invariant-loop-rest l = holds l.value l.rest ≡ holds l.value l.name

abbrev pub decreases-loop-rest : goal.decreases-loop-rest
decreases-loop-rest l = length l.rest
