use Rattle.std.proofs.Common.{◌≡◌, ◌+◌, length}
use Rattle.parsing.specs.Text.{blanks, skip}
use Rattle.parsing.proofs.text.blanks_end.Given as goal

abbrev pub invariant-loop-rest : goal.invariant-loop-rest
invariant-loop-rest l = skip l.text l.from + length l.rest ≡ length l.text + blanks l.rest

abbrev pub decreases-loop-rest : goal.decreases-loop-rest
decreases-loop-rest l = length l.rest
