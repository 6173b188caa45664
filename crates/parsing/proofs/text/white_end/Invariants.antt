use Rattle.std.proofs.Common.{◌-◌, ◌≤◌, length}
use Rattle.parsing.proofs.Scans.{ToGo}
use Rattle.parsing.proofs.text.white_end.Given as goal

abbrev pub invariant-loop-at : goal.invariant-loop-at
invariant-loop-at l = (l.at ≤ length l.text) × ToGo l.text l.from l.at

abbrev pub decreases-loop-at : goal.decreases-loop-at
decreases-loop-at l = length l.text - l.at
