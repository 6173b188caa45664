use Rattle.std.proofs.Common.{◌+◌, ◌*◌, length}
use Rattle.glob.proofs.Turns.{Tried, tries}
use Rattle.glob.proofs.is_match.Given as goal

abbrev pub invariant-turns : goal.invariant-turns
invariant-turns l = Tried l.pattern l.name l.now l.retry

abbrev pub decreases-turns : goal.decreases-turns
decreases-turns l = tries (length l.name) l.retry * (length l.pattern + 1) + length l.now.pattern.now
