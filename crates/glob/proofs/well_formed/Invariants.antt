use Rattle.std.proofs.Common.{◌≡◌, length, is_some}
use Rattle.glob.specs.Reading.{items_of}
use Rattle.glob.proofs.well_formed.Given as goal

abbrev pub invariant-loop-after : goal.invariant-loop-after
invariant-loop-after l = is_some (items_of l.rest) ≡ is_some (items_of l.pattern)

abbrev pub decreases-loop-after : goal.decreases-loop-after
decreases-loop-after l = length l.rest
