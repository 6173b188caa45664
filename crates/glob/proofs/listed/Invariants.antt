use Rattle.std.proofs.Common.{◌≡◌, ◌<◌, length, drop}
use Rattle.glob.specs.Reading.{span_of}
use Rattle.glob.proofs.listed.Given as goal

abbrev pub invariant-loop-after : goal.invariant-loop-after
invariant-loop-after l = (0 < span_of l.members) × (drop (span_of l.end) l.end ≡ drop (span_of l.members) l.members)

abbrev pub decreases-loop-after : goal.decreases-loop-after
decreases-loop-after l = length l.end
