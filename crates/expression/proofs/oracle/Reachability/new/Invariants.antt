use Rattle.expression.proofs.Paths.{Through}
use Rattle.expression.proofs.oracle.Reachability.new.Given as goal

abbrev pub invariant-loop-k : goal.invariant-loop-k
invariant-loop-k l = Through l.edges l.k l.reached.rows
