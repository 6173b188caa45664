use Rattle.std.proofs.Common.{◌≡◌, length}
use Rattle.expression.proofs.Links.{UpTo}
use Rattle.expression.proofs.oracle.Reachability.join_through.Given as goal

abbrev pub invariant-loop-row : goal.invariant-loop-row
invariant-loop-row l = record {
  long : length l.row-items ≡ length l.initial.row-items;
  joined : UpTo l.initial.row-items l.row-index l.k l.through l.row-items;
}
