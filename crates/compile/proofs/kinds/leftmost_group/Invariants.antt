use Rattle.std.proofs.Common.{◌≡◌, drop}
use Rattle.compile.specs.Bans.{group_at, leftmost}
use Rattle.compile.proofs.kinds.leftmost_group.Given as goal

abbrev pub invariant-loop-node : goal.invariant-loop-node
invariant-loop-node l = leftmost group_at (drop l.node-index l.nodes) ≡ leftmost group_at l.nodes
