use Rattle.std.proofs.Common.{◌≡◌, drop}
use Rattle.expression.specs.Stack.{runs, room, held}
use Rattle.expression.proofs.evaluate.Stack.run.Given as goal

abbrev pub invariant-loop-node : goal.invariant-loop-node
invariant-loop-node g l = record {
  same_room : room l.self ≡ room l.initial.self;
  on : runs g.L.Logic.ops (g.C.Leaves.shows l.leaves) (room l.initial.self) (drop l.node-index l.nodes) (held l.self) ≡ runs g.L.Logic.ops (g.C.Leaves.shows l.leaves) (room l.initial.self) l.nodes (held l.initial.self);
}
