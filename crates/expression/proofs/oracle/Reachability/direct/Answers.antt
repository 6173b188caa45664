use Rattle.std.proofs.Common.{arith}
use Rattle.expression.specs.NumberSets.{size}
use Rattle.expression.specs.declared.oracle.Edge.{Edge}
use Rattle.expression.proofs.Links.{link-none, edge-next}
use Rattle.expression.proofs.oracle.Reachability.direct.Goals as goal

none : Edge
none = record { from = 0; to = 0 }

pub loop-edge-init : goal.loop-edge-init
loop-edge-init c a b = grind (arith, link-none size c.new.result c.new.ensures.members a b)

pub loop-edge-preserved : goal.loop-edge-preserved
unfolding none
loop-edge-preserved c =
    edge-next c.args.edges.now c.loop-edge.edge-index none c.loop-edge.reached.rows c.add.new.self.rows c.loop-edge-test.true c.loop-edge.invariant c.add.ensures
