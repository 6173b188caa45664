use Rattle.std.proofs.Common.{Some, None}
use Rattle.compile.specs.Bans.{group_at}
use Rattle.compile.proofs.Rows.{no_node}
use Rattle.compile.proofs.BanLists.{leftmost-more, leftmost-all}
use Rattle.compile.proofs.kinds.leftmost_group.Goals as goal

pub returns-in-Some : goal.returns-in-Some
returns-in-Some c = leftmost-more group_at c.args.nodes.now c.loop-node.node-index no_node (Some c.in-Some.start) c.loop-node-test.true c.in-Some.ensures c.loop-node.invariant

pub loop-node-preserved : goal.loop-node-preserved
loop-node-preserved c = leftmost-more group_at c.args.nodes.now c.loop-node.node-index no_node None c.loop-node-test.true c.in_default.ensures c.loop-node.invariant

pub returns : goal.returns
returns c = leftmost-all group_at c.args.nodes.now c.loop-node.node-index c.loop-node-test.false c.loop-node.invariant
