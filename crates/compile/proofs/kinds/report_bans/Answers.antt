use Rattle.std.proofs.Common.{ap, ◌∙◌}
use Rattle.errors.specs.Reports.{log}
use Rattle.compile.specs.Reports.{logged}
use Rattle.compile.specs.Bans.{ban_node}
use Rattle.compile.proofs.Logs.{logged-more}
use Rattle.compile.proofs.Rows.{no_node}
use Rattle.compile.proofs.kinds.report_bans.Goals as goal
use Rattle.compile.proofs.kinds.report_bans.Goals.{in-Some, in_default}

pub loop-node-preserved : goal.loop-node-preserved
loop-node-preserved c =
    logged-more (ban_node c.args.kind) c.args.nodes.now c.loop-node.node-index no_node (log c.args.reports.now) (log c.loop-node.reports) _ c.loop-node-test.true c.loop-node.invariant (elim c.match-banned_place.branch [
      | in-Some w ↦ ap log w.reports-is ∙ w.report.ensures ∙ ap (logged (log c.loop-node.reports)) (w.in-Some.ensures)
      | in_default w ↦ ap log w.reports-is ∙ ap (logged (log c.loop-node.reports)) (w.in_default.ensures)
    ])
