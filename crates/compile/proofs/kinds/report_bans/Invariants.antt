use Rattle.std.proofs.Common.{◌≡◌, take}
use Rattle.std.specs.List.{flat_map}
use Rattle.errors.specs.Reports.{log}
use Rattle.compile.specs.Reports.{logged}
use Rattle.compile.specs.Bans.{ban_node}
use Rattle.compile.proofs.kinds.report_bans.Given as goal

abbrev pub invariant-loop-node : goal.invariant-loop-node
invariant-loop-node l = log l.reports ≡ logged (log l.initial.reports) (flat_map (ban_node l.kind) (take l.node-index l.nodes))
