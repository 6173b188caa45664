use Rattle.std.proofs.Common.{◌+◌, ◌≤◌, map, length, take, drop, vec_items, vec_len, vec_capacity}
use Rattle.errors.specs.Reports.{log}
use Rattle.compile.specs.World.{world}
use Rattle.compile.specs.Words.{word_of}
use Rattle.compile.specs.Lowered.{Lowers, state, sizes, copied}
use Rattle.compile.proofs.ground.Ground.lower_nodes.Given as goal

abbrev pub invariant-loop-node : goal.invariant-loop-node
invariant-loop-node g l =
    Lowers (world g.M.Matcher.matches g.O.DependencyOracle.depends l.self) (map (word_of l.self) (take l.node-index l.parsed)) (state (vec_items l.initial.nodes) (vec_items l.initial.names) (log l.initial.reports)) (state (vec_items l.nodes) (vec_items l.names) (log l.reports))
    × (vec_len l.nodes + sizes (map (word_of l.self) (drop l.node-index l.parsed)) ≤ vec_capacity l.nodes)
    × (vec_len l.names + length (copied (map (word_of l.self) (drop l.node-index l.parsed))) ≤ vec_capacity l.names)
    × (vec_capacity l.initial.nodes ≤ vec_capacity l.nodes)
    × (vec_capacity l.initial.names ≤ vec_capacity l.names)
