use Rattle.std.proofs.Common.{◌≡◌, map, drop}
use Rattle.compile.specs.Tables.{binary_at}
use Rattle.compile.specs.World.{world}
use Rattle.std.specs.List.{list_any}
use Rattle.compile.specs.Numbers.{field_of}
use Rattle.compile.specs.World.{fits}
use Rattle.compile.proofs.ground.Ground.has_binary.Given as goal

abbrev pub invariant-loop-row : goal.invariant-loop-row
invariant-loop-row g l =
    list_any (λ b. fits (world g.M.Matcher.matches g.O.DependencyOracle.depends l.self) l.wanted.kind l.wanted.value.now (field_of l.field b)) (map (binary_at l.self.tables.names.now) (drop l.row-index l.self.tables.binaries.now))
    ≡ list_any (λ b. fits (world g.M.Matcher.matches g.O.DependencyOracle.depends l.self) l.wanted.kind l.wanted.value.now (field_of l.field b)) (map (binary_at l.self.tables.names.now) l.self.tables.binaries.now)
