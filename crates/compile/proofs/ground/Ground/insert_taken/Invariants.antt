use Rattle.std.proofs.Common.{◌≡◌, ℕ, ◌+◌, List, ◌++◌, map, length}
use Rattle.expression.specs.NumberSets.{width, set_of}
use Rattle.compile.specs.Tables.{name_at}
use Rattle.compile.specs.Numbers.{passes}
use Rattle.compile.specs.World.{world, fits}
use Rattle.compile.proofs.ground.Ground.insert_taken.Given as goal

abbrev pub invariant-loop-i : goal.invariant-loop-i
invariant-loop-i g l =
    (front : List (List ℕ)) → length front ≡ l.first →
    l.initial.set.words ≡ set_of width (passes (fits (world g.M.Matcher.matches g.O.DependencyOracle.depends l.self) l.wanted.kind l.wanted.value.now) (front ++ map (name_at l.self.tables.names.now) l.rows)) l.first →
    l.set.words ≡ set_of width (passes (fits (world g.M.Matcher.matches g.O.DependencyOracle.depends l.self) l.wanted.kind l.wanted.value.now) (front ++ map (name_at l.self.tables.names.now) l.rows)) (l.first + l.i)
