use Rattle.std.proofs.Common.{length, ◌≡◌}
use Rattle.expression.specs.NumberSets.{width, set_of}
use Rattle.compile.specs.Numbers.{is_led}
use Rattle.compile.proofs.ground.Ground.reached_from.Given as goal

abbrev pub invariant-loop-to : goal.invariant-loop-to
invariant-loop-to g l = l.found.words ≡ set_of width (is_led l.way (g.O.DependencyOracle.depends l.self.oracle.now) l.set.words (length l.self.tables.packages.now)) l.to
