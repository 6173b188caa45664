use Rattle.std.proofs.Common.{◌≡◌, false}
use Rattle.expression.specs.NumberSets.{some_below}
use Rattle.compile.specs.Numbers.{leads_from}
use Rattle.compile.proofs.ground.Ground.is_led.Given as goal

abbrev pub invariant-loop-from : goal.invariant-loop-from
invariant-loop-from g l = some_below (leads_from l.way (g.O.DependencyOracle.depends l.self.oracle.now) l.set.words l.to) l.from ≡ false
