use Rattle.std.proofs.Common.{arith}
use Rattle.std.proofs.lemmas.Grind.{common_steps}
use Rattle.expression.proofs.Links.{link-past}
use Rattle.expression.proofs.oracle.ReachabilityDependencyOracle.depends_on.Goals as goal

pub returns : goal.returns
returns c = grind (arith, common_steps, link-past)
