use Rattle.expression.proofs.Trees.{evaluated}
use Rattle.expression.proofs.evaluate.evaluate.Goals as goal

pub returns : goal.returns
returns g c = evaluated _ _ _ _ g.met.L.Logic.lawful c.run.ensures
