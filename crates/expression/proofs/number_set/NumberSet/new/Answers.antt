use Rattle.std.proofs.Common.{rules}
use Rattle.expression.specs.NumberSets.{width}
use Rattle.expression.proofs.SetLaws.{member-none, set-laws}
use Rattle.expression.proofs.number_set.NumberSet.new.Goals as goal

pub returns : goal.returns
returns c = record { words = search rules; members = member-none width; laws = set-laws }
