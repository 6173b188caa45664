use Rattle.compile.proofs.Means.{faithful}
use Rattle.compile.proofs.meaning.filters_are_faithful.Goals as goal

pub returns : goal.returns
returns c = faithful
