use Rattle.std.proofs.lemmas.Bool.Decides.{Decides-at}
use Rattle.expression.proofs.Substrings.{holds-decides}
use Rattle.expression.proofs.name_matcher.MatchKind.is_match.Goals as goal

pub returns-in-Contains-clause-meaning : goal.returns-in-Contains-clause-meaning
returns-in-Contains-clause-meaning g c = rw c.in-Contains.is (Decides-at _ _ c.stands_in.ensures (holds-decides c.args.value.now c.args.name.now))
