use Rattle.std.proofs.Common.{◌∙◌}
use Rattle.unicode_string.proofs.Hexes.{digit-none}
use Rattle.unicode_string.proofs.digit.Goals as goal

pub returns-in_err-get : goal.returns-in_err-get
returns-in_err-get c = c.from_residual.ensures ∙ digit-none _ _ c.in_err-get.ensures.lookup.0
