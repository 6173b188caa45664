use Rattle.std.proofs.Common.{◌∙◌}
use Rattle.parsing.specs.Words.{or_entries, or_sign_at}
use Rattle.parsing.proofs.Tables.{sign-is}
use Rattle.parsing.proofs.words.or_sign_at.Goals as goal

pub returns-in_err-length-clause-value : goal.returns-in_err-length-clause-value
unfolding or_sign_at
returns-in_err-length-clause-value c = c.from_residual.ensures ∙ sign-is or_entries c.args.rest.now _ c.in_err-length.ensures.value

pub returns-clause-value : goal.returns-clause-value
unfolding or_sign_at
returns-clause-value c = sign-is or_entries c.args.rest.now _ c.in_ok-length.ensures.value
