use Rattle.std.proofs.Common.{◌∙◌}
use Rattle.parsing.specs.Words.{and_entries, and_sign_at}
use Rattle.parsing.proofs.Tables.{sign-is}
use Rattle.parsing.proofs.words.and_sign_at.Goals as goal

pub returns-in_err-length-clause-value : goal.returns-in_err-length-clause-value
unfolding and_sign_at
returns-in_err-length-clause-value c = c.from_residual.ensures ∙ sign-is and_entries c.args.rest.now _ c.in_err-length.ensures.value

pub returns-clause-value : goal.returns-clause-value
unfolding and_sign_at
returns-clause-value c = sign-is and_entries c.args.rest.now _ c.in_ok-length.ensures.value
