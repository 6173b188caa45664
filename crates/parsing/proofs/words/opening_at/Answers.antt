use Rattle.std.proofs.Common.{◌++◌, refl, ◌∙◌}
use Rattle.parsing.specs.Words.{set_entries, sign_entries}
use Rattle.parsing.proofs.Tables.{opening-is, first-some}
use Rattle.parsing.proofs.words.opening_at.Goals as goal

pub returns-in_err-length-clause-value : goal.returns-in_err-length-clause-value
returns-in_err-length-clause-value c = c.from_residual.ensures ∙ opening-is c.args.rest.now _ c.in_err-length.ensures.value

pub returns : goal.returns
returns c =
    let v = c.in_ok-length.ensures.value in
    record { value = opening-is c.args.rest.now _ v; fits = (first-some (set_entries ++ sign_entries) c.args.rest.now _ refl v, c.in_ok-length.ensures.fits) }
