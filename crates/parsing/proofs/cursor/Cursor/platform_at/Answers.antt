use Rattle.std.proofs.Common.{ℕ, List, [], Option, unwrap_or, ap, ◌∙◌}
use Rattle.parsing.specs.Text.{begins_at, whites_at}
use Rattle.parsing.specs.Reading.{platform_of}
use Rattle.parsing.proofs.cursor.Cursor.platform_at.Goals as goal

pub returns-in_err-part : goal.returns-in_err-part
unfolding platform_of begins_at whites_at
returns-in_err-part c = c.from_residual.ensures ∙ ap (λ (o : Option (List ℕ)). platform_of (unwrap_or o [])) (rw (c.texts.ensures.0, c.texts.ensures.1) at c.in_err-part.ensures.bytes)
