use Rattle.std.proofs.Common.{rules}
use Rattle.unicode_string.proofs.Hexes.{values, no_digit, some_digit}
use Rattle.unicode_string.proofs.tables.hex_value.Goals as goal

pub returns-then-value : goal.returns-then-value
returns-then-value c = no_digit c.args.b _ (values c.args.b (search rules)) c.if-value.true

pub returns-else-value : goal.returns-else-value
returns-else-value c = some_digit c.args.b _ (values c.args.b (search rules)) c.if-value.false
