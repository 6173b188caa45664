use Rattle.std.proofs.Common.{rules}
use Rattle.unicode_string.proofs.Hexes.{words}
use Rattle.unicode_string.proofs.tables.is_word.Goals as goal

pub returns : goal.returns
returns c = words c.args.b (search rules)
