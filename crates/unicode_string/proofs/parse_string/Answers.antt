use Rattle.std.proofs.Common.{sym, rules}
use Rattle.unicode_string.proofs.Meanings.{meant}
use Rattle.unicode_string.proofs.parse_string.Goals as goal

pub returns-clause-meant : goal.returns-clause-meant
returns-clause-meant c =
    let a = c.args in
    meant a.text.now a.space.now _ a.at a.count a.used _ (sym c.if-not-has_room.ensures) (search rules) c.parse_name-name.ensures.found (search rules) (search rules) (search rules)
