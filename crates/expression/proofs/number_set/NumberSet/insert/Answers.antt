use Rattle.std.proofs.Common.{arith}
use Rattle.std.proofs.lemmas.Grind.{common_steps}
use Rattle.expression.proofs.SetLaws.{member_insert}
use Rattle.expression.proofs.number_set.NumberSet.insert.Goals as goal

pub returns-then-n-lt-WORDS-clause-members : goal.returns-then-n-lt-WORDS-clause-members
returns-then-n-lt-WORDS-clause-members c m =
    let e = member_insert c.args.self.now.words c.args.n m in
    grind (arith, common_steps)
