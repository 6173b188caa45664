use Rattle.std.proofs.Common.{ℕ, List, ap, ◌∙◌, arith}
use Rattle.expression.specs.NumberSets.{member}
use Rattle.expression.proofs.SetLaws.{united-more, united-all, member-united}
use Rattle.expression.proofs.number_set.NumberSet.unite.Goals as goal

pub loop-i-preserved : goal.loop-i-preserved
loop-i-preserved c =
    united-more c.args.self.now.words c.args.other.now.words c.loop-i.i c.loop-i.self.words (omega arith) (omega arith) c.loop-i.invariant

pub returns : goal.returns
returns c =
    let ws = c.args.self.now.words in let vs = c.args.other.now.words in
    let e = united-all ws vs c.loop-i.i c.loop-i.self.words (omega arith) c.loop-i.invariant in
    record { words = e; members = λ n. ap (λ (z : List ℕ). member z n) e ∙ member-united ws vs n (omega arith) }
