use Rattle.std.proofs.Common.{◌≡◌, ◌^◌, ◌<◌, true, get_or, refl, arith, rules}
use Rattle.std.proofs.lemmas.Bool.{false≢true}
use Rattle.std.proofs.lemmas.Grind.{common_steps}
use Rattle.expression.specs.NumberSets.{void}
use Rattle.expression.proofs.SetLaws.{void-member, word-member}
use Rattle.expression.proofs.number_set.NumberSet.is_empty.Goals as goal

pub returns-then-word-ne0-clause-members : goal.returns-then-word-ne0-clause-members
returns-then-word-ne0-clause-members c =
    let ws = c.args.self.now.words in let i = c.loop-word.word-index in
    let small : get_or ws i 0 < 2 ^ 64 = search rules in
    (λ e. absurd (false≢true e), λ h. absurd (c.if-word-ne0.true (word-member ws i small h)))

pub returns-clause-members : goal.returns-clause-members
returns-clause-members c =
    let ws = c.args.self.now.words in
    let whole : void ws ≡ true = grind (arith, common_steps) in
    (λ _ n. void-member ws n whole, λ _. refl)
