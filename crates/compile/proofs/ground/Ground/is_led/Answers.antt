use Rattle.std.proofs.Common.{length, sym, ◌∙◌}
use Rattle.std.proofs.lemmas.Bool.{and_from, and_left, and_right, or_from}
use Rattle.expression.specs.NumberSets.{some_below}
use Rattle.expression.proofs.SetLaws.{some_more, some_at}
use Rattle.compile.specs.Numbers.{leads_from}
use Rattle.compile.proofs.ground.Ground.is_led.Goals as goal
use Rattle.compile.proofs.ground.Ground.is_led.Goals.{else-contains-via-then-contains+else-leads, else-contains-via-else-contains}

pub returns-then-leads : goal.returns-then-leads
returns-then-leads g c =
    let p = leads_from c.args.way (g.O.DependencyOracle.depends c.args.self.now.oracle.now) c.args.set.words c.args.to in
    let q = c.loop-from.from in
    sym (some_at p (length c.args.self.now.tables.packages.now) q c.loop-from-test.true (and_from _ _ (sym c.if-contains.ensures.value) (sym c.if-leads.ensures)))

pub loop-from-preserved : goal.loop-from-preserved
loop-from-preserved g c =
    let p = leads_from c.args.way (g.O.DependencyOracle.depends c.args.self.now.oracle.now) c.args.set.words c.args.to in
    let q = c.loop-from.from in
    some_more p q ∙ or_from (some_below p q) (p q) c.loop-from.invariant (elim c.else-contains.branch [
      | else-contains-via-then-contains+else-leads w ↦ and_right _ _ (sym w.leads.ensures ∙ w.if-leads.false)
      | else-contains-via-else-contains w ↦ and_left _ _ (sym c.contains.ensures.value ∙ w.if-contains.false)
    ])
