use Rattle.std.proofs.Common.{length, ℕ, Bool, sym, ap, ◌∙◌}
use Rattle.expression.specs.declared.number_set.NumberSet.{NumberSet}
use Rattle.expression.specs.NumberSets.{width}
use Rattle.expression.proofs.SetLaws.{set_of-none, set_of-in, set_of-out}
use Rattle.compile.specs.Numbers.{is_led}
use Rattle.compile.proofs.ground.Ground.reached_from.Goals as goal
use Rattle.compile.proofs.ground.Ground.reached_from.Goals.{then-is_led, else-is_led}

pub loop-to-init : goal.loop-to-init
loop-to-init g c = c.new-found.ensures.words ∙ set_of-none width (is_led c.args.way (g.O.DependencyOracle.depends c.args.self.now.oracle.now) c.args.set.words (length c.args.self.now.tables.packages.now))

pub loop-to-preserved : goal.loop-to-preserved
loop-to-preserved g c =
    let p : ℕ → Bool = is_led c.args.way (g.O.DependencyOracle.depends c.args.self.now.oracle.now) c.args.set.words (length c.args.self.now.tables.packages.now) in
    let i = c.loop-to.to in
    let s = c.loop-to.found.words in
    elim c.if-is_led.branch [
      | then-is_led w ↦ ap (λ (x : NumberSet). x.words) w.found-is ∙ w.insert.ensures.words ∙ set_of-in width p i s (sym c.is_led.ensures ∙ w.if-is_led.true) c.loop-to.invariant
      | else-is_led w ↦ ap (λ (x : NumberSet). x.words) w.found-is ∙ set_of-out width p i s (sym c.is_led.ensures ∙ w.if-is_led.false) c.loop-to.invariant
    ]
