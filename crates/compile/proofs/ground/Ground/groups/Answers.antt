use Rattle.std.proofs.Common.{◌≡◌, [], ◌∷◌, map, codes, refl, sym, ap, ◌∙◌}
use Rattle.std.specs.Option.{option_map}
use Rattle.expression.specs.declared.number_set.NumberSet.{NumberSet}
use Rattle.expression.specs.NumberSets.{width, set_of}
use Rattle.expression.proofs.SetLaws.{set_of-none, set_of-in, set_of-out}
use Rattle.compile.specs.Tables.{name_at}
use Rattle.compile.specs.Numbers.{passes, groups_of, group_names}
use Rattle.compile.specs.World.{world, fits}
use Rattle.compile.proofs.ground.Ground.groups.Goals as goal
use Rattle.compile.proofs.ground.Ground.groups.Goals.{then-takes, else-takes}

pub returns-after-takes : goal.returns-after-takes
returns-after-takes g c =
    let t = c.args.self.now.tables in
    let f = fits (world g.M.Matcher.matches g.O.DependencyOracle.depends c.args.self.now) c.args.wanted.kind c.args.wanted.value.now in
    let p = passes f (group_names (map (name_at t.names.now) c.in-Some.rows.now)) in
    let none = c.new-set.ensures.words ∙ set_of-none width p in
    let global : c.if-takes.set.words ≡ set_of width p 1 = elim c.if-takes.branch [
      | then-takes w ↦ ap (λ (x : NumberSet). x.words) w.set-is ∙ w.insert.ensures.words ∙ set_of-in width p 0 c.new-set.result.words (sym c.takes.ensures ∙ w.if-takes.true) none
      | else-takes w ↦ ap (λ (x : NumberSet). x.words) w.set-is ∙ set_of-out width p 0 c.new-set.result.words (sym c.takes.ensures ∙ w.if-takes.false) none
    ] in
    c.insert_taken.ensures (codes "@global" ∷ []) refl global ∙ ap (λ z. groups_of f (option_map (map (name_at t.names.now)) (option_map (λ x. x.now) z))) (sym c.in-Some.is)

pub returns-in_default : goal.returns-in_default
returns-in_default g c =
    let t = c.args.self.now.tables in
    let f = fits (world g.M.Matcher.matches g.O.DependencyOracle.depends c.args.self.now) c.args.wanted.kind c.args.wanted.value.now in
    c.new-set.ensures.words ∙ set_of-none width (passes f []) ∙ ap (λ z. groups_of f (option_map (map (name_at t.names.now)) (option_map (λ x. x.now) z))) (sym c.in_default.is)
