use Rattle.std.proofs.Common.{[], map, refl, ◌∙◌}
use Rattle.expression.specs.NumberSets.{width}
use Rattle.expression.proofs.SetLaws.{set_of-none}
use Rattle.compile.specs.Tables.{name_at}
use Rattle.compile.specs.Numbers.{passes}
use Rattle.compile.specs.World.{world, fits}
use Rattle.compile.proofs.ground.Ground.packages.Goals as goal

pub returns : goal.returns
returns g c =
    let w = world g.M.Matcher.matches g.O.DependencyOracle.depends c.args.self.now in
    let t = c.args.self.now.tables in
    c.insert_taken.ensures [] refl (c.new-set.ensures.words ∙ set_of-none width (passes (fits w c.args.wanted.kind c.args.wanted.value.now) (map (name_at t.names.now) t.packages.now)))
