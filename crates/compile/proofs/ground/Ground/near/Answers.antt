use Rattle.std.proofs.Common.{ℕ, List, length, sym, ap, ◌∙◌}
use Rattle.std.proofs.lemmas.List.{length-map}
use Rattle.compile.specs.Tables.{name_at}
use Rattle.compile.specs.Numbers.{reached}
use Rattle.compile.specs.World.{world}
use Rattle.compile.specs.Lowered.{packages_of}
use Rattle.compile.proofs.ground.Ground.near.Goals as goal

pub returns : goal.returns
returns g c =
    let w = world g.M.Matcher.matches g.O.DependencyOracle.depends c.args.self.now in
    let t = c.args.self.now.tables in
    c.reached_from.ensures
    ∙ ap (λ (s : List ℕ). reached c.args.way w.depends s (length t.packages.now)) c.packages.ensures
    ∙ ap (reached c.args.way w.depends (packages_of w c.args.wanted.kind c.args.wanted.value.now)) (sym (length-map t.packages.now (name_at t.names.now)))
