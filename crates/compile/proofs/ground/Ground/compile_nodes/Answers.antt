use Rattle.std.proofs.Common.{Err, sym, ap, ◌∙◌}
use Rattle.std.proofs.lemmas.Result.{err_from_is_err_and}
use Rattle.compile.specs.Words.{named}
use Rattle.compile.specs.World.{world}
use Rattle.compile.specs.Lowered.{emitted, copied, noted}
use Rattle.compile.proofs.BanTrees.{bans-of, group_of}
use Rattle.compile.proofs.LoweredTrees.{copied-tree, noted-tree, emitted-tree}
use Rattle.compile.proofs.Composed.{compiled-banned, compiled-no-groups, compiled-rest, refused-rest}
use Rattle.compile.proofs.ground.Ground.compile_nodes.Goals as goal

pub returns-in_err-check_bans : goal.returns-in_err-check_bans
returns-in_err-check_bans g c t h e =
    let y = err_from_is_err_and _ c.from_residual.ensures.1 in
    let n = named c.args.self.now in
    compiled-banned c.args.kind _ t c.args.reports.now _ _ _ c.in_err-check_bans.field-0.0 _
    (bans-of c.args.kind n c.args.parsed.now t e) c.check_bans.ensures.table (sym c.in_err-check_bans.was ∙ c.check_bans.ensures.answer) (y.1 ∙ ap Err y.2)

pub returns-in_err-check_groups : goal.returns-in_err-check_groups
returns-in_err-check_groups g c t h e =
    let y = err_from_is_err_and _ c.from_residual-in_err-check_groups.ensures.1 in
    let n = named c.args.self.now in
    let w = world g.M.Matcher.matches g.O.DependencyOracle.depends c.args.self.now in
    compiled-no-groups c.args.kind w t c.args.reports.now _ _ _ c.in_err-check_groups.field-0.0 _ c.leftmost_group-group.result
    (bans-of c.args.kind n c.args.parsed.now t e) c.check_bans.ensures.table c.in_ok-check_bans.ensures.answer
    (c.leftmost_group-group.ensures ∙ group_of n c.args.parsed.now t e) (sym c.in_err-check_groups.was ∙ c.check_groups.ensures) (y.1 ∙ ap Err y.2)

pub returns-in_err-lower : goal.returns-in_err-lower
returns-in_err-lower g c t h e =
    let y = err_from_is_err_and _ c.from_residual-in_err-lower.ensures.1 in
    let n = named c.args.self.now in
    let w = world g.M.Matcher.matches g.O.DependencyOracle.depends c.args.self.now in
    let b = bans-of c.args.kind n c.args.parsed.now t e in
    let q = c.leftmost_group-group.ensures ∙ group_of n c.args.parsed.now t e in
    let r = ap (noted w) (sym e) ∙ noted-tree w t in
    let is = sym c.in_err-lower.was ∙ c.lower.ensures.answer in
    compiled-rest c.args.kind w t c.args.reports.now c.check_bans.new.reports _ _ _ _ c.leftmost_group-group.result _
    b c.check_bans.ensures.table c.in_ok-check_bans.ensures.answer q c.in_ok-check_groups.ensures r c.lower.ensures.table (y.1 ∙ ap Err y.2 ∙ is)
    (refused-rest c.args.kind w t _ c.in_err-lower.field-0.0 _ c.leftmost_group-group.result _ b c.in_ok-check_bans.ensures.answer q c.in_ok-check_groups.ensures r is)

pub returns : goal.returns
returns g c t h e =
    let n = named c.args.self.now in
    let w = world g.M.Matcher.matches g.O.DependencyOracle.depends c.args.self.now in
    let b = bans-of c.args.kind n c.args.parsed.now t e in
    let q = c.leftmost_group-group.ensures ∙ group_of n c.args.parsed.now t e in
    let r = ap (noted w) (sym e) ∙ noted-tree w t in
    compiled-rest c.args.kind w t c.args.reports.now c.check_bans.new.reports _ _ _ _ c.leftmost_group-group.result _
    b c.check_bans.ensures.table c.in_ok-check_bans.ensures.answer q c.in_ok-check_groups.ensures r c.lower.ensures.table c.in_ok-lower.ensures.answer
    (λ _. record { nodes = c.lower.ensures.nodes ∙ ap (emitted w 0) (sym e) ∙ emitted-tree w 0 t h; names = c.lower.ensures.names ∙ ap copied (sym e) ∙ copied-tree t; group = q })
