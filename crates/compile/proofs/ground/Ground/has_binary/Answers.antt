use Rattle.std.proofs.Common.{true, false}
use Rattle.compile.specs.Tables.{binary_at}
use Rattle.compile.specs.Numbers.{field_of}
use Rattle.compile.specs.World.{world, fits}
use Rattle.compile.proofs.Rows.{no_binary, any_more, any-all}
use Rattle.compile.proofs.ground.Ground.has_binary.Goals as goal

pub returns-then-takes_binary : goal.returns-then-takes_binary
returns-then-takes_binary g c =
    let t = c.args.self.now.tables in
    let f = fits (world g.M.Matcher.matches g.O.DependencyOracle.depends c.args.self.now) c.args.wanted.kind c.args.wanted.value.now in
    any_more (λ b. f (field_of c.args.field b)) (binary_at t.names.now) t.binaries.now c.loop-row.row-index no_binary true c.loop-row-test.true c.if-takes_binary.ensures c.loop-row.invariant

pub loop-row-preserved : goal.loop-row-preserved
loop-row-preserved g c =
    let t = c.args.self.now.tables in
    let f = fits (world g.M.Matcher.matches g.O.DependencyOracle.depends c.args.self.now) c.args.wanted.kind c.args.wanted.value.now in
    any_more (λ b. f (field_of c.args.field b)) (binary_at t.names.now) t.binaries.now c.loop-row.row-index no_binary false c.loop-row-test.true c.if-takes_binary.ensures c.loop-row.invariant

pub returns : goal.returns
returns g c =
    let t = c.args.self.now.tables in
    let f = fits (world g.M.Matcher.matches g.O.DependencyOracle.depends c.args.self.now) c.args.wanted.kind c.args.wanted.value.now in
    any-all (λ b. f (field_of c.args.field b)) (binary_at t.names.now) t.binaries.now c.loop-row.row-index c.loop-row-test.false c.loop-row.invariant
