use Rattle.std.proofs.Common.{◌≡◌, ℕ, ◌+◌, [], ◌++◌, map, length, get_or, sym, ap, ◌∙◌, arith}
use Rattle.std.proofs.lemmas.List.{get_or-map, get_or-append-add, length-append, length-map}
use Rattle.expression.specs.declared.number_set.NumberSet.{NumberSet}
use Rattle.expression.specs.NumberSets.{width, set_of}
use Rattle.expression.proofs.SetLaws.{set_of-in, set_of-out}
use Rattle.compile.specs.Tables.{name_at}
use Rattle.compile.specs.Numbers.{passes}
use Rattle.compile.specs.World.{world, fits}
use Rattle.compile.proofs.Rows.{nowhere}
use Rattle.compile.proofs.ground.Ground.insert_taken.Goals as goal
use Rattle.compile.proofs.ground.Ground.insert_taken.Goals.{then-takes, else-takes}

pub loop-i-preserved : goal.loop-i-preserved
loop-i-preserved g c front long start =
    let f = fits (world g.M.Matcher.matches g.O.DependencyOracle.depends c.args.self.now) c.args.wanted.kind c.args.wanted.value.now in
    let h = name_at c.args.self.now.tables.names.now in
    let rows = c.args.rows.now in let i = c.loop-i.i in
    let p = passes f (front ++ map h rows) in let n = c.args.first + i in
    let there : get_or (front ++ map h rows) n [] ≡ h (get_or rows i nowhere) =
    ap (λ (k : ℕ). get_or (front ++ map h rows) (k + i) []) (sym long) ∙ get_or-append-add front (map h rows) i [] ∙ get_or-map h rows i nowhere [] c.loop-i-test.true in
    let same : c.takes.result ≡ p n = c.takes.ensures ∙ ap f (c.name.ensures ∙ sym there) in
    let before = c.loop-i.invariant front long start in
    let next : n + 1 ≡ c.args.first + (i + 1) = omega arith in
    let words : c.if-takes.set.words ≡ set_of width p (n + 1) = elim c.if-takes.branch [
      | then-takes w ↦ ap (λ (x : NumberSet). x.words) w.set-is ∙ w.insert.ensures.words ∙ set_of-in width p n c.loop-i.set.words (sym same ∙ w.if-takes.true) before
      | else-takes w ↦ ap (λ (x : NumberSet). x.words) w.set-is ∙ set_of-out width p n c.loop-i.set.words (sym same ∙ w.if-takes.false) before
    ] in
    words ∙ ap (set_of width p) next

pub returns : goal.returns
returns g c front long start =
    let f = fits (world g.M.Matcher.matches g.O.DependencyOracle.depends c.args.self.now) c.args.wanted.kind c.args.wanted.value.now in
    let names = map (name_at c.args.self.now.tables.names.now) c.args.rows.now in
    let all : c.args.first + c.loop-i.i ≡ length (front ++ names) =
    omega (arith, long, c.loop-i-test.false, c.loop-i.auto.i-end, length-append front names, length-map c.args.rows.now (name_at c.args.self.now.tables.names.now)) in
    c.loop-i.invariant front long start ∙ ap (set_of width (passes f (front ++ names))) all
