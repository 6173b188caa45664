use Rattle.std.proofs.Common.{◌≡◌, ℕ, subst, arith}
use Rattle.expression.specs.NumberSets.{size}
use Rattle.expression.proofs.Paths.{Through}
use Rattle.expression.proofs.Paths.{through-none, through-more, through-all, reaches_known}
use Rattle.expression.proofs.oracle.Reachability.new.Goals as goal

pub loop-k-init : goal.loop-k-init
loop-k-init c = through-none c.args.edges.now c.direct-reached.result.rows c.direct-reached.ensures

pub loop-k-preserved : goal.loop-k-preserved
loop-k-preserved c =
    through-more c.args.edges.now c.loop-k.k c.loop-k.reached.rows c.join_through.new.self.rows c.join_through.ensures c.loop-k.invariant

pub returns : goal.returns
returns c =
    let es = c.args.edges.now in let rows = c.loop-k.reached.rows in
    let e : c.loop-k.k ≡ size = omega arith in
    let whole = through-all es rows (subst (λ (k : ℕ). Through es k rows) e c.loop-k.invariant) in
    record { closure = whole; known = λ a b h. reaches_known ((whole a b).0 h) }
