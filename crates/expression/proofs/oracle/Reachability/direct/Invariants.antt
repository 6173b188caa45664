use Rattle.std.proofs.Common.{◌≡◌, ℕ, ◌||◌, drop}
use Rattle.expression.specs.Oracles.{link}
use Rattle.expression.specs.Closing.{directly}
use Rattle.expression.proofs.oracle.Reachability.direct.Given as goal

abbrev pub invariant-loop-edge : goal.invariant-loop-edge
invariant-loop-edge l = (a b : ℕ) → (link l.reached.rows a b || directly (drop l.edge-index l.edges) a b) ≡ directly l.edges a b
