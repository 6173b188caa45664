-- How sets of packages are closed under chains of edges, step by step.
use Rattle.std.specs.Prelude.{◌≡◌, ℕ, Bool, false, ◌&&◌, ◌||◌, List, [], ◌∷◌, ◌==◌, nat_lt}
use Rattle.expression.specs.NumberSets.{size}
use Rattle.expression.specs.Oracles.{link}
use Rattle.expression.specs.declared.number_set.NumberSet.{NumberSet}
use Rattle.expression.specs.declared.oracle.Edge.{Edge}

-- both packages of an edge lie below 64
abbrev pub within : Edge → Bool
within e = nat_lt e.from size && nat_lt e.to size

-- a and b are the two numbers
abbrev pub are : ℕ → ℕ → ℕ → ℕ → Bool
are x y a b = x == a && y == b

-- what one edge says: its packages reach themselves, and the first the second
abbrev pub edge_links : Edge → ℕ → ℕ → Bool
edge_links e a b = within e && (are e.from e.from a b || are e.from e.to a b || are e.to e.to a b)

-- what the edges say without a chain
abbrev pub directly : List Edge → ℕ → ℕ → Bool
directly [] a b = false
directly (e ∷ es) a b = edge_links e a b || directly es a b

-- what one edge says besides
abbrev pub WithEdge : List NumberSet → Edge → List NumberSet → Type 0
WithEdge was e rows = (a b : ℕ) → link rows a b ≡ (link was a b || edge_links e a b)

-- what the edges say without a chain, as sets
abbrev pub Direct : List Edge → List NumberSet → Type 0
Direct es rows = (a b : ℕ) → link rows a b ≡ directly es a b

-- a has also what k has, if it has k
abbrev pub Joined : List NumberSet → ℕ → List NumberSet → Type 0
Joined was k rows = (a b : ℕ) → link rows a b ≡ (link was a b || (link was a k && link was k b))
