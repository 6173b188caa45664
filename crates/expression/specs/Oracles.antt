-- What the two oracles mean: for each package the set of those that it depends on, or a table of bits.
use Rattle.std.specs.Prelude.{ℕ, min, Bool, ◌&&◌, List, [], length, Decides, nat_lt, slice_index, slice_index_or}
use Rattle.expression.specs.NumberSets.{bit, member}
use Rattle.expression.specs.Dependencies.{Reaches}
use Rattle.expression.specs.declared.number_set.NumberSet.{NumberSet}
use Rattle.expression.specs.declared.oracle.Edge.{Edge}
use Rattle.expression.specs.declared.oracle.Reachability.{Reachability}

-- the set of no package
abbrev pub no_packages : NumberSet
no_packages = record { words = [] }

-- the set of a has b
abbrev pub link : List NumberSet → ℕ → ℕ → Bool
link rows a b = member (slice_index_or rows a no_packages).words b

-- what is held for a has b
abbrev pub reachable : Reachability → ℕ → ℕ → Bool
reachable s = link s.rows

-- b is held for a exactly when a reaches b
abbrev pub Closure : List Edge → Reachability → Type 0
Closure es s = (a b : ℕ) → Decides (reachable s a b) (Reaches es a b)

-- how many packages a table of bits knows: one for each row, and at most 64
abbrev pub known_rows : List ℕ → ℕ
known_rows rows = min (length rows) 64

-- both packages are known, and bit b of row a is set
abbrev pub table_depends : List ℕ → ℕ → ℕ → Bool
table_depends rows a b = nat_lt a (known_rows rows) && (nat_lt b (known_rows rows) && bit (slice_index rows a) b)
