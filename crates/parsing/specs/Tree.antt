-- The tree of a filter: sets, and what joins, negates and brackets them; with the names as N has them.
use Rattle.std.specs.Prelude.{ℕ, ◌+◌, max, List, [], ◌∷◌, ◌++◌}
use Rattle.glob.specs.declared.place.Place.{Place}
use Rattle.glob.specs.Glob.{WellFormed}
use Rattle.parsing.specs.declared.nodes.Predicate.{Predicate}
use Rattle.expression.specs.declared.name_matcher.MatchKind.{MatchKind}
use Rattle.expression.specs.declared.name_matcher.MatchKind.TheVariants.{Equal, Contains, Glob}
use Rattle.expression.specs.declared.queries.BuildPlatform.{BuildPlatform}
use Rattle.parsing.specs.declared.nodes.Operator.{Operator}

-- a set, with the part of the text that it is reported by
pub data Leaf (N : Type 0) : Type 0 where
  matched : Predicate → MatchKind → N → Place → Leaf N
  platform : BuildPlatform → Place → Leaf N
  default : Place → Leaf N
  all : Leaf N
  none : Leaf N

-- an operand that is missing or faulty is `bad`: no rule of the grammar derives it
pub data Tree (N : Type 0) : Type 0 where
  bad : Tree N
  set : Leaf N → Tree N
  negated : Tree N → Tree N
  group : Tree N → Tree N
  joined : Operator → Tree N → Tree N → Tree N

-- how many nests are open at once: a group or a `not` opens one for what it holds
abbrev pub nests : {N : Type 0} → Tree N → ℕ
nests bad = 0
nests (set l) = 0
nests (negated x) = nests x + 1
nests (group x) = nests x + 1
nests (joined o x y) = max (nests x) (nests y)

-- how many parts it has: sets, brackets, not signs and joining signs
abbrev pub parts : {N : Type 0} → Tree N → ℕ
parts bad = 0
parts (set l) = 1
parts (negated x) = parts x + 1
parts (group x) = parts x + 1
parts (joined o x y) = parts x + (parts y + 1)

-- every name that is a glob is a well-formed one
abbrev pub FineLeaf : Leaf (List ℕ) → Type 0
FineLeaf (matched p Equal b at) = Unit {0}
FineLeaf (matched p Contains b at) = Unit {0}
FineLeaf (matched p Glob b at) = WellFormed b
FineLeaf (platform h at) = Unit {0}
FineLeaf (default at) = Unit {0}
FineLeaf all = Unit {0}
FineLeaf none = Unit {0}

abbrev pub GlobsFine : Tree (List ℕ) → Type 0
GlobsFine bad = Unit {0}
GlobsFine (set l) = FineLeaf l
GlobsFine (negated x) = GlobsFine x
GlobsFine (group x) = GlobsFine x
GlobsFine (joined o x y) = GlobsFine x × GlobsFine y

-- a node: a set, or what stands after its operands
pub data Word (N : Type 0) : Type 0 where
  leaf : Leaf N → Word N
  negation : Word N
  brackets : Word N
  operator : Operator → Word N

-- the nodes of a tree, operands first
abbrev pub postfix : {N : Type 0} → Tree N → List (Word N)
postfix bad = []
postfix (set l) = leaf l ∷ []
postfix (negated x) = postfix x ++ (negation ∷ [])
postfix (group x) = postfix x ++ (brackets ∷ [])
postfix (joined o x y) = postfix x ++ (postfix y ++ (operator o ∷ []))

-- the same with other names
abbrev pub renamed_leaf : {N M : Type 0} → (N → M) → Leaf N → Leaf M
renamed_leaf f (matched p k n at) = matched p k (f n) at
renamed_leaf f (platform h at) = platform h at
renamed_leaf f (default at) = default at
renamed_leaf f all = all
renamed_leaf f none = none

abbrev pub renamed : {N M : Type 0} → (N → M) → Tree N → Tree M
renamed f bad = bad
renamed f (set l) = set (renamed_leaf f l)
renamed f (negated x) = negated (renamed f x)
renamed f (group x) = group (renamed f x)
renamed f (joined o x y) = joined o (renamed f x) (renamed f y)
