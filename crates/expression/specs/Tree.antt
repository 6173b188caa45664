-- Expressions over leaves as trees: their postfix form, their value in a logic, and the stack that they need.
use Rattle.std.specs.Prelude.{ℕ, ◌+◌, max, List, [], ◌∷◌, ◌++◌}
use Rattle.expression.specs.Logic.{Ops}
use Rattle.expression.specs.declared.nodes.Node.{Node}
use Rattle.expression.specs.declared.nodes.Node.TheVariants.{Leaf, Not, And, Or}

-- a leaf, or an operator with its operands
pub data Tree (T : Type 0) : Type 0 where
  leaf : T → Tree T
  complement : Tree T → Tree T
  intersection : Tree T → Tree T → Tree T
  union : Tree T → Tree T → Tree T

-- the nodes that write a tree down: the operands, then the operator
abbrev pub postfix : {T : Type 0} → Tree T → List (Node T)
postfix (leaf x) = Leaf x ∷ []
postfix (complement t) = postfix t ++ Not ∷ []
postfix (intersection t u) = postfix t ++ (postfix u ++ And ∷ [])
postfix (union t u) = postfix t ++ (postfix u ++ Or ∷ [])

-- a tree's value in a logic, where f gives the values of the leaves
abbrev pub value : {T L : Type 0} → Ops L → (T → L) → Tree T → L
value o f (leaf x) = f x
value o f (complement t) = o.negated (value o f t)
value o f (intersection t u) = o.both (value o f t) (value o f u)
value o f (union t u) = o.either (value o f t) (value o f u)

-- how many values wait at most while a tree is evaluated: the left operand's value waits for the right one's
abbrev pub places : {T : Type 0} → Tree T → ℕ
places (leaf x) = 1
places (complement t) = places t
places (intersection t u) = max (places t) (places u + 1)
places (union t u) = max (places t) (places u + 1)

-- each leaf of the tree has P
abbrev pub EachLeaf : {T : Type 0} → (T → Type 0) → Tree T → Type 0
EachLeaf P (leaf x) = P x
EachLeaf P (complement t) = EachLeaf P t
EachLeaf P (intersection t u) = EachLeaf P t × EachLeaf P u
EachLeaf P (union t u) = EachLeaf P t × EachLeaf P u
