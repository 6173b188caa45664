-- What an evaluation of nodes answers, on a stack with a number of places.
use Rattle.std.specs.Prelude.{◌≡◌, ℕ, ◌≤◌, Bool, List, length, IfSome, Some, Option}
use Rattle.expression.specs.Logic.{Ops, truth}
use Rattle.expression.specs.Tree.{Tree, postfix, value, places, EachLeaf}
use Rattle.expression.specs.declared.nodes.Node.{Node}

-- the nodes write the tree down
abbrev pub Writes : {T : Type 0} → List (Node T) → Tree T → Type 0
Writes nodes t = postfix t ≡ nodes

-- the answer of an evaluation of nodes, where f gives the values of the leaves
pub record Evaluation {T L : Type 0} (o : Ops L) (fits : L → Bool → Type 0) (f : T → L) (nodes : List (Node T)) (room : ℕ) (r : Option L) : Type 0 where
  -- the value of the tree that the nodes write down, if there is room for it
  pub value_of : (t : Tree T) → Writes nodes t → places t ≤ room → r ≡ Some (value o f t)
  -- no value but where the nodes write down a tree and there is room for it
  pub only : IfSome r (λ _. (t : Tree T) × Writes nodes t × (places t ≤ room))
  -- they write down one tree at most
  pub unique : (t u : Tree T) → Writes nodes t → Writes nodes u → t ≡ u
  -- 96 places serve every tree of up to 191 nodes
  pub enough : (t : Tree T) → Writes nodes t → length nodes ≤ 191 → 96 ≤ room → r ≡ Some (value o f t)
  -- where each leaf's value fits its truth value, the answer fits the tree's truth value
  pub fitting : (b : T → Bool) (t : Tree T) → Writes nodes t → EachLeaf (λ x. fits (f x) (b x)) t → IfSome r (λ v. fits v (value truth b t))
