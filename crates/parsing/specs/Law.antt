-- What reading a text promises in the words of the grammar: it is accepted exactly if the rules derive it within the limits, and the nodes are those of its one tree.
use Rattle.std.specs.Prelude.{◌≡◌, ℕ, ◌≤◌, List, map, length, Some, Ok, Result}
use Rattle.errors.specs.declared.faults.ReadingFault.{ReadingFault}
use Rattle.parsing.specs.declared.nodes.ParsedNode.{ParsedNode}
use Rattle.parsing.specs.Grammar.{Filter, Fine}
use Rattle.parsing.specs.Nodes.{word_in}
use Rattle.parsing.specs.Tree.{Tree, postfix}

-- the nodes write down the tree x, each name with its bytes in the text t or the decoding space s
abbrev pub Says : List ℕ → List ℕ → List ParsedNode → Tree (List ℕ) → Type 0
Says t s nodes x = map (word_in t s) nodes ≡ map (λ w. Some w) (postfix x)

-- a tree of the text that the nodes write down
pub record Said (t s : List ℕ) (nodes : List ParsedNode) : Type 0 where
  pub tree : Tree (List ℕ)
  pub fine : Fine t tree
  pub says : Says t s nodes tree

pub record Law (t s : List ℕ) (nodes : List ParsedNode) (r : Result (Unit {0}) ReadingFault) : Type 0 where
  -- a text that is accepted is a filter, and the nodes write it down
  pub sound : r ≡ Ok tt → (length t ≤ 1024) × Said t s nodes
  -- a filter is accepted, and the nodes write it down
  pub whole : (x : Tree (List ℕ)) → Fine t x → length t ≤ 1024 → (r ≡ Ok tt) × Says t s nodes x
  -- a text has one tree at most
  pub one : (x y : Tree (List ℕ)) → Filter t x → Filter t y → x ≡ y
