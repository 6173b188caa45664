-- The nodes that the code holds: the postfix of a tree, with the names as they were read.
use Rattle.std.specs.Prelude.{ℕ, List, map, Some, Option}
use Rattle.std.specs.Option.{option_map}
use Rattle.unicode_string.specs.Names.{bytes_in}
use Rattle.parsing.specs.declared.nodes.ParsedLeaf.{ParsedLeaf}
use Rattle.parsing.specs.declared.nodes.ParsedLeaf.TheVariants as parsed
use Rattle.parsing.specs.declared.nodes.ParsedNode.{ParsedNode}
use Rattle.parsing.specs.declared.nodes.ParsedNode.TheVariants as node
use Rattle.parsing.specs.Tree.{Leaf, Tree, Word, postfix}
use Rattle.parsing.specs.Reading.{Called}

abbrev pub leaf_of : Leaf Called → ParsedLeaf
leaf_of (Leaf.matched p k n at) = parsed.Matched p (record { kind = k; name = n.name }) at
leaf_of (Leaf.platform h at) = parsed.Platform h at
leaf_of (Leaf.default at) = parsed.Default at
leaf_of Leaf.all = parsed.All
leaf_of Leaf.none = parsed.None

abbrev pub node_of : Word Called → ParsedNode
node_of (Word.leaf l) = node.Set (leaf_of l)
node_of Word.negation = node.Not
node_of Word.brackets = node.Parens
node_of (Word.operator o) = node.Joined o

abbrev pub nodes_of : Tree Called → List ParsedNode
nodes_of x = map node_of (postfix x)

-- what a node means, with the bytes of its name in the text t or the decoding space s
abbrev pub leaf_in : List ℕ → List ℕ → ParsedLeaf → Option (Leaf (List ℕ))
leaf_in t s (parsed.Matched p m at) = option_map (λ b. Leaf.matched p m.kind b at) (bytes_in t s m.name)
leaf_in t s (parsed.Platform h at) = Some (Leaf.platform h at)
leaf_in t s (parsed.Default at) = Some (Leaf.default at)
leaf_in t s parsed.All = Some Leaf.all
leaf_in t s parsed.None = Some Leaf.none

abbrev pub word_in : List ℕ → List ℕ → ParsedNode → Option (Word (List ℕ))
word_in t s (node.Set l) = option_map (λ x. Word.leaf x) (leaf_in t s l)
word_in t s node.Not = Some Word.negation
word_in t s node.Parens = Some Word.brackets
word_in t s (node.Joined o) = Some (Word.operator o)
