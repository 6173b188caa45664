-- Parsed nodes as words of the grammar's trees, with the bytes of their names.
use Rattle.std.specs.Prelude.{ℕ, List}
use Rattle.unicode_string.specs.declared.Name.{Name}
use Rattle.unicode_string.specs.Names.{bytes_in}
use Rattle.parsing.specs.declared.nodes.ParsedLeaf.{ParsedLeaf}
use Rattle.parsing.specs.declared.nodes.ParsedLeaf.TheVariants as parsed
use Rattle.parsing.specs.declared.nodes.ParsedNode.{ParsedNode}
use Rattle.parsing.specs.declared.nodes.ParsedNode.TheVariants as node
use Rattle.parsing.specs.Tree.{Leaf, Word, renamed_leaf}
use Rattle.compile.specs.declared.ground.Ground.{Ground}
use Rattle.compile.specs.Tables.{or_empty}

-- the bytes of a name; none where its place does not lie in the text or the decoding space
abbrev pub named_in : List ℕ → List ℕ → Name → List ℕ
named_in text space name = or_empty (bytes_in text space name)

-- a set, with its name as it is held
abbrev pub leaf_as : ParsedLeaf → Leaf Name
leaf_as (parsed.Matched p m at) = Leaf.matched p m.kind m.name at
leaf_as (parsed.Platform h at) = Leaf.platform h at
leaf_as (parsed.Default at) = Leaf.default at
leaf_as parsed.All = Leaf.all
leaf_as parsed.None = Leaf.none

-- a node, with its name as it is held
abbrev pub word_as : ParsedNode → Word Name
word_as (node.Set l) = Word.leaf (leaf_as l)
word_as node.Not = Word.negation
word_as node.Parens = Word.brackets
word_as (node.Joined o) = Word.operator o

-- the same with other names
abbrev pub renamed_word : {N M : Type 0} → (N → M) → Word N → Word M
renamed_word f (Word.leaf l) = Word.leaf (renamed_leaf f l)
renamed_word f Word.negation = Word.negation
renamed_word f Word.brackets = Word.brackets
renamed_word f (Word.operator o) = Word.operator o

-- the bytes of a name, in what is lent
abbrev pub named : {M O : Type 0} → Ground M O → Name → List ℕ
named g name = named_in g.texts.text.now g.texts.space.now name

-- a set, with the bytes of its name
abbrev pub leaf_of : {M O : Type 0} → Ground M O → ParsedLeaf → Leaf (List ℕ)
leaf_of g l = renamed_leaf (named g) (leaf_as l)

-- a node, with the bytes of its name
abbrev pub word_of : {M O : Type 0} → Ground M O → ParsedNode → Word (List ℕ)
word_of g x = renamed_word (named g) (word_as x)
