-- Which part of a text has which tree: rules over parts from i up to j, with no cursor and no order of tries.
use Rattle.std.specs.Prelude.{◌≡◌, ℕ, ◌+◌, ◌-◌, ◌≤◌, false, List, ◌++◌, length, take, drop, codes, slice_index, slice_index_or, slice_range}
use Rattle.std.specs.Str.{NoCharPasses}
use Rattle.std.specs.Char.{is_not_whitespace}
use Rattle.glob.specs.declared.place.Place.{Place}
use Rattle.unicode_string.specs.Text.{is_word}
use Rattle.unicode_string.specs.Grammar.{Spells}
use Rattle.parsing.specs.declared.nodes.Predicate.{Predicate}
use Rattle.expression.specs.declared.name_matcher.MatchKind.{MatchKind}
use Rattle.expression.specs.declared.name_matcher.MatchKind.TheVariants.{Equal, Contains, Glob}
use Rattle.expression.specs.declared.queries.BuildPlatform.{BuildPlatform}
use Rattle.expression.specs.declared.queries.BuildPlatform.TheVariants.{Host, Target}
use Rattle.parsing.specs.declared.nodes.Operator.{Operator}
use Rattle.parsing.specs.declared.nodes.Operator.TheVariants.{Union, Intersection, Difference}
use Rattle.parsing.specs.Words.{name_of, usual}
use Rattle.parsing.specs.Tree.{Leaf, Tree, nests, parts, GlobsFine}

-- a blank: a space, LF, or CR LF
pub data Blank (t : List ℕ) (i : ℕ) : ℕ → Type 0 where
  space : slice_index_or t i 0 ≡ 32 → Blank t i (i + 1)
  newline : slice_index_or t i 0 ≡ 10 → Blank t i (i + 1)
  return : slice_index_or t i 0 ≡ 13 → slice_index t (i + 1) ≡ 10 → Blank t i (i + 2)

-- blanks in a row, also none
pub data Blanks (t : List ℕ) : ℕ → ℕ → Type 0 where
  none : {i : ℕ} → Blanks t i i
  more : {i k j : ℕ} → Blank t i k → Blanks t k j → Blanks t i j

-- the word w stands from i up to j
pub record Stands (t w : List ℕ) (i j : ℕ) : Type 0 where
  pub same : take (length w) (drop i t) ≡ w
  pub end : j ≡ i + length w

-- and no word byte follows it
pub record Keyword (t w : List ℕ) (i j : ℕ) : Type 0 where
  pub stands : Stands t w i j
  pub apart : is_word (slice_index t j) ≡ false

pub data NotSign (t : List ℕ) (i j : ℕ) : Type 0 where
  word : Keyword t (codes "not") i j → NotSign t i j
  mark : Stands t (codes "!") i j → NotSign t i j

-- a sign that joins the operands of an and-expression
pub data AndSign (t : List ℕ) (i j : ℕ) : Operator → Type 0 where
  word : Keyword t (codes "and") i j → AndSign t i j Intersection
  mark : Stands t (codes "&") i j → AndSign t i j Intersection
  minus : Stands t (codes "-") i j → AndSign t i j Difference

-- and of an or-expression
pub data OrSign (t : List ℕ) (i j : ℕ) : Type 0 where
  word : Keyword t (codes "or") i j → OrSign t i j
  bar : Stands t (codes "|") i j → OrSign t i j
  plus : Stands t (codes "+") i j → OrSign t i j

-- only characters of Unicode's White_Space, also none
abbrev pub White : List ℕ → Type 0
White s = NoCharPasses is_not_whitespace s

abbrev pub NoBlank : List ℕ → ℕ → Type 0
NoBlank t i = (j : ℕ) → Blank t i j → ⊥

-- neither a blank nor a mark nor `/` stands at i
pub record Unmarked (t : List ℕ) (i : ℕ) : Type 0 where
  pub blank : NoBlank t i
  pub equal : slice_index_or t i 0 ≡ 61 → ⊥
  pub contains : slice_index_or t i 0 ≡ 126 → ⊥
  pub glob : slice_index_or t i 0 ≡ 35 → ⊥
  pub slash : slice_index_or t i 0 ≡ 47 → ⊥

-- blanks, a mark or none, and a name b: how it is matched
pub data Argument (t : List ℕ) (p : Predicate) (i j : ℕ) (b : List ℕ) : MatchKind → Type 0 where
  equal : {k l : ℕ} → Blanks t i k → Stands t (codes "=") k l → Spells t l j b → Argument t p i j b Equal
  contains : {k l : ℕ} → Blanks t i k → Stands t (codes "~") k l → Spells t l j b → Argument t p i j b Contains
  glob : {k l : ℕ} → Blanks t i k → Stands t (codes "#") k l → Spells t l j b → Argument t p i j b Glob
  unmarked : {k : ℕ} → Blanks t i k → Unmarked t k → Spells t k j b → Argument t p i j b (usual p)

-- the name of a platform, with white space around it
pub data PlatformName : BuildPlatform → List ℕ → Type 0 where
  host : {v w : List ℕ} → White v → White w → PlatformName Host (v ++ (codes "host" ++ w))
  target : {v w : List ℕ} → White v → White w → PlatformName Target (v ++ (codes "target" ++ w))

-- blanks and `(`
pub record Open (t : List ℕ) (i j : ℕ) : Type 0 where
  pub start : ℕ
  pub blanks : Blanks t i start
  pub bracket : Stands t (codes "(") start j

abbrev pub between : ℕ → ℕ → Place
between i j = record { start = i; length = j - i }

-- a set that takes nothing: its name, `(`, white space and `)`
pub record Nothing (t w : List ℕ) (i j : ℕ) : Type 0 where
  pub named : ℕ
  pub from : ℕ
  pub to : ℕ
  pub name : Stands t w i named
  pub opened : Open t named from
  pub order : from ≤ to
  pub white : White (slice_range t from to)
  pub close : Stands t (codes ")") to j

pub data Set (t : List ℕ) (i j : ℕ) : Leaf (List ℕ) → Type 0 where
  matched : {p : Predicate} {m : MatchKind} {b : List ℕ} {k l n : ℕ} →
      Stands t (name_of p) i k → Open t k l → Argument t p l n b m → Stands t (codes ")") n j → Set t i j (Leaf.matched p m b (between l n))
  platform : {h : BuildPlatform} {b : List ℕ} {k l m n : ℕ} →
      Stands t (codes "platform") i k → Open t k l → Blanks t l m → NoBlank t m → Spells t m n b → PlatformName h b →
      Stands t (codes ")") n j → Set t i j (Leaf.platform h (between l n))
  default : Nothing t (codes "default") i j → Set t i j (Leaf.default (between i j))
  all : Nothing t (codes "all") i j → Set t i j Leaf.all
  none : Nothing t (codes "none") i j → Set t i j Leaf.none

mutual
  pub data Basic (t : List ℕ) : ℕ → ℕ → Tree (List ℕ) → Type 0 where
    set : {i k j : ℕ} {l : Leaf (List ℕ)} → Blanks t i k → Set t k j l → Basic t i j (Tree.set l)
    not : {i k l j : ℕ} {x : Tree (List ℕ)} → Blanks t i k → NotSign t k l → Basic t l j x → Basic t i j (Tree.negated x)
    group : {i k l m j : ℕ} {x : Tree (List ℕ)} → Open t i k → OrExpr t k l x → Blanks t l m → Stands t (codes ")") m j → Basic t i j (Tree.group x)

  pub data AndExpr (t : List ℕ) : ℕ → ℕ → Tree (List ℕ) → Type 0 where
    basic : {i j : ℕ} {x : Tree (List ℕ)} → Basic t i j x → AndExpr t i j x
    and : {i k l m j : ℕ} {o : Operator} {x y : Tree (List ℕ)} → AndExpr t i k x → Blanks t k l → AndSign t l m o → Basic t m j y → AndExpr t i j (Tree.joined o x y)

  pub data OrExpr (t : List ℕ) : ℕ → ℕ → Tree (List ℕ) → Type 0 where
    and_expr : {i j : ℕ} {x : Tree (List ℕ)} → AndExpr t i j x → OrExpr t i j x
    or : {i k l m j : ℕ} {x y : Tree (List ℕ)} → OrExpr t i k x → Blanks t k l → OrSign t l m → AndExpr t m j y → OrExpr t i j (Tree.joined Union x y)

-- the text has the tree x: an or-expression, blanks and the end
pub record Filter (t : List ℕ) (x : Tree (List ℕ)) : Type 0 where
  pub end : ℕ
  pub expr : OrExpr t 0 end x
  pub rest : Blanks t end (length t)

-- and the tree keeps to the limits, and its globs to their syntax
pub record Fine (t : List ℕ) (x : Tree (List ℕ)) : Type 0 where
  pub filter : Filter t x
  pub nested : nests x ≤ 32
  pub parted : parts x ≤ 128
  pub globs : GlobsFine x
