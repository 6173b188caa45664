-- What each node of a reading is lowered to: nodes of the filter, names that it keeps, and reports.
use Rattle.std.specs.Prelude.{◌≡◌, ℕ, ◌+◌, Bool, not, List, [], ◌∷◌, ◌++◌, length}
use Rattle.std.specs.List.{list_any}
use Rattle.errors.specs.Reports.{Log}
use Rattle.errors.specs.declared.reports.Report.{Report}
use Rattle.errors.specs.declared.reports.ReportKind.TheVariants.{NoPackageMatch, NoGroupMatch, NoBinaryIdMatch, NoBinaryNameMatch}
use Rattle.glob.specs.declared.place.Place.{Place}
use Rattle.expression.specs.declared.name_matcher.MatchKind.{MatchKind}
use Rattle.expression.specs.declared.nodes.Node.{Node}
use Rattle.expression.specs.declared.nodes.Node.TheVariants as node
use Rattle.expression.specs.NumberSets.{void}
use Rattle.parsing.specs.declared.nodes.Operator.{Operator}
use Rattle.parsing.specs.declared.nodes.Operator.TheVariants.{Union, Intersection, Difference}
use Rattle.parsing.specs.declared.nodes.Predicate.{Predicate}
use Rattle.parsing.specs.declared.nodes.Predicate.TheVariants.{Package, Deps, Rdeps, Kind, BinaryId, Binary, Test, Group}
use Rattle.parsing.specs.Tree.{Leaf, Word}
use Rattle.compile.specs.declared.filter.FilterLeaf.{FilterLeaf}
use Rattle.compile.specs.declared.filter.FilterLeaf.TheVariants as lowered
use Rattle.compile.specs.declared.filter.OwnName.{OwnName}
use Rattle.compile.specs.declared.matching.BinaryField.{BinaryField}
use Rattle.compile.specs.declared.matching.BinaryField.TheVariants.{Id, Name}
use Rattle.compile.specs.declared.matching.Direction.{Direction}
use Rattle.compile.specs.declared.matching.Direction.TheVariants.{Dependencies, Dependents}
use Rattle.compile.specs.Numbers.{numbers_of, groups_of, reached, field_of}
use Rattle.compile.specs.Reports.{note_if, logged}
use Rattle.compile.specs.World.{World, fits}

-- the packages whose name is taken
abbrev pub packages_of : World → MatchKind → List ℕ → List ℕ
packages_of w k v = numbers_of (fits w k v) w.tables.packages

-- the packages of the table that such a package depends on, or that depend on one
abbrev pub near_of : World → Direction → MatchKind → List ℕ → List ℕ
near_of w way k v = reached way w.depends (packages_of w k v) (length w.tables.packages)

-- the groups whose name is taken
abbrev pub groups_by : World → MatchKind → List ℕ → List ℕ
groups_by w k v = groups_of (fits w k v) w.tables.groups

-- some binary's id or name is taken
abbrev pub has_binary : World → BinaryField → MatchKind → List ℕ → Bool
has_binary w field k v = list_any (λ b. fits w k v (field_of field b)) w.tables.binaries

-- a name that the filter keeps, after u bytes of others
abbrev pub own : ℕ → MatchKind → List ℕ → OwnName
own u k v = record { kind = k; place = record { start = u; length = length v } }

-- a set that takes a name, where u bytes of names are kept before it
abbrev pub matched_leaf : World → ℕ → Predicate → MatchKind → List ℕ → FilterLeaf
matched_leaf w u Package k v = lowered.Packages (record { words = packages_of w k v })
matched_leaf w u Deps k v = lowered.Packages (record { words = near_of w Dependencies k v })
matched_leaf w u Rdeps k v = lowered.Packages (record { words = near_of w Dependents k v })
matched_leaf w u Kind k v = lowered.Kind (own u k v)
matched_leaf w u BinaryId k v = lowered.BinaryId (own u k v)
matched_leaf w u Binary k v = lowered.Binary (own u k v)
matched_leaf w u Test k v = lowered.Test (own u k v)
matched_leaf w u Group k v = lowered.Groups (record { words = groups_by w k v })

-- the bytes that it keeps
abbrev pub matched_name : Predicate → List ℕ → List ℕ
matched_name Package v = []
matched_name Deps v = []
matched_name Rdeps v = []
matched_name Kind v = v
matched_name BinaryId v = v
matched_name Binary v = v
matched_name Test v = v
matched_name Group v = []

-- its report, where it finds nothing
abbrev pub matched_note : World → Predicate → MatchKind → List ℕ → Place → List Report
matched_note w Package k v at = note_if (void (packages_of w k v)) NoPackageMatch at
matched_note w Deps k v at = note_if (void (near_of w Dependencies k v)) NoPackageMatch at
matched_note w Rdeps k v at = note_if (void (near_of w Dependents k v)) NoPackageMatch at
matched_note w Kind k v at = []
matched_note w BinaryId k v at = note_if (not (has_binary w Id k v)) NoBinaryIdMatch at
matched_note w Binary k v at = note_if (not (has_binary w Name k v)) NoBinaryNameMatch at
matched_note w Test k v at = []
matched_note w Group k v at = note_if (void (groups_by w k v)) NoGroupMatch at

-- a set, where u bytes of names are kept before it
abbrev pub leaf_for : World → ℕ → Leaf (List ℕ) → FilterLeaf
leaf_for w u (Leaf.matched p k v at) = matched_leaf w u p k v
leaf_for w u (Leaf.platform h at) = lowered.Platform h
leaf_for w u (Leaf.default at) = lowered.Default
leaf_for w u Leaf.all = lowered.All
leaf_for w u Leaf.none = lowered.None

-- the bytes that a set keeps
abbrev pub name_for : Leaf (List ℕ) → List ℕ
name_for (Leaf.matched p k v at) = matched_name p v
name_for (Leaf.platform h at) = []
name_for (Leaf.default at) = []
name_for Leaf.all = []
name_for Leaf.none = []

-- the report on a set that finds nothing
abbrev pub note_for : World → Leaf (List ℕ) → List Report
note_for w (Leaf.matched p k v at) = matched_note w p k v at
note_for w (Leaf.platform h at) = []
note_for w (Leaf.default at) = []
note_for w Leaf.all = []
note_for w Leaf.none = []

-- a sign that joins two operands: minus is and-not
abbrev pub signs : Operator → List (Node FilterLeaf)
signs Union = node.Or ∷ []
signs Intersection = node.And ∷ []
signs Difference = node.Not ∷ (node.And ∷ [])

-- the nodes that a node becomes: brackets vanish
abbrev pub emits : World → ℕ → Word (List ℕ) → List (Node FilterLeaf)
emits w u (Word.leaf l) = node.Leaf (leaf_for w u l) ∷ []
emits w u Word.negation = node.Not ∷ []
emits w u Word.brackets = []
emits w u (Word.operator o) = signs o

-- the bytes that a node keeps
abbrev pub copies : Word (List ℕ) → List ℕ
copies (Word.leaf l) = name_for l
copies Word.negation = []
copies Word.brackets = []
copies (Word.operator o) = []

-- the reports on a node
abbrev pub notes : World → Word (List ℕ) → List Report
notes w (Word.leaf l) = note_for w l
notes w Word.negation = []
notes w Word.brackets = []
notes w (Word.operator o) = []

-- how many nodes a sign becomes
abbrev pub sign_size : Operator → ℕ
sign_size Union = 1
sign_size Intersection = 1
sign_size Difference = 2

-- how many nodes a node becomes
abbrev pub size : Word (List ℕ) → ℕ
size (Word.leaf l) = 1
size Word.negation = 1
size Word.brackets = 0
size (Word.operator o) = sign_size o

-- the same of nodes in a row
abbrev pub emitted : World → ℕ → List (Word (List ℕ)) → List (Node FilterLeaf)
emitted w u [] = []
emitted w u (x ∷ xs) = emits w u x ++ emitted w (u + length (copies x)) xs

abbrev pub copied : List (Word (List ℕ)) → List ℕ
copied [] = []
copied (x ∷ xs) = copies x ++ copied xs

abbrev pub noted : World → List (Word (List ℕ)) → List Report
noted w [] = []
noted w (x ∷ xs) = notes w x ++ noted w xs

abbrev pub sizes : List (Word (List ℕ)) → ℕ
sizes [] = 0
sizes (x ∷ xs) = size x + sizes xs

-- what lowering writes to
pub record State : Type 0 where
  pub nodes : List (Node FilterLeaf)
  pub names : List ℕ
  pub log : Log

abbrev pub state : List (Node FilterLeaf) → List ℕ → Log → State
state ns bs l = record { nodes = ns; names = bs; log = l }

-- lowering the row takes s to e
pub record Lowers (w : World) (xs : List (Word (List ℕ))) (s e : State) : Type 0 where
  pub nodes : e.nodes ≡ s.nodes ++ emitted w (length s.names) xs
  pub names : e.names ≡ s.names ++ copied xs
  pub log : e.log ≡ logged s.log (noted w xs)
