-- Which sets each kind of filter bans, the reports on them, and the leftmost group of a filter.
use Rattle.std.specs.Prelude.{ℕ, Bool, true, false, cond, ◌||◌, List, [], ◌∷◌, ◌++◌, Some, None, Option}
use Rattle.std.specs.Option.{option_or}
use Rattle.errors.specs.declared.reports.Report.{Report}
use Rattle.errors.specs.declared.reports.ReportKind.TheVariants.{BannedPredicate}
use Rattle.parsing.specs.declared.nodes.Predicate.{Predicate}
use Rattle.parsing.specs.declared.nodes.Predicate.TheVariants as predicate
use Rattle.parsing.specs.declared.nodes.ParsedNode.{ParsedNode}
use Rattle.parsing.specs.Tree.{Leaf, Tree, Word}
use Rattle.compile.specs.declared.kinds.FiltersetKind.{FiltersetKind}
use Rattle.compile.specs.declared.kinds.FiltersetKind.TheVariants as kind
use Rattle.compile.specs.Reports.{note_if}
use Rattle.compile.specs.Words.{word_as}

abbrev pub is_test : Predicate → Bool
is_test predicate.Package = false
is_test predicate.Deps = false
is_test predicate.Rdeps = false
is_test predicate.Kind = false
is_test predicate.BinaryId = false
is_test predicate.Binary = false
is_test predicate.Test = true
is_test predicate.Group = false

abbrev pub is_group : Predicate → Bool
is_group predicate.Package = false
is_group predicate.Deps = false
is_group predicate.Rdeps = false
is_group predicate.Kind = false
is_group predicate.BinaryId = false
is_group predicate.Binary = false
is_group predicate.Test = false
is_group predicate.Group = true

-- an archive filter bans `test` and `group`, an override filter and the default filter `group`, a test filter nothing
abbrev pub bans_set : FiltersetKind → Predicate → Bool
bans_set kind.Test p = false
bans_set kind.TestArchive p = is_test p || is_group p
bans_set kind.OverrideFilter p = is_group p
bans_set kind.DefaultFilter p = is_group p

-- the default filter bans `default`
abbrev pub bans_default : FiltersetKind → Bool
bans_default kind.Test = false
bans_default kind.TestArchive = false
bans_default kind.OverrideFilter = false
bans_default kind.DefaultFilter = true

-- the report on a set that is banned: at its argument, or at the whole of `default()`
abbrev pub ban_leaf : {N : Type 0} → FiltersetKind → Leaf N → List Report
ban_leaf k (Leaf.matched p m n at) = note_if (bans_set k p) BannedPredicate at
ban_leaf k (Leaf.platform h at) = []
ban_leaf k (Leaf.default at) = note_if (bans_default k) BannedPredicate at
ban_leaf k Leaf.all = []
ban_leaf k Leaf.none = []

-- the report on a node
abbrev pub ban_word : {N : Type 0} → FiltersetKind → Word N → List Report
ban_word k (Word.leaf l) = ban_leaf k l
ban_word k Word.negation = []
ban_word k Word.brackets = []
ban_word k (Word.operator o) = []

-- the report on a node as the code holds it
abbrev pub ban_node : FiltersetKind → ParsedNode → List Report
ban_node k x = ban_word k (word_as x)

-- the reports on the banned sets of a tree, leftmost first
abbrev pub banned : {N : Type 0} → FiltersetKind → Tree N → List Report
banned k Tree.bad = []
banned k (Tree.set l) = ban_leaf k l
banned k (Tree.negated x) = banned k x
banned k (Tree.group x) = banned k x
banned k (Tree.joined o x y) = banned k x ++ banned k y

-- where the argument of a group starts
abbrev pub group_leaf : {N : Type 0} → Leaf N → Option ℕ
group_leaf (Leaf.matched p m n at) = cond (is_group p) (Some at.start) None
group_leaf (Leaf.platform h at) = None
group_leaf (Leaf.default at) = None
group_leaf Leaf.all = None
group_leaf Leaf.none = None

-- the same of a node
abbrev pub group_word : {N : Type 0} → Word N → Option ℕ
group_word (Word.leaf l) = group_leaf l
group_word Word.negation = None
group_word Word.brackets = None
group_word (Word.operator o) = None

-- the same of a node as the code holds it
abbrev pub group_at : ParsedNode → Option ℕ
group_at x = group_word (word_as x)

-- the first of them that there is
abbrev pub leftmost : {X : Type 0} → (X → Option ℕ) → List X → Option ℕ
leftmost f [] = None
leftmost f (x ∷ xs) = option_or (f x) (leftmost f xs)

-- where the argument of the leftmost group of a tree starts
abbrev pub leftmost_group : {N : Type 0} → Tree N → Option ℕ
leftmost_group Tree.bad = None
leftmost_group (Tree.set l) = group_leaf l
leftmost_group (Tree.negated x) = leftmost_group x
leftmost_group (Tree.group x) = leftmost_group x
leftmost_group (Tree.joined o x y) = option_or (leftmost_group x) (leftmost_group y)
